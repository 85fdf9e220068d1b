-- What was written is the line of a step.
use Rattle.std.proofs.Common.{ℕ, zero, suc, ◌+◌, ◌≡◌, ◌<◌, List, length, drop, [], ◌∷◌, ◌++◌, map, decimal, unwrap_or, slice_get, slice_index_or, append_assoc, ap, ◌∙◌, sym, refl}
use Rattle.std.specs.Option.{option_map}
use Rattle.std.proofs.lemmas.Grind.{flat_map-append}
use Rattle.std.proofs.lemmas.List.{drop_more}
use Rattle.derivations.specs.declared.derivation.Firing.{Firing}
use Rattle.derivations.specs.Text.{behind_blanks, line_of, lines_of, name_at, use_text}

-- the name of a number, from the items and from the list of all names
pub named-at : {X : Type 0} (named : X → List ℕ) (items : List X) (n : ℕ) → unwrap_or (option_map named (slice_get items n)) [] ≡ slice_index_or (map named items) n []
named-at named [] n = refl
named-at named (item ∷ items) zero = refl
named-at named (item ∷ items) (suc n) = named-at named items n

behind-append : (us vs : List (List ℕ)) → behind_blanks us ++ behind_blanks vs ≡ behind_blanks (us ++ vs)
unfolding behind_blanks
behind-append us vs = sym (flat_map-append (λ word. 32 ∷ word) us vs)

behind-one : (word : List ℕ) (words : List (List ℕ)) → (32 ∷ word) ++ behind_blanks words ≡ behind_blanks (word ∷ words)
unfolding behind_blanks
behind-one word words = refl

pub line-written : (facts names : List (List ℕ)) (number : ℕ) (step : Firing) (old a b c d e : List ℕ) → a ≡ old ++ decimal (number + 1) → b ≡ a ++ (32 ∷ name_at facts step.fact) → c ≡ b ++ behind_blanks (map (name_at names) step.events) → d ≡ c ++ behind_blanks (map use_text step.uses) → e ≡ d ++ 10 ∷ []
    → e ≡ old ++ (line_of facts names number step ++ 10 ∷ [])
line-written facts names number step old a b c d e is_a is_b is_c is_d is_e =
    let events : List ℕ = behind_blanks (map (name_at names) step.events) in
    let uses : List ℕ = behind_blanks (map use_text step.uses) in
    let name : List ℕ = 32 ∷ name_at facts step.fact in
    let digits = decimal (number + 1) in
    let more = behind_blanks (map (name_at names) step.events ++ map use_text step.uses) in
    let words : events ++ uses ≡ more = behind-append (map (name_at names) step.events) (map use_text step.uses) in
    let tail : name ++ more ≡ behind_blanks (name_at facts step.fact ∷ (map (name_at names) step.events ++ map use_text step.uses)) = behind-one (name_at facts step.fact) (map (name_at names) step.events ++ map use_text step.uses) in
    let d_more : d ≡ b ++ more = is_d ∙ ap (λ w. w ++ uses) is_c ∙ append_assoc b events uses ∙ ap (λ w. b ++ w) words in
    let d_old : d ≡ old ++ line_of facts names number step =
    d_more ∙ ap (λ w. w ++ more) (is_b ∙ ap (λ w. w ++ name) is_a) ∙ append_assoc (old ++ digits) name more ∙ append_assoc old digits (name ++ more) ∙ ap (λ w. old ++ (digits ++ w)) tail in
    is_e ∙ ap (λ w. w ++ 10 ∷ []) d_old ∙ append_assoc old (line_of facts names number step) (10 ∷ [])

-- one line more: what was written and what is left are the whole
pub lines-next : (facts names : List (List ℕ)) (steps : List Firing) (i : ℕ) (step : Firing) (old new whole : List ℕ) → i < length steps → step ≡ slice_index_or steps i step → new ≡ old ++ (line_of facts names i step ++ 10 ∷ []) → old ++ lines_of facts names i (drop i steps) ≡ whole → new ++ lines_of facts names (i + 1) (drop (i + 1) steps) ≡ whole
lines-next facts names steps i step old new whole fits item is so_far =
    let line = line_of facts names i step in
    let rest = lines_of facts names (i + 1) (drop (i + 1) steps) in
    let left : drop i steps ≡ step ∷ drop (i + 1) steps = drop_more steps i step fits ∙ ap (λ (s : Firing). s ∷ drop (i + 1) steps) (sym item) in
    ap (λ (text : List ℕ). text ++ rest) is ∙ append_assoc old (line ++ 10 ∷ []) rest ∙ ap (λ (text : List ℕ). old ++ text) (append_assoc line (10 ∷ []) rest)
    ∙ ap (λ (more : List Firing). old ++ lines_of facts names i more) (sym left) ∙ so_far
