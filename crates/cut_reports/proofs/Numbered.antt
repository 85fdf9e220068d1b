-- Texts that have a line for some of the events.
use Rattle.std.proofs.Common.{◌≡◌, ℕ, zero, suc, ◌+◌, ◌<◌, List, [], ◌∷◌, ◌++◌, length, take, get_or, Some, None, Bool, true, false, refl, sym, ap, ◌∙◌, append_assoc, append-nil, add-zero, arith, cond}
use Rattle.std.proofs.lemmas.List.{length-take-le, take_more}
use Rattle.cut_reports.specs.inner.Numbered.{numbered_text}

numbered-last : (line : ℕ → List ℕ → List ℕ) (number : ℕ) (names : List (List ℕ)) (name : List ℕ)
    → numbered_text line number (names ++ name ∷ []) ≡ numbered_text line number names ++ line (number + length names) name
numbered-last line number [] name = append-nil (line number name) ∙ ap (λ n. line n name) (sym (add-zero number))
numbered-last line number (first ∷ names) name =
    let at : number + 1 + length names ≡ number + suc (length names) = omega arith in
    ap (λ t. line number first ++ t) (numbered-last line (number + 1) names name ∙ ap (λ n. numbered_text line (number + 1) names ++ line n name) at)
    ∙ sym (append_assoc (line number first) (numbered_text line (number + 1) names) (line (number + suc (length names)) name))

-- what is written of one name more
pub numbered_next : (line : ℕ → List ℕ → List ℕ) (number : ℕ) (names : List (List ℕ)) (k at : ℕ) (name before first after : List ℕ) → at ≡ number + k → k < length names → name ≡ get_or names k name
    → before ≡ first ++ numbered_text line number (take k names) → after ≡ before ++ line at name → after ≡ first ++ numbered_text line number (take (k + 1) names)
numbered_next line number names k at name before first after here h is e f =
    let front : List (List ℕ) = take k names in
    f ∙ ap (λ n. before ++ line n name) here ∙ ap (λ t. t ++ line (number + k) name) e
    ∙ append_assoc first (numbered_text line number front) (line (number + k) name)
    ∙ ap (λ n. first ++ (numbered_text line number front ++ line (number + n) name)) (sym (length-take-le k names (omega arith)))
    ∙ ap (λ t. first ++ t) (sym (numbered-last line number front name))
    ∙ ap (λ n. first ++ numbered_text line number (front ++ n ∷ [])) is
    ∙ ap (λ t. first ++ numbered_text line number t) (sym (take_more names k name h))

-- lines that are the same make the same text
pub numbered_same : (a b : ℕ → List ℕ → List ℕ) (number : ℕ) (names : List (List ℕ)) → ((n : ℕ) → n < length names → (name : List ℕ) → a (number + n) name ≡ b (number + n) name)
    → numbered_text a number names ≡ numbered_text b number names
numbered_same a b number [] same = refl
numbered_same a b number (name ∷ names) same =
    let here : a number name ≡ b number name = ap (λ n. a n name) (sym (add-zero number)) ∙ same 0 (omega arith) name ∙ ap (λ n. b n name) (add-zero number) in
    let later : numbered_text a (number + 1) names ≡ numbered_text b (number + 1) names =
    numbered_same a b (number + 1) names (λ n h other. let at : number + 1 + n ≡ number + suc n = omega arith in ap (λ m. a m other) at ∙ same (suc n) (omega arith) other ∙ ap (λ m. b m other) (sym at)) in
    ap (λ t. t ++ numbered_text a (number + 1) names) here ∙ ap (λ t. b number name ++ t) later

-- the width of a report that has begun
pub begun_width : (begun : Bool) (n m : ℕ) → cond begun (Some n) None ≡ Some m → n ≡ m
begun_width true n m e = cc
begun_width false n m e = absurd (cc)

-- what stands at a place of a list does not hang on what would be read past its end
pub get_or_any : (names : List (List ℕ)) (k : ℕ) → k < length names → get_or names k [] ≡ get_or names k (get_or names k [])
get_or_any [] k h = absurd (omega arith)
get_or_any (name ∷ names) zero h = refl
get_or_any (name ∷ names) (suc k) h = other names k (get_or names k []) (omega arith) where
  other : (names : List (List ℕ)) (k : ℕ) (d : List ℕ) → k < length names → get_or names k [] ≡ get_or names k d
  other [] k d h = absurd (omega arith)
  other (name ∷ names) zero d h = refl
  other (name ∷ names) (suc k) d h = other names k d (omega arith)

-- the numbers may be one higher, where the lines are
pub numbered_from : (line : ℕ → List ℕ → List ℕ) (number : ℕ) (names : List (List ℕ)) → numbered_text (λ n name. line (n + 1) name) number names ≡ numbered_text line (number + 1) names
numbered_from line number [] = refl
numbered_from line number (name ∷ names) = ap (λ t. line (number + 1) name ++ t) (numbered_from line (number + 1) names)
