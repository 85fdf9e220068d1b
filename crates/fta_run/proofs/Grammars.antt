-- The units of tokens, and the first file whose tokens have none.
use Rattle.std.proofs.Common.{◌≡◌, ◌<◌, ℕ, suc, List, [], ◌∷◌, ◌++◌, length, get_or, Some, slice_get, refl, sym, ap, subst, ◌∙◌, inl, inr, ◌⊎◌, arith}
use Rattle.std.proofs.lemmas.Bool.{cases_lt}
use Rattle.std.proofs.lemmas.List.{ext_get_or, get_or_append_left, get_or_default}
use Rattle.std.proofs.Math.Seq.{get_or-append_seam}
use Rattle.std.proofs.lemmas.Option.{slice_get_read, get_or_from_slice_get}
use Rattle.aadl_syntax.specs.declared.token.Token.{Token}
use Rattle.plain_values.specs.declared.refusal.Refusal.{Refusal}
use Rattle.aadl_syntax.specs.declared.core_model.Unit.{Unit as FileUnit}
use Rattle.grammar_rules.proofs.Texts.{reads_once}
use Rattle.plain_values.specs.declared.refusal.Stop.{Stop}
use Rattle.plain_values.specs.declared.refusal.Stop.TheVariants as stop
use Rattle.plain_values.specs.Refusal.{refusal}
use Rattle.plain_values.specs.inner.Stops.{StopsFor}
use Rattle.phases.specs.inner.Meets.{IsMemory}
use Rattle.phases.specs.Phases.{Stops, rejects}
use Rattle.phases.specs.inner.Stopped.{status_of}
use Rattle.phases.specs.declared.status.Status.TheVariants.{Refused}
use Rattle.phases.proofs.Steps.{refused}
use Rattle.grammar_rules.specs.Texts.{token_place}
use Rattle.aadl_parser.specs.Packages.{file_units}
use Rattle.aadl_parser.specs.Nesting.{NestedAt}
use Rattle.aadl_parser.specs.Files.{IsSyntaxError, IsTooNested, too_nested}
use Rattle.aadl_parser.specs.inner.Files.{IsUnread}
use Rattle.fta_run.specs.Files.{AreUnits, AreUnitsOf, HaveUnits, LacksUnits}
use Rattle.fta_run.specs.Answers.{IsSameStatus}

-- the units of one more file
pub more_units : (tokens : List (List Token)) (files : List (List FileUnit)) (file : ℕ) (list : List Token) (units : List FileUnit) → length files ≡ file → file < length tokens → list ≡ get_or tokens file list → AreUnitsOf file list units
    → ((k : ℕ) → k < file → (t : List Token) → slice_get tokens k ≡ Some t → AreUnitsOf k t (get_or files k []))
    → (k : ℕ) → k < suc file → (t : List Token) → slice_get tokens k ≡ Some t → AreUnitsOf k t (get_or (files ++ units ∷ []) k [])
more_units tokens files file list units count within is found before k below t there =
    elim (cases_lt k file) [
      | inl earlier ↦ subst (AreUnitsOf k t) (sym (get_or_append_left files (units ∷ []) [] k (omega (arith, count, earlier)))) (before k earlier t there)
      | inr not_earlier ↦
          let here : k ≡ file = omega arith in
          let same : list ≡ t = is ∙ ap (λ n. get_or tokens n list) (sym here) ∙ get_or_from_slice_get tokens k t list there in
          let last : get_or (files ++ units ∷ []) k [] ≡ units = ap (λ n. get_or (files ++ units ∷ []) n []) (here ∙ sym count) ∙ get_or-append_seam files units [] [] in
          subst (AreUnitsOf k t) (sym last) (subst (λ n. AreUnitsOf n t units) (sym here) (subst (λ x. AreUnitsOf file x units) same found))
    ]

-- tokens that have units are not nested too deep and have no syntax error
not_stopped : (file : ℕ) (tokens : List Token) (end : ℕ) (refusal : Refusal) → HaveUnits file tokens → IsTooNested file tokens end refusal ⊎ IsSyntaxError file tokens end refusal → ⊥
not_stopped file tokens end refusal has stops =
    elim stops [
      | inl nested ↦ let over = nested.1.over in let at_most = has.1.shallow (suc nested.0) (omega (arith, nested.1.within)) in absurd (omega (arith, over, at_most))
      | inr wrong ↦ wrong.3 tokens (λ k below. refl) has.0 has.1.reads
    ]

-- where the tokens of a file have no units, not those of all files have them
pub lacks_or_have : (texts : List (List ℕ)) (tokens : List (List Token)) (files : List (List FileUnit)) (refusal : Refusal) → AreUnits tokens files → LacksUnits texts tokens refusal → ⊥
lacks_or_have texts tokens files refusal have lacks =
    not_stopped lacks.file lacks.its_tokens (length lacks.text) refusal (get_or files lacks.file [], have.each lacks.file lacks.its_tokens lacks.tokens_there) lacks.stops

-- tokens have one list of units each
pub one_units : (tokens : List (List Token)) (a b : List (List FileUnit)) → AreUnits tokens a → AreUnits tokens b → a ≡ b
one_units tokens a b h k =
    ext_get_or [] a b (h.as_many ∙ sym k.as_many)
    (λ file within.
    let inside : file < length tokens = omega (arith, h.as_many, within) in
    let there = slice_get_read tokens (length tokens) file (get_or tokens file []) refl inside (get_or_default tokens file [] (get_or tokens file []) inside) in
    (reads_once file file_units (get_or tokens file []) (get_or a file []) (get_or b file []) [] [] (h.each file (get_or tokens file []) there).reads (k.each file (get_or tokens file []) there).reads).0)

nested_once : (tokens : List Token) (m n : ℕ) → NestedAt tokens m → NestedAt tokens n → m ≡ n
nested_once tokens m n h k =
    elim (cases_lt m n) [
      | inl below ↦ absurd (omega (arith, h.over, k.first (suc m) (omega (arith, below))))
      | inr not_below ↦ elim (cases_lt n m) [
        | inl above ↦ absurd (omega (arith, k.over, h.first (suc n) (omega (arith, above))))
        | inr not_above ↦ omega arith
      ]
    ]

-- what stops one file is one refusal, but for the place of a syntax error
one_stop : (file : ℕ) (tokens : List Token) (end : ℕ) (a b : Refusal) → IsTooNested file tokens end a ⊎ IsSyntaxError file tokens end a → IsTooNested file tokens end b ⊎ IsSyntaxError file tokens end b → IsSameStatus (Refused a) (Refused b)
one_stop file tokens end a b h k =
    elim h [
      | inl p ↦ elim k [
        | inl q ↦ inl (ap Refused (p.2 ∙ ap (λ number. too_nested file (token_place tokens end number)) (nested_once tokens p.0 q.0 p.1 q.1) ∙ sym q.2))
        | inr q ↦ absurd (omega (arith, p.1.over, q.0 (suc p.0) (omega (arith, p.1.within))))
      ]
      | inr p ↦ elim k [
        | inl q ↦ absurd (omega (arith, q.1.over, p.0 (suc q.0) (omega (arith, q.1.within))))
        | inr q ↦ inr (file, token_place tokens end p.1, token_place tokens end q.1, ap Refused p.2, ap Refused q.2)
      ]
    ]

-- the first file without units is refused in one way, but for the place of a syntax error
pub lacks_once : (texts : List (List ℕ)) (tokens : List (List Token)) (a b : Refusal) → LacksUnits texts tokens a → LacksUnits texts tokens b → IsSameStatus (Refused a) (Refused b)
lacks_once texts tokens a b h k =
    elim (cases_lt h.file k.file) [
      | inl below ↦ absurd (not_stopped h.file h.its_tokens (length h.text) a (k.earlier h.file h.its_tokens below h.tokens_there) h.stops)
      | inr not_below ↦ elim (cases_lt k.file h.file) [
        | inl above ↦ absurd (not_stopped k.file k.its_tokens (length k.text) b (h.earlier k.file k.its_tokens above k.tokens_there) k.stops)
        | inr not_above ↦
            let number : k.file ≡ h.file = omega arith in
            let text : k.text ≡ h.text = sym (get_or_from_slice_get texts k.file k.text [] k.text_there) ∙ ap (λ n. get_or texts n []) number ∙ get_or_from_slice_get texts h.file h.text [] h.text_there in
            let list : k.its_tokens ≡ h.its_tokens = sym (get_or_from_slice_get tokens k.file k.its_tokens [] k.tokens_there) ∙ ap (λ n. get_or tokens n []) number ∙ get_or_from_slice_get tokens h.file h.its_tokens [] h.tokens_there in
            let stops = subst (λ n. IsTooNested n h.its_tokens (length h.text) b ⊎ IsSyntaxError n h.its_tokens (length h.text) b) number (subst (λ t. IsTooNested k.file h.its_tokens (length t) b ⊎ IsSyntaxError k.file h.its_tokens (length t) b) text (subst (λ ts. IsTooNested k.file ts (length k.text) b ⊎ IsSyntaxError k.file ts (length k.text) b) list k.stops)) in
            one_stop h.file h.its_tokens (length h.text) a b h.stops stops
      ]
    ]

-- where the tokens before have units, what stops those of a file stops the phase
pub units_stop : (texts : List (List ℕ)) (tokens : List (List Token)) (files : List (List FileUnit)) (file : ℕ) (text : List ℕ) (list : List Token) (why : Stop) → file < length texts → text ≡ get_or texts file text → file < length tokens → list ≡ get_or tokens file list
    → ((k : ℕ) → k < file → (t : List Token) → slice_get tokens k ≡ Some t → AreUnitsOf k t (get_or files k [])) → StopsFor (IsUnread file list (length text)) why
    → Stops (rejects (AreUnits tokens) (LacksUnits texts tokens)) (status_of why) ⊎ IsMemory (status_of why)
units_stop texts tokens files file text list (stop.Refused refusal) within is inside its before stops =
    let lacks : LacksUnits texts tokens refusal = record {
      file = file;
      text = text;
      text_there = slice_get_read texts (length texts) file text refl within is;
      its_tokens = list;
      tokens_there = slice_get_read tokens (length tokens) file list refl inside its;
      stops = stops;
      earlier = λ other other_tokens below there. (get_or files other [], before other below other_tokens there);
    } in
    refused lacks
units_stop texts tokens files file text list stop.Memory within is inside its before stops = inr refl
