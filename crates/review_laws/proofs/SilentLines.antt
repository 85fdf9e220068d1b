-- What a `dry` or a `never` line names never comes about.
use Rattle.std.proofs.Common.{ℕ, ◌≡◌, ◌==◌, Bool, true, false, cond, not, List, [], ◌∷◌, ◌++◌, filter, length, Option, None, Some, inl, inr, ⊎_elim, ap, ◌∙◌, sym, subst, refl}
use Rattle.std.specs.Prelude.{◌&&◌, slice_index_or}
use Rattle.std.specs.List.{list_any}
use Rattle.std.specs.Option.{option_map_or}
use Rattle.std.proofs.lemmas.Bool.{false≢true, eqb-true, not-true, or_cases}
use Rattle.plain_values.specs.Numbered.{numbers_below}
use Rattle.propagation_points.specs.States.{all_variants}
use Rattle.fault_system.specs.Truth.{NumberSet, Has}
use Rattle.fault_system.specs.Systems.{System}
use Rattle.fault_system.proofs.Elements.{In, In-append, In-filter}
use Rattle.fault_system.proofs.HoldsLaws.{holds_of-exact}
use Rattle.instantiator.specs.declared.path.Component.{Component}
use Rattle.error_models.specs.declared.model.ErrorModel.{ErrorModel}
use Rattle.propagation_links.specs.declared.link.PointAt.{PointAt}
use Rattle.model_facts.specs.Assembly.{model_at}
use Rattle.model_facts.specs.Facts.{inward_of, is_linked, outward_of}
use Rattle.system_review.specs.Possible.{possible_in}
use Rattle.system_review.specs.inner.Possible.{IsPossible}
use Rattle.system_review.proofs.More.{holds-more}
use Rattle.model_review.specs.Findings.{dry_at, dry_sides, dry_with, if_any, never_at, never_out, never_state, never_states, of_components, types_at}
use Rattle.model_review.specs.Seen.{Seen, declared_for, may_come, number_at, state_number}
use Rattle.model_review.specs.declared.finding.Finding.{Finding}
use Rattle.model_review.specs.declared.finding.Finding.TheVariants.{Dry, Never, NeverState}
use Rattle.model_review.proofs.Parts.{any-none, given-by, part-of}
use Rattle.model_review.proofs.Untold.{in-if}
use Rattle.review_laws.specs.inner.Silent.{is_at, silent_facts, silent_findings, tells_silent}

-- what does not hold when all events occur never comes about
impossible : (system : System) (n : ℕ) → possible_in system n ≡ false → IsPossible system n → ⊥
impossible system n none (events, holds) =
    let all : NumberSet = λ event. true in
    false≢true (sym none ∙ (holds_of-exact system all n).1 (holds-more system events all (λ m e fact at occurs has. refl) n holds))

some-in : {X : Type 0} (test : X → Bool) (xs : List X) → list_any test xs ≡ true → (x : X) × In x xs × (test x ≡ true)
some-in test [] e = absurd (false≢true e)
some-in test (x ∷ xs) e = ⊎_elim
    (λ here. (x, inl refl, here))
    (λ there. let found = some-in test xs there in (found.0, inr found.1, found.2))
    (or_cases (test x) (list_any test xs) e)

module _ (seen : Seen) (n : ℕ) where
  -- the fact that is named is the one that may not come
  named-number : (number : Option ℕ) → option_map_or (λ m. m == n) number false ≡ true → may_come seen number ≡ false → possible_in seen.system n ≡ false
  named-number None named none = absurd (false≢true named)
  named-number (Some m) named none = subst (λ (k : ℕ). possible_in seen.system k ≡ false) (eqb-true m n named) none

  -- one of some types that may not come
  named-at : (side : PointAt) (types : List ℕ) → ((type : ℕ) → In type types → may_come seen (number_at seen side type) ≡ false) → is_at seen side types n ≡ true → possible_in seen.system n ≡ false
  named-at side types none named =
      let found = some-in (λ type. option_map_or (λ m. m == n) (number_at seen side type) false) types named in
      named-number (number_at seen side found.0) found.2 (none found.0 found.1)

  -- a line is of these types
  of-types : (side : PointAt) (types : List ℕ) (tells : List ℕ → Finding) → ((all : List ℕ) → tells_silent seen n (tells all) ≡ is_at seen side all n) → (finding : Finding) → In finding (if_any tells types) → tells_silent seen n finding ≡ true → is_at seen side types n ≡ true
  of-types side types tells are finding i silent = sym (are types) ∙ ap (tells_silent seen n) (in-if tells types finding i) ∙ silent

  dry-types : (some : Bool) (side : PointAt) (types : List ℕ) → list_any (λ type. may_come seen (number_at seen side type)) types ≡ some → (finding : Finding)
      → In finding (cond some [] (if_any (λ types. Dry (types_at side types)) types)) → tells_silent seen n finding ≡ true → possible_in seen.system n ≡ false
  dry-types true side types is finding i silent = absurd i
  dry-types false side types is finding i silent =
      named-at side types (any-none (λ type. may_come seen (number_at seen side type)) types is) (of-types side types (λ types. Dry (types_at side types)) (λ all. refl) finding i silent)

  dry-side : (linked : Bool) (side : PointAt) (declared : Option (List ℕ)) (finding : Finding) → In finding (cond linked (option_map_or (dry_with seen side) declared []) []) → tells_silent seen n finding ≡ true → possible_in seen.system n ≡ false
  dry-side false side declared finding i silent = absurd i
  dry-side true side None finding i silent = absurd i
  dry-side true side (Some types) finding i silent = dry-types (list_any (λ type. may_come seen (number_at seen side type)) types) side types refl finding i silent

  never-side : (side : PointAt) (declared : Option (List ℕ)) (finding : Finding)
      → In finding (option_map_or (λ types. if_any (λ types. Never (types_at side types)) (filter (λ type. not (may_come seen (number_at seen side type))) types)) declared []) → tells_silent seen n finding ≡ true → possible_in seen.system n ≡ false
  never-side side None finding i silent = absurd i
  never-side side (Some types) finding i silent =
      let test : ℕ → Bool = λ type. not (may_come seen (number_at seen side type)) in
      named-at side (filter test types) (λ type among. not-true (may_come seen (number_at seen side type)) (In-filter test type types among).1) (of-types side (filter test types) (λ types. Never (types_at side types)) (λ all. refl) finding i silent)

  never-in : (state : ℕ) (always may : Bool) (finding : Finding) → may ≡ may_come seen (state_number seen 0 state) → In finding (cond (not always && not may) (NeverState state ∷ []) []) → tells_silent seen n finding ≡ true → possible_in seen.system n ≡ false
  never-in state true may finding is i silent = absurd i
  never-in state false true finding is i silent = absurd i
  never-in state false false finding is i silent = ⊎_elim
      (λ same. named-number (state_number seen 0 state) (ap (tells_silent seen n) same ∙ silent) (sym is))
      (λ none. absurd none)
      i

  dry-told : (finding : Finding) → In finding (of_components seen (dry_sides seen)) → tells_silent seen n finding ≡ true → possible_in seen.system n ≡ false
  dry-told finding i silent =
      let (owner, j, component, is, at, given) = part-of (λ (k : ℕ) (c : Component). dry_sides seen k (model_at seen.numbered.assembly k)) finding 0 seen.numbered.assembly.instance.components i in
      let (number, m, point, place, there, its) = part-of (dry_at seen owner) finding 0 (model_at seen.numbered.assembly owner).points given in
      dry-side (is_linked seen.numbered.assembly.links (inward_of owner number)) (inward_of owner number) (declared_for point.inward) finding its silent

  never-told : (finding : Finding) → In finding (of_components seen (never_out seen)) → tells_silent seen n finding ≡ true → possible_in seen.system n ≡ false
  never-told finding i silent =
      let (owner, j, component, is, at, given) = part-of (λ (k : ℕ) (c : Component). never_out seen k (model_at seen.numbered.assembly k)) finding 0 seen.numbered.assembly.instance.components i in
      let (number, m, point, place, there, its) = part-of (never_at seen owner) finding 0 (model_at seen.numbered.assembly owner).points given in
      never-side (outward_of owner number) (declared_for point.outward) finding its silent

  state-told : (model : ErrorModel) (finding : Finding) → In finding (never_states seen model) → tells_silent seen n finding ≡ true → possible_in seen.system n ≡ false
  state-told model finding i silent =
      let (state, among, its) = given-by (never_state seen model) finding (numbers_below (length (all_variants model.states.sorts))) i in
      never-in state (slice_index_or model.states.always state false) (may_come seen (state_number seen 0 state)) finding refl its silent

  -- what a line names never comes about
  pub told-silent : Has (silent_facts seen) n → IsPossible seen.system n → ⊥
  told-silent named =
      let (finding, among, silent) = some-in (tells_silent seen n) (silent_findings seen) named in
      impossible seen.system n (⊎_elim
      (λ dry. dry-told finding dry silent)
      (λ others. ⊎_elim
      (λ never. never-told finding never silent)
      (λ states. state-told (model_at seen.numbered.assembly 0) finding states silent)
      (In-append finding (of_components seen (never_out seen)) (never_states seen (model_at seen.numbered.assembly 0)) others))
      (In-append finding (of_components seen (dry_sides seen)) (of_components seen (never_out seen) ++ never_states seen (model_at seen.numbered.assembly 0)) among))
