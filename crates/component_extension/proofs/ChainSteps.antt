-- The steps of the walk along a chain.
use Rattle.std.proofs.Common.{ℕ, suc, ◌+◌, ◌-◌, ◌^◌, ◌<◌, ◌≡◌, Bool, true, false, ◌||◌, cond, List, [], ◌∷◌, ◌++◌, Option, Some, None, is_some, Result, Ok, Err, refl, sym, ap, ◌∙◌, arith}
use Rattle.aadl_syntax.specs.declared.core_model.PackageUnit.{PackageUnit}
use Rattle.plain_values.specs.declared.refusal.Refusal.{Refusal}
use Rattle.plain_values.specs.declared.refusal.Stop.{Stop}
use Rattle.plain_values.specs.declared.refusal.Stop.TheVariants.{Memory, Refused}
use Rattle.package_index.specs.declared.id.ClassifierId.{ClassifierId}
use Rattle.package_index.specs.Lookup.{decl_of}
use Rattle.component_extension.specs.Chain.{chain_from, ends_or, is_among, next_of, same_id, then_so}
use Rattle.component_extension.specs.inner.Chain.{Answers}

-- ---- the table of a chain

among-more : (chain : List ClassifierId) (id other : ClassifierId) → is_among (chain ++ id ∷ []) other ≡ (is_among chain other || same_id id other)
among-more [] id other = or-none (same_id id other)
  where
    or-none : (b : Bool) → (b || false) ≡ b
    or-none true = refl
    or-none false = refl
among-more (first ∷ chain) id other = ap (λ b. same_id first other || b) (among-more chain id other) ∙ assoc (same_id first other) (is_among chain other) (same_id id other)
  where
    assoc : (a b c : Bool) → (a || (b || c)) ≡ ((a || b) || c)
    assoc true b c = refl
    assoc false b c = refl

some-cond : {V : Type 0} (b c : Bool) (now before : Option V) (value : V) → now ≡ cond b (Some value) before → is_some before ≡ c → is_some now ≡ (c || b)
some-cond true true now before value is had = ap is_some is
some-cond true false now before value is had = ap is_some is
some-cond false true now before value is had = ap is_some is ∙ had
some-cond false false now before value is had = ap is_some is ∙ had

-- the table of a chain with one classifier more
pub among-with : {V : Type 0} (chain : List ClassifierId) (id other : ClassifierId) (now before : Option V) (value : V) → now ≡ cond (same_id id other) (Some value) before → is_some before ≡ is_among chain other → is_some now ≡ is_among (chain ++ id ∷ []) other
among-with chain id other now before value is had = some-cond (same_id id other) (is_among chain other) now before value is had ∙ sym (among-more chain id other)

-- ---- the walk

module _ (packages : List PackageUnit) (front walked : List ClassifierId) (id : ClassifierId) (n : ℕ) (whole : Result (List ClassifierId) Refusal) (within : n < 2 ^ 64) (left : chain_from (2 ^ 64 - n) packages front id ≡ whole) (one_more : walked ≡ front ++ id ∷ []) where
  abbrev next : Result (Option ClassifierId) Refusal
  next = next_of packages walked id (decl_of packages id)

  abbrev goes_on : List ClassifierId → Result (Option ClassifierId) Refusal → Result (List ClassifierId) Refusal
  goes_on chain found = then_so found (ends_or chain (chain_from (2 ^ 64 - (n + 1)) packages chain))

  step : goes_on walked next ≡ whole
  unfolding chain_from
  step =
      let one : 2 ^ 64 - n ≡ suc (2 ^ 64 - (n + 1)) = omega (arith, within) in
      ap (λ chain. goes_on chain (next_of packages chain id (decl_of packages id))) one_more ∙ sym (ap (λ m. chain_from m packages front id) one) ∙ left

  pub walk-ends : next ≡ Ok None → whole ≡ Ok walked
  walk-ends none = sym step ∙ ap (goes_on walked) none

  pub walk-stops : (stop : Stop) → Answers next (Err stop) → Answers whole (Err stop)
  walk-stops (Refused refusal) stops = sym step ∙ ap (goes_on walked) stops
  walk-stops Memory stops = stops

  pub walk-goes_on : (base : ClassifierId) → next ≡ Ok (Some base) → chain_from (2 ^ 64 - (n + 1)) packages walked base ≡ whole
  walk-goes_on base some = sym (ap (goes_on walked) some) ∙ step
