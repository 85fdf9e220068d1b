-- From minimal cut sets to what a sentence says of all cut sets.
use Rattle.std.proofs.Common.{ℕ, ◌≡◌, ◌<◌, ◌≤◌, List, [], ◌∷◌, length, Option, None, Some, inl, inr, ⊎_elim, refl, sym, subst, arith}
use Rattle.std.proofs.lemmas.Bool.{false≢true}
use Rattle.fault_system.specs.Systems.{System}
use Rattle.fault_system.specs.CutSets.{IsCutSet, IsMinimalCutSet, IsSubset}
use Rattle.fault_system.specs.Listings.{IsWithinOrder}
use Rattle.fault_system.specs.inner.Listings.{listing}
use Rattle.fault_system.proofs.NumberSets.{set_of-first}
use Rattle.fault_system.proofs.ListingLaws.{covers, listing-exact}
use Rattle.requirement_names.specs.declared.named.SetSentence.{SetSentence}
use Rattle.requirement_names.specs.declared.named.SetSentence.TheVariants.{Order, Mixed, Without, Possible, Never}
use Rattle.requirement_verdicts.specs.Meanings.{IsKept}
use Rattle.requirement_verdicts.specs.Verdicts.{IsBroken, IsForbidden}
use Rattle.requirement_verdicts.specs.inner.Verdicts.{IsFirstForbidden}

shorter-order : (most : Option ℕ) (a b : List ℕ) → length a ≤ length b → IsWithinOrder most b → IsWithinOrder most a
shorter-order None a b few short = tt
shorter-order (Some most) a b few short = omega (arith, few, short)

not-less : (a b : ℕ) → (a < b → ⊥) → b ≤ a
not-less a b never = omega (arith, never)

nothing-in : (set : List ℕ) → IsSubset set [] → set ≡ []
nothing-in [] within = refl
nothing-in (n ∷ set) within = absurd (false≢true (within n (set_of-first n set)))

module _ (system : System) (target : ℕ) where
  -- a minimal cut set within a cut set, of at most as many events
  pub record Within (set : List ℕ) : Type 0 where
    pub part : List ℕ
    pub minimal : IsMinimalCutSet system target part
    pub within : IsSubset part set
    pub short : length part ≤ length set

  pub within : (set : List ℕ) → IsCutSet system target set → Within set
  within set cut =
      let most : Option ℕ = Some (length set) in
      let self : length set ≤ length set = omega arith in
      let found = (covers system target most (listing system target most) set (listing-exact system target most) cut.0 self).0 cut.1 in
      let exact = ((listing-exact system target most).exact found.0).0 found.1 in
      record { part = found.0; minimal = exact.0; within = found.2; short = exact.1 }

  -- where the sentence forbids no minimal cut set, what it says is so
  pub kept-from_none : (sentence : SetSentence) → ((set : List ℕ) → IsMinimalCutSet system target set → IsForbidden sentence set → ⊥) → IsKept system target sentence
  kept-from_none (Order least except) none = λ set cut apart.
      let small = within set cut in
      let few = small.short in
      let enough : least ≤ length small.part = not-less (length small.part) least (λ less. none small.part small.minimal (less, λ part here inside. apart part here (λ n has. small.within n (inside n has)))) in
      omega (arith, few, enough)
  kept-from_none (Mixed group most) none = λ set cut inside short.
      let small = within set cut in
      none small.part small.minimal ((λ n has. inside n (small.within n has)), shorter-order most small.part set small.short short)
  kept-from_none (Without event) none = none
  kept-from_none Possible none = tt
  kept-from_none Never none = λ (set, cut). let small = within set cut in none small.part small.minimal tt

  -- and where it is so, none is forbidden
  pub forbidden-clash : (sentence : SetSentence) (set : List ℕ) → IsMinimalCutSet system target set → IsForbidden sentence set → IsKept system target sentence → ⊥
  forbidden-clash (Order least except) set minimal forbidden kept = omega (arith, forbidden.0, kept set minimal.0 forbidden.1)
  forbidden-clash (Mixed group most) set minimal forbidden kept = kept set minimal.0 forbidden.0 forbidden.1
  forbidden-clash (Without event) set minimal forbidden kept = kept set minimal forbidden
  forbidden-clash Possible set minimal forbidden kept = forbidden
  forbidden-clash Never set minimal forbidden kept = kept (set, minimal.0)

  -- ---- without any event

  -- where the target holds without any event, no other set is minimal
  pub none-minimal : IsCutSet system target [] → IsMinimalCutSet system target []
  none-minimal cut = (cut, λ other its within. nothing-in other within)

  pub only-none : IsCutSet system target [] → (other : List ℕ) → IsMinimalCutSet system target other → other ≡ []
  only-none cut other minimal = sym (minimal.1 [] cut (λ n has. absurd (false≢true has)))

  pub broken-anyway : (sentence : SetSentence) → IsCutSet system target [] → IsBroken system target sentence []
  broken-anyway sentence cut = record {
    minimal = none-minimal cut;
    such = inl refl;
    first = λ other minimal breaks. inl (only-none cut other minimal);
  }

  -- the first that the sentence forbids is the first that breaks the requirement
  pub broken-first : (sentence : SetSentence) (set : List ℕ) → (IsCutSet system target [] → ⊥) → IsFirstForbidden system target sentence set → IsBroken system target sentence set
  broken-first sentence set some found = record {
    minimal = found.minimal;
    such = inr found.such;
    first = λ other minimal breaks. ⊎_elim (λ none. absurd (some (subst (IsCutSet system target) none minimal.0))) (λ forbidden. found.first other minimal forbidden) breaks;
  }
