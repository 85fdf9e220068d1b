-- What the minimal cut sets of at most so many events say of a target.
use Rattle.std.proofs.Common.{ℕ, ◌+◌, ◌≡◌, ◌<◌, ◌≤◌, Bool, true, false, cond, ◌||◌, List, [], ◌∷◌, filter, map, length, Contains, Some, inl, inr, refl, sym, ◌∙◌, le-leb, arith}
use Rattle.std.specs.Prelude.{◌⊎◌}
use Rattle.std.proofs.lemmas.Bool.{cases_lt, and_from, and_parts, false≢true}
use Rattle.fault_system.specs.Truth.{Has, count_true, set_of}
use Rattle.fault_system.specs.Systems.{Holds, System}
use Rattle.fault_system.specs.CutSets.{IsEventSet, IsSubset, makes_hold}
use Rattle.fault_system.specs.inner.Listings.{listing}
use Rattle.fault_system.proofs.CutSetLaws.{Holds-grows, makes_hold-exact}
use Rattle.fault_system.proofs.ListingLaws.{covers, listing-exact}
use Rattle.fault_system.proofs.NumberSets.{RisesWithin-filter, contained-in_set, set_of-filter}
use Rattle.backward_slice.specs.Slices.{IsSlice}
use Rattle.backward_slice.specs.declared.parts.Slice.{Slice}
use Rattle.zdd_store.specs.inner.Family.{Family, IsAntichain, covers as family_covers, is_within}
use Rattle.zdd_families.proofs.Covers.{covers_member, member_covers}
use Rattle.zdd_families.proofs.Subsets.{within_from, within_has}
use Rattle.cutset_engine.specs.inner.Families.{HasMinimalCutSets}
use Rattle.cutset_engine.proofs.CutSets.{has-set_of}
use Rattle.cutset_engine.proofs.InSlice.{holds_in_slice}
use Rattle.order_bounds.specs.Targets.{IsOfShortCutSets}
use Rattle.order_bounds.specs.inner.Orders.{covers_or_more}

one_more : (b : Bool) (event : ℕ) (events : List ℕ) (bs : List Bool) → length events ≡ count_true bs → length (cond b (event ∷ events) events) ≡ count_true (b ∷ bs)
one_more true event events bs h = omega (arith, h)
one_more false event events bs h = h

-- of the events that a set has, so many are these
counted : (set events : List ℕ) → length (filter (set_of set) events) ≡ count_true (map (set_of set) events)
counted set [] = refl
counted set (event ∷ events) = one_more (set_of set event) event (filter (set_of set) events) (map (set_of set) events) (counted set events)

or_left : (a b : Bool) → a ≡ true → a || b ≡ true
or_left true b h = refl
or_left false b h = absurd (false≢true h)

or_right : (a b : Bool) → b ≡ true → a || b ≡ true
or_right true b h = refl
or_right false b h = h

within_subset : (part whole : List ℕ) → is_within part whole ≡ true → IsSubset part whole
within_subset part whole w n h = sym (has-set_of whole n) ∙ within_has part whole n w (has-set_of part n ∙ h)

subset_within : (part whole : List ℕ) → IsSubset part whole → is_within part whole ≡ true
subset_within part whole s = within_from part whole (λ x h. has-set_of whole x ∙ s x (sym (has-set_of part x) ∙ h))

module _ (system : System) (target most : ℕ) (family : Family) (exact : HasMinimalCutSets system target (Some most) family) where
  pub small_holds : (set : List ℕ) → family_covers family set ≡ true → makes_hold system target (set_of set) ≡ true
  small_holds set on =
      let c = member_covers family set on in
      let minimal = ((exact c.part).0 c.member).0 in
      (makes_hold-exact system target (set_of set)).1 (Holds-grows system target (set_of c.part) (set_of set) (within_subset c.part set c.within) target minimal.0.1)

  -- the family covers what contains such a set
  pub of_short : IsOfShortCutSets system target most (family_covers family)
  of_short set = (
    λ on.
        let c = member_covers family set on in
        let its = (exact c.part).0 c.member in
        record { cut = c.part; minimal = its.0; short = its.1; within = within_subset c.part set c.within },
    λ its. covers_member family its.cut set ((exact its.cut).1 (its.minimal, its.short)) (subset_within its.cut set its.within),
  )

  -- no set of the family is within another
  pub antichain : IsAntichain family
  antichain part whole here there within = ((exact whole).0 there).0.1 part ((exact part).0 here).0.0 (within_subset part whole within)

  module _ (slice : Slice) (is : IsSlice system target slice) where
    -- the events of a set on which the target depends
    abbrev its : List ℕ → List ℕ
    its set = filter (set_of set) slice.events

    in_its : (set : List ℕ) (n : ℕ) → Contains slice.events n → Has (set_of set) n → Has (set_of (its set)) n
    in_its set n among here = set_of-filter (set_of set) slice.events n ∙ and_from _ _ (contained-in_set slice.events n among) here

    from_its : (set : List ℕ) (n : ℕ) → Has (set_of (its set)) n → Has (set_of set) n
    from_its set n here = (and_parts _ _ (sym (set_of-filter (set_of set) slice.events n) ∙ here)).1

    pub all_small : (set : List ℕ) → makes_hold system target (set_of set) ≡ true → covers_or_more family most slice.events set ≡ true
    all_small set on = at (cases_lt most (length (its set)))
      where
        small : length (its set) ≤ most → family_covers family set ≡ true
        small few =
            let holds : Holds system (set_of (its set)) target = holds_in_slice system target slice is (set_of set) (set_of (its set)) (in_its set) ((makes_hold-exact system target (set_of set)).0 on) in
            let rises : IsEventSet system (its set) = RisesWithin-filter (set_of set) 0 (length system.events) slice.events is.events_rise in
            let all = listing-exact system target (Some most) in
            let found = (covers system target (Some most) (listing system target (Some most)) (its set) all rises few).0 holds in
            covers_member family found.0 set ((exact found.0).1 ((all.exact found.0).0 found.1)) (subset_within found.0 set (λ n k. from_its set n (found.2 n k)))

        at : (most < length (its set)) ⊎ (length (its set) ≤ most) → covers_or_more family most slice.events set ≡ true
        at (inl more) = or_right _ _ (le-leb (most + 1) _ (omega (arith, counted set slice.events)))
        at (inr few) = or_left _ _ (small few)
