-- Where a name with `noerror` at a point fails: where a type comes in that it does not mean.
use Rattle.std.proofs.Common.{ℕ, suc, ◌≡◌, Bool, true, false, ◌&&◌, ◌||◌, cond, not, nat_eq, List, [], ◌∷◌, filter, length, Some, sym, refl, ap, ◌∙◌, rules, tests}
use Rattle.std.proofs.lemmas.Bool.{eq-eqb, false≢true, or_left, or_right}
use Rattle.std.proofs.lemmas.Map.Views.{any-filter_same}
use Rattle.std.specs.List.{list_any}
use Rattle.plain_values.specs.Numbered.{numbers_below}
use Rattle.error_libraries.specs.Libraries.{Table}
use Rattle.error_libraries.specs.Search.{is_number_in}
use Rattle.propagation_points.specs.declared.side.Reach.{Reach}
use Rattle.propagation_points.specs.declared.side.Reach.TheVariants.{Whole, Only}
use Rattle.propagation_points.specs.declared.uses.ReachedPoint.{ReachedPoint}
use Rattle.propagation_points.specs.Uses.{covers}
use Rattle.error_conditions.specs.Conditions.{point_pair, rest_at, rest_of}
use Rattle.error_conditions.specs.declared.cause.Cause.{Cause, fold-roll-Cause}
use Rattle.error_conditions.specs.declared.cause.Cause.TheOpen as open_cause
use Rattle.error_conditions.specs.declared.cause.Cause.TheVariants.{Point, rolls-Point}
use Rattle.error_conditions.specs.inner.Strict.{Covers, World, comes_in, is_quiet, other_comes_in, truth, truth_step}
use Rattle.error_conditions.proofs.Covering.{truth-All}

-- ---- lists of numbers

same-number : (a b : ℕ) → nat_eq a b ≡ true → a ≡ b
same-number a b e = search (rules, tests)

not-none : (n : ℕ) → nat_eq (suc n) 0 ≡ false
not-none n = search (rules, tests)

and-true : (b c : Bool) → c ≡ true → (b && c) ≡ b
and-true true c e = e
and-true false c e = refl

-- what is always so of the numbers says nothing of them
without : (p q c : ℕ → Bool) (ns : List ℕ) → ((n : ℕ) → is_number_in ns n ≡ true → q n ≡ true) → list_any (λ n. (p n && q n) && c n) ns ≡ list_any (λ n. p n && c n) ns
without p q c [] all = refl
without p q c (n ∷ ns) all =
    let here = and-true (p n) (q n) (all n (or_left _ _ (eq-eqb n n refl))) in
    let later = without p q c ns (λ m there. all m (or_right (nat_eq n m) _ there)) in
    λ i. (here i && c n) || later i

kept-in : (p : ℕ → Bool) (ns : List ℕ) (n : ℕ) → is_number_in (filter p ns) n ≡ (p n && is_number_in ns n)
kept-in p ns n = any-filter_same (λ k. nat_eq k n) p (p n) (λ k is. ap p (same-number k n is)) ns

-- of those of the numbers that pass a test one is so, where one of the numbers passes the test and is so
of-kept : (p c : ℕ → Bool) (ns : List ℕ) → list_any (λ n. is_number_in (filter p ns) n && c n) ns ≡ list_any (λ n. p n && c n) ns
of-kept p c ns = (λ i. list_any (λ n. kept-in p ns n i && c n) ns) ∙ without p (is_number_in ns) c ns (λ n there. there)

one-way : (k c a b d : Bool) → (a ≡ false → b ≡ true → d ≡ true) → ((k && c) || a) ≡ false → (c || b) ≡ true → ((not k && c) || d) ≡ true
one-way true true a b d rest none some = absurd (false≢true (sym none))
one-way true false a b d rest none some = rest none some
one-way false true a b d rest none some = refl
one-way false false a b d rest none some = rest none some

-- where one of the numbers is so, and none that passes a test is, one that does not pass it is
other-way : (k c : ℕ → Bool) (ns : List ℕ) → list_any (λ n. k n && c n) ns ≡ false → list_any c ns ≡ true → list_any (λ n. not (k n) && c n) ns ≡ true
other-way k c [] none some = some
other-way k c (n ∷ ns) none some = one-way (k n) (c n) _ _ _ (other-way k c ns) none some

-- ---- a point

left-false : (a b : Bool) → (a || not b) ≡ false → a ≡ false
left-false true b e = e
left-false false b e = refl

right-true : (a b : Bool) → (a || not b) ≡ false → b ≡ true
right-true a true e = refl
right-true true false e = absurd (false≢true (sym e))
right-true false false e = absurd (false≢true (sym e))

module _ (table : Table) (comes : ℕ → ℕ → Bool) where
  rest-comes : (point : ℕ) (types : Reach) → comes_in table comes (record { point = point; types = rest_of table types }) ≡ other_comes_in table comes (record { point = point; types = types })
  rest-comes point Whole = refl
  rest-comes point (Only []) = refl
  rest-comes point (Only (type ∷ types)) =
      let all = numbers_below (length table.types) in
      let rest = filter (λ n. not (is_number_in (type ∷ types) n)) all in
      (λ i. comes_in table comes (record { point = point; types = cond (not-none (length types) i) Whole (Only rest) })) ∙ of-kept (λ n. not (is_number_in (type ∷ types) n)) (comes point) all

  module _ (world : World) (seen : (reached : ReachedPoint) → world.points reached ≡ comes_in table comes reached) where
    truth-Point : (reached : ReachedPoint) → truth world (Point reached) ≡ world.points reached
    truth-Point reached = ap (truth world) (sym (rolls-Point reached)) ∙ fold-roll-Cause Bool (truth_step world) (open_cause.Point reached)

    -- it fails exactly where another type comes in
    pub fails-told : (reached : ReachedPoint) → truth world (point_pair table true (Some reached)).fails ≡ other_comes_in table comes reached
    fails-told reached = truth-Point (rest_at table reached) ∙ seen (rest_at table reached) ∙ rest-comes reached.point reached.types

    pub quiet-covered : (reached : ReachedPoint) → Covers world (is_quiet table comes reached) (point_pair table true (Some reached))
    quiet-covered reached = record {
      holding = λ e. truth-All world [];
      failing = λ e. fails-told reached
          ∙ other-way (covers reached.types) (comes reached.point) (numbers_below (length table.types))
          (left-false _ _ e) (right-true (comes_in table comes reached) _ e);
    }
