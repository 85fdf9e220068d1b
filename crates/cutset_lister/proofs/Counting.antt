-- How many of some numbers are not less than a bound.
use Rattle.std.proofs.Common.{◌≡◌, ℕ, ◌+◌, ◌<◌, ◌≤◌, ◌⊎◌, Bool, true, false, cond, List, [], ◌∷◌, length, filter, refl, sym, ◌∙◌, inl, inr, arith}
use Rattle.std.specs.Prelude.{nat_le}
use Rattle.std.proofs.lemmas.Bool.{false≢true, leb-true, le-leb}
use Rattle.zdd_store.specs.inner.Family.{least_of, has, is_within, IsRising}
use Rattle.zdd_families.proofs.Above.{above}
use Rattle.zdd_families.proofs.Subsets.{has_cases, has_none, has_first, has_rest, within_has, within_from}

-- from a greater bound on there are no more
pub above-less : (low high : ℕ) (events : List ℕ) → low ≤ high → length (above high events) ≤ length (above low events)
unfolding above
above-less low high [] h = omega arith
above-less low high (n ∷ ns) h = by (nat_le low n) (nat_le high n) refl refl (above-less low high ns h)
  where
    by : (l m : Bool) → nat_le low n ≡ l → nat_le high n ≡ m → length (filter (nat_le high) ns) ≤ length (filter (nat_le low) ns)
        → length (cond m (n ∷ filter (nat_le high) ns) (filter (nat_le high) ns)) ≤ length (cond l (n ∷ filter (nat_le low) ns) (filter (nat_le low) ns))
    by true true e f rest = omega arith
    by true false e f rest = omega arith
    by false true e f rest = let k : high ≤ n = leb-true high n f in absurd (false≢true (sym e ∙ le-leb low n (omega arith)))
    by false false e f rest = rest

-- past one of the numbers there is at least one fewer
pub above-fewer : (low number high : ℕ) (events : List ℕ) → has events number ≡ true → low ≤ number → number < high → length (above high events) + 1 ≤ length (above low events)
unfolding above
above-fewer low number high [] here h k = absurd (has_none number here)
above-fewer low number high (n ∷ ns) here h k = by (has_cases n ns number here) (nat_le low n) (nat_le high n) refl refl (above-less low high ns (omega arith)) (λ there. above-fewer low number high ns there h k)
  where
    by : (n ≡ number) ⊎ (has ns number ≡ true) → (l m : Bool) → nat_le low n ≡ l → nat_le high n ≡ m → length (filter (nat_le high) ns) ≤ length (filter (nat_le low) ns)
        → (has ns number ≡ true → length (filter (nat_le high) ns) + 1 ≤ length (filter (nat_le low) ns))
        → length (cond m (n ∷ filter (nat_le high) ns) (filter (nat_le high) ns)) + 1 ≤ length (cond l (n ∷ filter (nat_le low) ns) (filter (nat_le low) ns))
    by (inl is) true true e f less more = let g : high ≤ n = leb-true high n f in absurd (omega arith)
    by (inl is) true false e f less more = omega arith
    by (inl is) false m e f less more = absurd (false≢true (sym e ∙ le-leb low n (omega arith)))
    by (inr there) true true e f less more = let rest : length (filter (nat_le high) ns) + 1 ≤ length (filter (nat_le low) ns) = more there in omega arith
    by (inr there) true false e f less more = omega arith
    by (inr there) false true e f less more = let g : high ≤ n = leb-true high n f in absurd (false≢true (sym e ∙ le-leb low n (omega arith)))
    by (inr there) false false e f less more = more there

pub above-most : (low : ℕ) (events : List ℕ) → length (above low events) ≤ length events
unfolding above
above-most low [] = omega arith
above-most low (n ∷ ns) = by (nat_le low n) (above-most low ns)
  where
    by : (b : Bool) → length (filter (nat_le low) ns) ≤ length ns → length (cond b (n ∷ filter (nat_le low) ns) (filter (nat_le low) ns)) ≤ length (n ∷ ns)
    by true rest = omega arith
    by false rest = omega arith

rising_above : (low : ℕ) (set events : List ℕ) → IsRising set → is_within set events ≡ true → low ≤ least_of set → length set ≤ length (above low events)
unfolding IsRising least_of
rising_above low [] events rising within h = omega arith
rising_above low (n ∷ ns) events rising within h =
    let rest : length ns ≤ length (above (least_of ns) events) = rising_above (least_of ns) ns events rising.1 (within_from ns events (λ x here. within_has (n ∷ ns) events x within (has_rest n ns x here))) (omega arith) in
    let fewer : length (above (least_of ns) events) + 1 ≤ length (above low events) = above-fewer low n (least_of ns) events (within_has (n ∷ ns) events n within (has_first n ns)) (omega arith) rising.0 in
    omega arith

-- a rising set within another is no longer
pub within-shorter : (set events : List ℕ) → IsRising set → is_within set events ≡ true → length set ≤ length events
within-shorter set events rising within =
    let few : length set ≤ length (above 0 events) = rising_above 0 set events rising within (omega arith) in
    let most : length (above 0 events) ≤ length events = above-most 0 events in
    omega arith
