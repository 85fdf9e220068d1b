-- How many events of a set have their places in a range, and what that says of bounds.
use Rattle.std.proofs.Common.{ℕ, zero, suc, ◌+◌, ◌*◌, ◌≡◌, ◌<◌, ◌≤◌, ◌⊎◌, Bool, true, false, if◌then◌else◌, get_or, slice_index_or, leb-true, le-leb, List, [], ◌∷◌, drop, map, length, inl, inr, ⊎_elim, refl, sym, ap, ◌∙◌, subst, arith}
use Rattle.std.proofs.lemmas.Bool.{false≢true, and_from, and_parts, cases_lt, ltb-true, lt-ltb, or_cases}
use Rattle.std.specs.List.{list_all, list_any}
use lib.ListN.{length-map}
use native.Mathlib.Nat.{add-mul, mul_comm, mul-le-mul_left, mul-le-mul_right, one-mul}
use Rattle.fault_system.specs.Truth.{Has, member, count_true, set_of, truth}
use Rattle.fault_system.specs.Systems.{System, applied}
use Rattle.fault_system.specs.Rounds.{time_of}
use Rattle.fault_system.specs.declared.formula.FactInfo.{FactInfo}
use Rattle.fault_system.proofs.NumberSets.{member-in, set_of-cases}
use Rattle.fault_system.proofs.TruthLaws.{count_true-le}
use Rattle.target_orders.specs.Orders.{NeedsAtLeast}
use Rattle.target_orders.specs.inner.Bounds.{AreBounds, IsMet, IsTally, IsWithin, count_placed, is_placed, met_facts}
use Rattle.target_orders.specs.declared.bounds.Bound.{Bound}
use Rattle.target_orders.specs.declared.bounds.Tally.{Tally}

-- one more is counted where it is so
more-one : (p q : Bool) (m n : ℕ) → (p ≡ true → q ≡ true) → m ≤ n → (if p then m + 1 else m) ≤ (if q then n + 1 else n)
more-one true true m n f h = omega (arith, h)
more-one true false m n f h = absurd (false≢true (f refl))
more-one false true m n f h = omega (arith, h)
more-one false false m n f h = h

more-two : (p q r : Bool) (m n k : ℕ) → (p ≡ true → r ≡ true) → (q ≡ true → r ≡ true) → (p ≡ true → q ≡ true → ⊥) → m + n ≤ k
    → (if p then m + 1 else m) + (if q then n + 1 else n) ≤ (if r then k + 1 else k)
more-two true true r m n k f g apart h = absurd (apart refl refl)
more-two true false true m n k f g apart h = omega (arith, h)
more-two true false false m n k f g apart h = absurd (false≢true (f refl))
more-two false true true m n k f g apart h = omega (arith, h)
more-two false true false m n k f g apart h = absurd (false≢true (g refl))
more-two false false true m n k f g apart h = omega (arith, h)
more-two false false false m n k f g apart h = h

none-more : (p : Bool) (m : ℕ) → (p ≡ true → ⊥) → m ≡ 0 → (if p then m + 1 else m) ≡ 0
none-more true m f h = absurd (f refl)
none-more false m f h = h

one-here : (p : Bool) (m : ℕ) → p ≡ true → 1 ≤ (if p then m + 1 else m)
one-here true m h = omega arith
one-here false m h = absurd (false≢true h)

one-there : (p : Bool) (m : ℕ) → 1 ≤ m → 1 ≤ (if p then m + 1 else m)
one-there true m h = omega arith
one-there false m h = h

times-more : (n x : ℕ) → (n + 1) * x ≡ n * x + x
times-more n x = add-mul n 1 x ∙ ap (λ k. n * x + k) (one-mul x)

module _ (places : List ℕ) where
  placed-at : (from to event : ℕ) → is_placed places from to event ≡ true → (from ≤ time_of places event) × (time_of places event < to)
  placed-at from to event h =
      let parts = and_parts _ _ h in
      (leb-true from (time_of places event) parts.0, ltb-true (time_of places event) to parts.1)

  at-placed : (from to event : ℕ) → from ≤ time_of places event → time_of places event < to → is_placed places from to event ≡ true
  at-placed from to event low high = and_from _ _ (le-leb from (time_of places event) low) (lt-ltb (time_of places event) to high)

  -- a wider range has no fewer events
  pub count-wider : (a b c d : ℕ) → c ≤ a → b ≤ d → (set : List ℕ) → count_placed places a b set ≤ count_placed places c d set
  count-wider a b c d low high [] = omega arith
  count-wider a b c d low high (event ∷ events) =
      more-one (is_placed places a b event) (is_placed places c d event) _ _
      (λ h. let at = placed-at a b event h in at-placed c d event (omega (arith, at.0, low)) (omega (arith, at.1, high)))
      (count-wider a b c d low high events)

  -- an empty range has none
  pub count-none : (a b : ℕ) → b ≤ a → (set : List ℕ) → count_placed places a b set ≡ 0
  count-none a b empty [] = refl
  count-none a b empty (event ∷ events) =
      none-more (is_placed places a b event) _ (λ h. let at = placed-at a b event h in absurd (omega (arith, at.0, at.1, empty))) (count-none a b empty events)

  -- a range over two that are apart has the events of both
  pub count-apart : (a b c d low high : ℕ) → b ≤ c → low ≤ a → b ≤ high → low ≤ c → d ≤ high → (set : List ℕ) → count_placed places a b set + count_placed places c d set ≤ count_placed places low high set
  count-apart a b c d low high apart la bh lc dh [] = omega arith
  count-apart a b c d low high apart la bh lc dh (event ∷ events) =
      more-two (is_placed places a b event) (is_placed places c d event) (is_placed places low high event) _ _ _
      (λ h. let at = placed-at a b event h in at-placed low high event (omega (arith, at.0, la)) (omega (arith, at.1, bh)))
      (λ h. let at = placed-at c d event h in at-placed low high event (omega (arith, at.0, lc)) (omega (arith, at.1, dh)))
      (λ h k. let one = placed-at a b event h in let other = placed-at c d event k in absurd (omega (arith, one.1, other.0, apart)))
      (count-apart a b c d low high apart la bh lc dh events)

  -- an event of a set is counted at its place
  pub count-event : (event : ℕ) (set : List ℕ) → Has (set_of set) event → 1 ≤ count_placed places (time_of places event) (time_of places event + 1) set
  count-event event [] h = absurd (false≢true h)
  count-event event (x ∷ xs) h = ⊎_elim
      (λ same. one-here (is_placed places (time_of places event) (time_of places event + 1) x) _
      (subst (λ k. is_placed places (time_of places event) (time_of places event + 1) k ≡ true) (sym same) (at-placed (time_of places event) (time_of places event + 1) event (omega arith) (omega arith))))
      (λ there. one-there (is_placed places (time_of places event) (time_of places event + 1) x) _ (count-event event xs there))
      (set_of-cases x xs event h)

  -- no more are counted than there are
  pub count-all : (a b : ℕ) (set : List ℕ) → count_placed places a b set ≤ length set
  count-all a b set = omega (arith, count_true-le (map (is_placed places a b) set), length-map set (is_placed places a b))

  module _ (set : List ℕ) where
    abbrev count : Bound → ℕ
    count bound = count_placed places bound.from bound.to set

    pub count-within : (a r : Bound) → IsWithin a r → count a ≤ count r
    count-within a r within = ⊎_elim
        (λ some. let w = within some in count-wider a.from a.to r.from r.to w.0 w.1 set)
        (λ none. omega (arith, count-none a.from a.to none set))
        (cases_lt a.from a.to)

    pub count-both : (a b r : Bound) → IsWithin a r → IsWithin b r → (a.to ≤ b.from) ⊎ (b.to ≤ a.from) → count a + count b ≤ count r
    count-both a b r first second apart = ⊎_elim
        (λ some_a. ⊎_elim (λ some_b. both_some (first some_a) (second some_b) apart) (λ none. omega (arith, count-none b.from b.to none set, count-within a r first)) (cases_lt b.from b.to))
        (λ none. omega (arith, count-none a.from a.to none set, count-within b r second))
        (cases_lt a.from a.to) where
          both_some : (r.from ≤ a.from) × (a.to ≤ r.to) → (r.from ≤ b.from) × (b.to ≤ r.to) → (a.to ≤ b.from) ⊎ (b.to ≤ a.from) → count a + count b ≤ count r
          both_some w v (inl before) = count-apart a.from a.to b.from b.to r.from r.to before w.0 w.1 v.0 v.1 set
          both_some w v (inr behind) = omega (arith, count-apart b.from b.to a.from a.to r.from r.to behind v.0 v.1 w.0 w.1 set)

    -- a bound over both ranges is met where both are, if these are apart
    pub met-both : (a b r : Bound) → r.low ≤ a.low + b.low → IsWithin a r → IsWithin b r → (a.to ≤ b.from) ⊎ (b.to ≤ a.from) → IsMet places set a → IsMet places set b → IsMet places set r
    met-both a b r few first second apart one other = omega (arith, few, count-both a b r first second apart, one, other)

    -- a bound that is no greater, over a wider range, is met
    pub met-within : (a r : Bound) → r.low ≤ a.low → IsWithin a r → IsMet places set a → IsMet places set r
    met-within a r few within met = omega (arith, few, count-within a r within, met)

    pub met-either : (a b r : Bound) → r.low ≤ a.low → r.low ≤ b.low → IsWithin a r → IsWithin b r → IsMet places set a ⊎ IsMet places set b → IsMet places set r
    met-either a b r few less first second met = ⊎_elim (λ one. met-within a r few first one) (λ other. met-within b r less second other) met

    -- one part more is counted
    pub tally-more : (old new : Tally) (part : Bound) → new.bound.low ≤ old.bound.low → new.bound.low ≤ part.low → IsWithin old.bound new.bound → IsWithin part new.bound
        → (new.apart ≡ true → (old.apart ≡ true) × ((old.bound.to ≤ part.from) ⊎ (part.to ≤ old.bound.from)))
        → (n : ℕ) (is_true : Bool) → IsTally places set n old → (is_true ≡ true → IsMet places set part) → IsTally places set (if is_true then n + 1 else n) new
    tally-more old new part few less first second apart n true is met = record {
      some = λ _. met-within part new.bound less second (met refl);
      each = λ h.
          let a = apart h in
          let counts : count old.bound + count part ≤ count new.bound = count-both old.bound part new.bound first second a.1 in
          let before : n * old.bound.low ≤ count old.bound = is.each a.0 in
          let lower : n * new.bound.low ≤ n * old.bound.low = mul-le-mul_left n few in
          let here : part.low ≤ count part = met refl in
          omega (arith, counts, before, lower, here, less, times-more n new.bound.low);
    }
    tally-more old new part few less first second apart n false is met = record {
      some = λ h. met-within old.bound new.bound few first (is.some h);
      each = λ h.
          let before : n * old.bound.low ≤ count old.bound = is.each (apart h).0 in
          let lower : n * new.bound.low ≤ n * old.bound.low = mul-le-mul_left n few in
          omega (arith, before, lower, count-within old.bound new.bound first);
    }

    -- so many true parts meet the bound so often
    pub tally-times : (tally : Tally) (r : Bound) (least n : ℕ) → r.low ≤ tally.bound.low * least → r.from ≡ tally.bound.from → r.to ≡ tally.bound.to → tally.apart ≡ true → least ≤ n → IsTally places set n tally → IsMet places set r
    tally-times tally r least n few from to apart many is =
        let all : n * tally.bound.low ≤ count tally.bound = is.each apart in
        let more : least * tally.bound.low ≤ n * tally.bound.low = mul-le-mul_right tally.bound.low many in
        let same : count r ≡ count tally.bound = ap (λ k. count_placed places k r.to set) from ∙ ap (λ k. count_placed places tally.bound.from k set) to in
        omega (arith, few, all, more, same, mul_comm tally.bound.low least)

    -- a bound is met where one is that asks for as much in a part of its range
    pub implied : (bound other : Bound) → bound.low ≤ other.low → bound.from ≤ other.from → other.to ≤ bound.to → IsMet places set other → IsMet places set bound
    implied bound other few from to met = met-within other bound few (λ _. (from, to)) met

module _ {X : Type 0} (f : X → Bool) where
  -- each part is true where all are
  pub all-at : (xs : List X) (i : ℕ) (x : X) → i < length xs → x ≡ slice_index_or xs i x → list_all (λ b. b) (map f xs) ≡ true → f x ≡ true
  all-at [] i x short is all = absurd (omega arith)
  all-at (y ∷ ys) zero x short is all = ap f is ∙ (and_parts _ _ all).0
  all-at (y ∷ ys) (suc i) x short is all = all-at ys i x (omega arith) is (and_parts _ _ all).1

  -- where one of those from a place on is true, the first is, or one behind it
  pub any-next : (xs : List X) (i : ℕ) (x : X) → i < length xs → x ≡ slice_index_or xs i x → list_any (λ b. b) (map f (drop i xs)) ≡ true → (f x ≡ true) ⊎ (list_any (λ b. b) (map f (drop (suc i) xs)) ≡ true)
  any-next [] i x short is some = absurd (omega arith)
  any-next (y ∷ ys) zero x short is some = ⊎_elim (λ here. inl (ap f is ∙ here)) (λ there. inr there) (or_cases (f y) _ some)
  any-next (y ∷ ys) (suc i) x short is some = any-next ys i x (omega arith) is some

  pub any-end : (xs : List X) (i : ℕ) → length xs ≤ i → list_any (λ b. b) (map f (drop i xs)) ≡ true → ⊥
  any-end [] zero long some = absurd (false≢true some)
  any-end [] (suc i) long some = absurd (false≢true some)
  any-end (y ∷ ys) zero long some = absurd (omega (arith, long))
  any-end (y ∷ ys) (suc i) long some = any-end ys i (omega (arith, long)) some

  -- how many are true from a place on
  pub count-next : (xs : List X) (i : ℕ) (x : X) → i < length xs → x ≡ slice_index_or xs i x → count_true (map f (drop i xs)) ≡ (if f x then count_true (map f (drop (suc i) xs)) + 1 else count_true (map f (drop (suc i) xs)))
  count-next [] i x short is = absurd (omega arith)
  count-next (y ∷ ys) zero x short is = ap (λ b. if b then count_true (map f ys) + 1 else count_true (map f ys)) (sym (ap f is))
  count-next (y ∷ ys) (suc i) x short is = count-next ys i x (omega arith) is

  pub count-end : (xs : List X) (i : ℕ) → length xs ≤ i → count_true (map f (drop i xs)) ≡ 0
  count-end [] zero long = refl
  count-end [] (suc i) long = refl
  count-end (y ∷ ys) zero long = absurd (omega (arith, long))
  count-end (y ∷ ys) (suc i) long = count-end ys i (omega (arith, long))

-- what is counted so far and what is left stay the same together
pub counted-on : (b : Bool) (n left whole rest : ℕ) → rest ≡ (if b then left + 1 else left) → n + rest ≡ whole → (if b then n + 1 else n) + left ≡ whole
counted-on true n left whole rest is sum = omega (arith, is, sum)
counted-on false n left whole rest is sum = omega (arith, is, sum)

module _ (system : System) (places : List ℕ) (bounds : List Bound) where
  -- where each bound is met if the formula of its fact is true over met facts, all are right
  pub bounds-closed : ((n : ℕ) → n < length system.facts → (set : List ℕ) → Has (member (applied system (set_of set) (met_facts places bounds set))) n → Has (met_facts places bounds set) n) → AreBounds system places bounds
  bounds-closed each fact set cut =
      cut.1 (met_facts places bounds set) (λ n has. each n (omega (arith, member-in (applied system (set_of set) (met_facts places bounds set)) n has, length-map system.facts (λ (fact : FactInfo). truth (set_of set) (met_facts places bounds set) fact.formula))) set has)

  -- a fact takes as many events as its bound says
  pub needs-low : AreBounds system places bounds → (fact : ℕ) (bound : Bound) → bound ≡ get_or bounds fact (record { low = 0; from = 0; to = 0 }) → NeedsAtLeast system fact bound.low
  needs-low are fact bound is set cut =
      let met : bound.low ≤ count_placed places bound.from bound.to set = subst (λ (b : Bound). b.low ≤ count_placed places b.from b.to set) (sym is) (leb-true _ _ (are fact set cut)) in
      omega (arith, met, count-all places bound.from bound.to set)
