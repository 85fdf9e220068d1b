-- The computed rows are the rows, and a system has one table.
use Rattle.std.proofs.Common.{ℕ, zero, suc, ◌+◌, ◌≡◌, ◌<◌, ◌≤◌, Bool, true, false, not, List, [], ◌∷◌, ◌++◌, length, map, filter, get_or, length-append, append-nil, inl, inr, ⊎_elim, ap, ◌∙◌, sym, refl, subst, arith}
use Rattle.std.specs.List.{flat_map, position_or_len}
use Rattle.std.proofs.lemmas.Bool.{false≢true, and_from, and_parts, cases_eq, cases_lt}
use Rattle.std.proofs.lemmas.List.{get_or_append_left, get_or_push}
use Rattle.std.proofs.lemmas.List.Concat.{flat_map-append}
use Rattle.std.proofs.lemmas.List.Sums.{fails_before_first, passes_at_first, position_or_len_is}
use Rattle.plain_values.specs.Numbered.{numbers_below}
use Rattle.plain_values.specs.Rising.{RisesWithin}
use Rattle.fault_system.specs.Truth.{NumberSet, Has, member}
use Rattle.fault_system.specs.Systems.{System, Holds, round}
use Rattle.fault_system.specs.CutSets.{makes_hold}
use Rattle.fault_system.specs.Rounds.{IsLeastRound, no_event, only}
use Rattle.fault_system.proofs.Elements.{In, In-append, In-back, In-contains, In-filter, In-filtered, In-front, In-map, In-mapped, contains_In, each-made}
use Rattle.fault_system.proofs.HoldsLaws.{holds_of-exact, round-least}
use Rattle.fault_system.proofs.NumberSets.{RisesWithin-at, RisesWithin-filter, contained-in_set}
use Rattle.fmea_rows.specs.Rows.{event_rows, is_reached, round_of, row_of, rows_of}
use Rattle.fmea_rows.specs.inner.Rows.{AreRows, IsInRowOrder, IsRow}
use Rattle.fmea_rows.specs.declared.row.Row.{Row}
use Rattle.fmea_rows.proofs.RowOrder.{IsBefore, before_effect, before_event, one_order, order-append}

-- ---- the numbers below a number

length-below : (count : ℕ) → length (numbers_below count) ≡ count
length-below zero = refl
length-below (suc count) = omega (arith, length-append (numbers_below count) (count ∷ []), length-below count)

at-below : (count k d : ℕ) → k < count → get_or (numbers_below count) k d ≡ k
at-below zero k d h = absurd (omega arith)
at-below (suc count) k d h = ⊎_elim
    (λ last. get_or_push (numbers_below count) count d k (length-below count ∙ sym last) ∙ sym last)
    (λ other. get_or_append_left (numbers_below count) (count ∷ []) d k (omega (arith, other, length-below count)) ∙ at-below count k d (omega (arith, other)))
    (cases_eq k count)

in-below : (count n : ℕ) → n < count → In n (numbers_below count)
in-below zero n h = absurd (omega arith)
in-below (suc count) n h = ⊎_elim
    (λ last. In-back n (numbers_below count) (count ∷ []) (inl (sym last)))
    (λ other. In-front n (numbers_below count) (count ∷ []) (in-below count n (omega (arith, other)))) (cases_eq n count)

below-in : (count n : ℕ) → In n (numbers_below count) → n < count
below-in zero n i = absurd i
below-in (suc count) n i = ⊎_elim
    (λ before. omega (arith, below-in count n before))
    (λ last. ⊎_elim (λ same. omega (arith, same)) (λ none. absurd none) last) (In-append n (numbers_below count) (count ∷ []) i)

-- ---- what is in a list that is made of lists

In-flat : {X Y : Type 0} (f : X → List Y) (y : Y) (xs : List X) → In y (flat_map f xs) → (x : X) × In x xs × In y (f x)
In-flat f y [] i = absurd i
In-flat f y (x ∷ xs) i = ⊎_elim (λ here. (x, inl refl, here)) (λ later. let t = In-flat f y xs later in (t.0, inr t.1, t.2)) (In-append y (f x) (flat_map f xs) i)

In-flatted : {X Y : Type 0} (f : X → List Y) (x : X) (y : Y) (xs : List X) → In x xs → In y (f x) → In y (flat_map f xs)
In-flatted f x y [] i j = absurd i
In-flatted f x y (z ∷ zs) i j = ⊎_elim
    (λ e. In-front y (f z) (flat_map f zs) (subst (λ (w : _). In y (f w)) (sym e) j))
    (λ r. In-back y (f z) (flat_map f zs) (In-flatted f x y zs r j)) i

-- ---- rounds

module _ (system : System) (events : NumberSet) (n : ℕ) where
  held : (r : ℕ) → Has (member (round system events r)) n → Holds system events n
  held r e facts closed = round-least system events facts closed r n e

  few : (r : ℕ) → IsLeastRound system events n r → r ≤ length system.facts
  few r is = ⊎_elim
      (λ late. absurd (false≢true (sym (is.first (length system.facts) late) ∙ (holds_of-exact system events n).1 (held r is.there))))
      (λ h. h) (cases_lt (length system.facts) r)

  -- the least round is the computed one
  pub round-is : (r : ℕ) → IsLeastRound system events n r → round_of system events n ≡ r
  round-is r is =
      let early : r ≤ length system.facts = few r is in
      let all : length (numbers_below (length system.facts + 1)) ≡ length system.facts + 1 = length-below (length system.facts + 1) in
      position_or_len_is (λ q. member (round system events q) n) (numbers_below (length system.facts + 1)) r 0 (omega arith)
      (λ k h. ap (λ q. member (round system events q) n) (at-below (length system.facts + 1) k 0 (omega arith)) ∙ is.first k h)
      (λ h. ap (λ q. member (round system events q) n) (at-below (length system.facts + 1) r 0 (omega arith)) ∙ is.there)

  -- the computed round of a fact that holds is its least
  pub least-round : Holds system events n → IsLeastRound system events n (round_of system events n)
  least-round holds =
      let p : ℕ → Bool = λ q. member (round system events q) n in
      let xs : List ℕ = numbers_below (length system.facts + 1) in
      let all : length (numbers_below (length system.facts + 1)) ≡ length system.facts + 1 = length-below (length system.facts + 1) in
      let found : position_or_len p xs < length xs = ⊎_elim (λ h. h)
      (λ late. absurd (false≢true (sym (sym (ap p (at-below (length system.facts + 1) (length system.facts) 0 (omega arith))) ∙ fails_before_first p xs (length system.facts) 0 (omega arith)) ∙ (holds_of-exact system events n).1 holds)))
      (cases_lt (position_or_len p xs) (length xs)) in
      record {
        there = sym (ap p (at-below (length system.facts + 1) (position_or_len p xs) 0 (omega arith))) ∙ passes_at_first p xs 0 found;
        first = λ q h. sym (ap p (at-below (length system.facts + 1) q 0 (omega arith))) ∙ fails_before_first p xs q 0 h;
      }

-- ---- what a row says

not_true : (b : Bool) → not b ≡ true → b ≡ true → ⊥
not_true true e h = false≢true e
not_true false e h = false≢true h

not_made : (b : Bool) → (b ≡ true → ⊥) → not b ≡ true
not_made true h = absurd (h refl)
not_made false h = refl

module _ (system : System) (event n : ℕ) where
  pub reached-means : is_reached system event n ≡ true → Holds system (only event) n × (Holds system no_event n → ⊥)
  reached-means e =
      let both = and_parts (makes_hold system n (only event)) (not (makes_hold system n no_event)) e in
      ((holds_of-exact system (only event) n).0 both.0, λ h. not_true (makes_hold system n no_event) both.1 ((holds_of-exact system no_event n).1 h))

  pub reached-made : Holds system (only event) n → (Holds system no_event n → ⊥) → is_reached system event n ≡ true
  reached-made alone needed =
      and_from (makes_hold system n (only event)) (not (makes_hold system n no_event)) ((holds_of-exact system (only event) n).1 alone)
      (not_made (makes_hold system n no_event) (λ h. needed ((holds_of-exact system no_event n).0 h)))

module _ (system : System) (effects : List ℕ) where
  row-made : (event n : ℕ) → event < length system.events → In n effects → is_reached system event n ≡ true → IsRow system effects (row_of system event n)
  row-made event n fits i e =
      let means = reached-means system event n e in
      record {
        event_in = fits;
        effect_in = contains_In n effects i;
        alone = means.0;
        needed = means.1;
        first = least-round system (only event) n means.0;
      }

  -- what a row of an event is
  row-of-event : (event : ℕ) (row : Row) → In row (event_rows system effects event) → (n : ℕ) × (In n effects × (is_reached system event n ≡ true)) × (row_of system event n ≡ row)
  row-of-event event row i =
      let at = In-map (row_of system event) row (filter (is_reached system event) effects) i in
      (at.0, In-filter (is_reached system event) at.0 effects at.1, at.2)

  row-there : (row : Row) → In row (rows_of system effects) → IsRow system effects row
  row-there row i =
      let at = In-flat (event_rows system effects) row (numbers_below (length system.events)) i in
      let made = row-of-event at.0 row at.2 in
      subst (IsRow system effects) made.2 (row-made at.0 made.0 (below-in (length system.events) at.0 at.1) made.1.0 made.1.1)

  there-row : (row : Row) → IsRow system effects row → In row (rows_of system effects)
  there-row row is =
      let same : round_of system (only row.event) row.effect ≡ row.round = round-is system (only row.event) row.effect row.round is.first in
      let whole : row_of system row.event row.effect ≡ row = λ i. record { event = row.event; effect = row.effect; round = same i } in
      In-flatted (event_rows system effects) row.event row (numbers_below (length system.events)) (in-below (length system.events) row.event is.event_in)
      (subst (λ (r : Row). In r (event_rows system effects row.event)) whole
      (In-mapped (row_of system row.event) row.effect (filter (is_reached system row.event) effects)
      (In-filtered (is_reached system row.event) row.effect effects (reached-made system row.event row.effect is.alone is.needed) (In-contains row.effect effects is.effect_in))))

  -- ---- the order of the rows

  mapped-order : (event low high : ℕ) (ns : List ℕ) → RisesWithin low high ns → IsInRowOrder (map (row_of system event) ns)
  mapped-order event low high [] r = tt
  mapped-order event low high (n ∷ ns) r = (
    each-made (IsBefore (row_of system event n)) (map (row_of system event) ns) (λ row i.
        let at = In-map (row_of system event) row ns i in
        subst (IsBefore (row_of system event n)) at.2 (before_effect (row_of system event n) (row_of system event at.0) refl
        (omega (arith, (RisesWithin-at (n + 1) high ns at.0 r.2 (contained-in_set ns at.0 (contains_In at.0 ns at.1))).0)))),
    mapped-order event (n + 1) high ns r.2,
  )

  rows-below : (count : ℕ) → RisesWithin 0 (length system.facts) effects → IsInRowOrder (flat_map (event_rows system effects) (numbers_below count))
  rows-below zero r = tt
  rows-below (suc count) r =
      let last : flat_map (event_rows system effects) (count ∷ []) ≡ event_rows system effects count = append-nil (event_rows system effects count) in
      subst IsInRowOrder (sym (flat_map-append (event_rows system effects) (numbers_below count) (count ∷ []) ∙ ap (λ rows. flat_map (event_rows system effects) (numbers_below count) ++ rows) last))
      (order-append (flat_map (event_rows system effects) (numbers_below count)) (event_rows system effects count) (rows-below count r)
      (mapped-order count 0 (length system.facts) (filter (is_reached system count) effects) (RisesWithin-filter (is_reached system count) 0 (length system.facts) effects r))
      (λ a b i j.
      let at = In-flat (event_rows system effects) a (numbers_below count) i in
      let first = row-of-event at.0 a at.2 in
      let later = row-of-event count b j in
      before_event a b (omega (arith, below-in count at.0 at.1, ap (λ (w : Row). w.event) first.2, ap (λ (w : Row). w.event) later.2))))

  -- the computed rows are the rows
  pub rows-exact : RisesWithin 0 (length system.facts) effects → AreRows system effects (rows_of system effects)
  rows-exact r = record {
    exact = λ row. ((λ c. row-there row (In-contains row (rows_of system effects) c)), (λ is. contains_In row (rows_of system effects) (there-row row is)));
    ordered = rows-below (length system.events) r;
  }

  -- there is one list of rows
  pub rows-same : (a b : List Row) → AreRows system effects a → AreRows system effects b → a ≡ b
  rows-same a b x y = one_order a b x.ordered y.ordered
      (λ row i. In-contains row b ((y.exact row).1 ((x.exact row).0 (contains_In row a i))))
      (λ row i. In-contains row a ((x.exact row).1 ((y.exact row).0 (contains_In row b i))))

-- the rows of one event more
pub rows-next : (system : System) (effects : List ℕ) (count : ℕ) (rows new : List Row) → rows ≡ flat_map (event_rows system effects) (numbers_below count) → new ≡ rows ++ event_rows system effects count → new ≡ flat_map (event_rows system effects) (numbers_below (count + 1))
rows-next system effects count rows new so_far next =
    let one : suc count ≡ count + 1 = omega arith in
    next ∙ ap (λ rs. rs ++ event_rows system effects count) so_far ∙ ap (λ rs. flat_map (event_rows system effects) (numbers_below count) ++ rs) (sym (append-nil (event_rows system effects count)))
    ∙ sym (flat_map-append (event_rows system effects) (numbers_below count) (count ∷ [])) ∙ ap (λ k. flat_map (event_rows system effects) (numbers_below k)) one
