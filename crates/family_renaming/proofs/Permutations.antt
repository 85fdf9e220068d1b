-- Tables that undo each other, and lists that have each event once.
use Rattle.std.proofs.Common.{◌≡◌, ◌<◌, ◌≤◌, ◌⊎◌, ℕ, List, length, slice_get, slice_index_or, Some, sym, ap, ◌∙◌, subst, inl, inr, arith}
use Rattle.std.proofs.lemmas.Bool.{cases_lt}
use Rattle.std.proofs.lemmas.Option.{slice_get_past, slice_get_within, slice_get-get_or, unwrap_or-slice_get}
use Rattle.std.specs.Option.{unwrap_or}
use Rattle.family_renaming.specs.inner.Renaming.{name_of, AreInverse, IsEventOrder}
use Rattle.family_renaming.specs.inner.Orders.{Undoes, HasPlaces}

pub at_place : (xs : List ℕ) (i x d : ℕ) → slice_get xs i ≡ Some x → slice_index_or xs i d ≡ x
at_place xs i x d e = sym (unwrap_or-slice_get xs i d) ∙ ap (λ o. unwrap_or o d) e

pub past_end : (xs : List ℕ) (i d : ℕ) → length xs ≤ i → slice_index_or xs i d ≡ d
past_end xs i d h = sym (unwrap_or-slice_get xs i d) ∙ ap (λ o. unwrap_or o d) (slice_get_past xs i h)

one_place : (a b : ℕ) → Some a ≡ Some b → a ≡ b
one_place a b e = cc

-- a table that the other undoes gives each name back
named_back : (there back : List ℕ) → length back ≡ length there → Undoes there back → (n : ℕ) → name_of back (name_of there n) ≡ n
named_back there back long undone n = by (cases_lt n (length there))
  where
    by : (n < length there) ⊎ (length there ≤ n) → name_of back (name_of there n) ≡ n
    by (inl h) = at_place back (name_of there n) n (name_of there n) (undone n (name_of there n) (slice_get-get_or there n n h))
    by (inr h) = ap (name_of back) (past_end there n n h) ∙ past_end back n n (omega arith)

pub are_inverse : (there back : List ℕ) → length back ≡ length there → Undoes there back → Undoes back there → AreInverse there back
are_inverse there back long undone redone = record { there_back = named_back there back long undone; back_there = named_back back there (sym long) redone }

-- a list that a table of the same length undoes, and that undoes the table, has each event once
pub event_order : (events table : List ℕ) → length table ≡ length events → Undoes events table → Undoes table events → IsEventOrder events
event_order events table long undone redone =
    record {
      ranged = λ k d h. let within : slice_index_or events k d < length table = slice_get_within table (slice_index_or events k d) k (undone k (slice_index_or events k d) (slice_get-get_or events k d h)) in omega arith;
      once = λ i j d h k e.
          let first : slice_get table (slice_index_or events i d) ≡ Some i = undone i (slice_index_or events i d) (slice_get-get_or events i d (omega arith)) in
          let second : slice_get table (slice_index_or events j d) ≡ Some j = undone j (slice_index_or events j d) (slice_get-get_or events j d k) in
          let same : i ≡ j = one_place i j (sym first ∙ ap (slice_get table) e ∙ second) in
          omega arith;
      each = λ event h.
          let place : slice_get events (slice_index_or table event 0) ≡ Some event = redone event (slice_index_or table event 0) (slice_get-get_or table event 0 (omega arith)) in
          (slice_index_or table event 0, slice_get_within events (slice_index_or table event 0) event place, at_place events (slice_index_or table event 0) event event place);
    }

-- the places of a list that has each event once
module _ (events table : List ℕ) (long : length table ≡ length events) (places : HasPlaces events (length events) table) (order : IsEventOrder events) where
  pub order_undone : Undoes events table
  order_undone place event is =
      let within : place < length events = slice_get_within events place event is in
      let here : slice_index_or events place 0 ≡ event = at_place events place event 0 is in
      let ranged : slice_index_or events place 0 < length events = order.ranged place 0 within in
      let at : slice_get events (slice_index_or table event 0) ≡ Some event = places place event within is (omega arith) in
      let there : slice_index_or table event 0 < length events = slice_get_within events (slice_index_or table event 0) event at in
      slice_get-get_or table event 0 (omega arith) ∙ ap Some (same place event is at (cases_lt (slice_index_or table event 0) place))
    where
      same : (place event : ℕ) → slice_get events place ≡ Some event → slice_get events (slice_index_or table event 0) ≡ Some event
          → (slice_index_or table event 0 < place) ⊎ (place ≤ slice_index_or table event 0) → slice_index_or table event 0 ≡ place
      same place event is at (inl h) =
          absurd (order.once (slice_index_or table event 0) place 0 h (slice_get_within events place event is) (at_place events (slice_index_or table event 0) event 0 at ∙ sym (at_place events place event 0 is)))
      same place event is at (inr h) = by (cases_lt place (slice_index_or table event 0))
        where
          by : (place < slice_index_or table event 0) ⊎ (slice_index_or table event 0 ≤ place) → slice_index_or table event 0 ≡ place
          by (inl k) =
              absurd (order.once place (slice_index_or table event 0) 0 k (slice_get_within events (slice_index_or table event 0) event at) (at_place events place event 0 is ∙ sym (at_place events (slice_index_or table event 0) event 0 at)))
          by (inr k) = omega arith

  pub order_redone : Undoes table events
  order_redone event place is =
      let within : event < length table = slice_get_within table event place is in
      let found = order.each event (omega arith) in
      let at : slice_get events (slice_index_or table event 0) ≡ Some event =
      places found.0 event found.1 (slice_get-get_or events found.0 event found.1 ∙ ap Some found.2) within in
      ap (slice_get events) (sym (at_place table event place 0 is)) ∙ at

-- what holds of two tables holds of the same tables
pub both_undone : (events table events' table' : List ℕ) → events ≡ events' → table ≡ table' → Undoes events table × Undoes table events → Undoes events' table' × Undoes table' events'
both_undone events table events' table' e t both = subst (λ xs. Undoes xs table' × Undoes table' xs) e (subst (λ ys. Undoes events ys × Undoes ys events) t both)
