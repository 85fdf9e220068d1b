-- The names of events, and the table of their numbers in another system.
use Rattle.std.proofs.Common.{ℕ, ◌≡◌, ◌≢◌, ◌<◌, ◌≤◌, ◌⊎◌, Bool, true, false, cond, List, [], length, Option, None, Some, get_or, inl, inr, sym, ap, ◌∙◌, arith}
use Rattle.std.specs.Prelude.{nat_lt}
use Rattle.std.specs.Option.{option_map, unwrap_or}
use Rattle.std.specs.List.{position_or_len}
use Rattle.std.proofs.lemmas.Bool.{false≢true, cases_lt, lt-ltb}
use Rattle.std.proofs.lemmas.List.{get_or-map}
use Rattle.std.proofs.lemmas.List.Sums.{fails_before_first}
use Rattle.std.proofs.lemmas.List.Quantifiers.{position-Some}
use Rattle.std.proofs.lemmas.Option.{slice_get-get_or}
use Rattle.std.proofs.lemmas.Slice.Eq.{bytes_eq-Decides}
use lib.ListN.{length-map}
use Rattle.plain_values.specs.Name.{is_same_text}
use Rattle.fault_system.specs.Systems.{System, IsSystem, event_name}
use Rattle.fault_system.specs.declared.formula.EventInfo.{EventInfo}
use Rattle.listing_changes.specs.inner.Numbers.{event_names, number_of, numbers_there, place_of}

abbrev pub no_event : EventInfo
no_event = record { name = []; owner = 0; key = [] }

-- the name of an event is that at its place
pub name-at : (system : System) (n : ℕ) (d : List ℕ) → n < length system.events → event_name system n ≡ get_or (event_names system) n d
name-at system n d within =
    ap (λ (found : Option EventInfo). unwrap_or (option_map (λ event. event.name) found) []) (slice_get-get_or system.events n no_event within)
    ∙ sym (get_or-map (λ (event : EventInfo). event.name) system.events n no_event d within)

pub names-long : (system : System) → length (event_names system) ≡ length system.events
names-long system = length-map system.events (λ (event : EventInfo). event.name)

-- events with one name are one
pub one-event : (system : System) → IsSystem system → (n m : ℕ) → n < length system.events → m < length system.events → event_name system n ≡ event_name system m → n ≡ m
one-event system is n m n_in m_in same = by (cases_lt n m) (cases_lt m n) where
  names : get_or (event_names system) n [] ≡ get_or (event_names system) m []
  names = sym (name-at system n [] n_in) ∙ same ∙ name-at system m [] m_in

  by : (n < m) ⊎ (m ≤ n) → (m < n) ⊎ (n ≤ m) → n ≡ m
  by (inl less) other = absurd (is.events_named n m [] less (let long = names-long system in omega (arith, m_in, long)) names)
  by (inr more) (inl less) = absurd (is.events_named m n [] less (let long = names-long system in omega (arith, n_in, long)) (sym names))
  by (inr more) (inr few) = omega (arith, more, few)

-- what a table says of an event
pub number-at : (here there : System) (n : ℕ) → n < length here.events → number_of (numbers_there here there) n ≡ place_of (event_names there) (event_name here n)
number-at here there n within =
    get_or-map (λ (event : EventInfo). place_of (event_names there) event.name) here.events n no_event None within
    ∙ ap (place_of (event_names there)) (sym (get_or-map (λ (event : EventInfo). event.name) here.events n no_event [] within) ∙ sym (name-at here n [] within))

-- a place that is found has the name
pub name-found : (names : List (List ℕ)) (name : List ℕ) (k : ℕ) → place_of names name ≡ Some k → (k < length names) × (get_or names k [] ≡ name)
name-found names name k is =
    let found = position-Some (λ other. is_same_text other name) names k [] is in (found.0, (bytes_eq-Decides (get_or names k []) name).0 found.1)

-- where none is found no name is the same
pub name-lacks : (names : List (List ℕ)) (name : List ℕ) (k : ℕ) → place_of names name ≡ None → k < length names → get_or names k [] ≡ name → ⊥
name-lacks names name k is within same = by (cases_lt place (length names)) where
  place : ℕ
  place = position_or_len (λ other. is_same_text other name) names

  by : (place < length names) ⊎ (length names ≤ place) → ⊥
  by (inl less) = absurd (some (nat_lt place (length names)) (lt-ltb place (length names) less) is)
    where
      some : (b : Bool) → b ≡ true → cond b (Some place) None ≡ None → ⊥
      some true e f = cc
      some false e f = false≢true e
  by (inr past) = false≢true (sym (fails_before_first (λ other. is_same_text other name) names k [] (omega (arith, within, past))) ∙ (bytes_eq-Decides (get_or names k []) name).1 same)

-- the event of a number in the other system has the same name
pub same-name : (here there : System) (n m : ℕ) → n < length here.events → number_of (numbers_there here there) n ≡ Some m → (m < length there.events) × (event_name there m ≡ event_name here n)
same-name here there n m within is =
    let found = name-found (event_names there) (event_name here n) m (sym (number-at here there n within) ∙ is) in
    let long = names-long there in
    let there_in : m < length there.events = omega (arith, found.0, long) in
    (there_in, name-at there m [] there_in ∙ found.1)

-- where an event has no number none has its name
pub no-name : (here there : System) (n m : ℕ) → n < length here.events → m < length there.events → number_of (numbers_there here there) n ≡ None → event_name there m ≡ event_name here n → ⊥
no-name here there n m within there_in is same =
    let long = names-long there in
    name-lacks (event_names there) (event_name here n) m (sym (number-at here there n within) ∙ is) (omega (arith, there_in, long)) (sym (name-at there m [] there_in) ∙ same)

-- events with one number there are one
pub one-number : (here there : System) → IsSystem here → (n m k : ℕ) → n < length here.events → m < length here.events → number_of (numbers_there here there) n ≡ Some k → number_of (numbers_there here there) m ≡ Some k → n ≡ m
one-number here there is n m k n_in m_in first second =
    one-event here is n m n_in m_in (sym (same-name here there n k n_in first).1 ∙ (same-name here there m k m_in second).1)
