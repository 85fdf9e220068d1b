-- The line of each set of events has room where all names have.
use Rattle.std.proofs.Common.{◌≡◌, ℕ, zero, suc, ◌+◌, ◌<◌, ◌≤◌, ◌^◌, List, [], ◌∷◌, ◌++◌, length, take, drop, decimal, slice_get, refl, ap, length-append, add-one, subst, arith}
use Rattle.std.specs.Prelude.{unwrap_or, IfSome, Option, None, Some}
use Rattle.std.specs.Option.{option_map}
use Rattle.std.proofs.lemmas.Fmt.{length-decimal-le}
use Rattle.fault_system.specs.Systems.{System, event_name}
use Rattle.fault_system.specs.CutSets.{IsEventSet}
use Rattle.plain_values.specs.Rising.{RisesWithin}
use Rattle.fault_system.specs.declared.formula.EventInfo.{EventInfo}
use Rattle.fault_system.proofs.ListingLaws.{length_rising}
use Rattle.std.specs.List.{flat_map}
use Rattle.cutset_lister.specs.SetText.{quoted_name, set_text}
use Rattle.cutset_lister.specs.inner.Scanning.{names_text}
use Rattle.cutset_lister.proofs.Scans.{set_text-first}
use Rattle.page_tokens.specs.Starts.{start_text}
use Rattle.cutset_writer.specs.inner.Lengths.{most_line, names_room}
use Rattle.cutset_writer.specs.inner.Pages.{HasRoom}
use Rattle.cutset_writer.specs.Text.{form_text, set_line}
use Rattle.cutset_writer.specs.declared.form.SetForm.{SetForm}
use Rattle.cutset_writer.specs.declared.form.SetForm.TheVariants.{Token, Quoted}

-- the name of the event of a number
abbrev pub name_at : List EventInfo → ℕ → List ℕ
name_at events number = unwrap_or (option_map (λ (e : EventInfo). e.name) (slice_get events number)) []

-- the names up to a place, and the one there
pub room_more : (events : List EventInfo) (k : ℕ) → k < length events → names_room (take (suc k) events) ≡ (names_room (take k events) + length (name_at events k)) + 3
room_more [] k h = absurd (omega arith)
room_more (e ∷ es) zero h = let one : names_room (take (suc zero) (e ∷ es)) ≡ (length e.name + 3) + 0 = refl in omega (arith, one)
room_more (e ∷ es) (suc k) h = let more : names_room (take (suc (suc k)) (e ∷ es)) ≡ (length e.name + 3) + names_room (take (suc k) es) = refl in omega (arith, more, room_more es k (omega arith))

-- the names from a place on have room among those from an earlier one on
room_later : (events : List EventInfo) (low n : ℕ) → low ≤ n → n < length events → (length (name_at events n) + 3) + names_room (drop (suc n) events) ≤ names_room (drop low events)
room_later [] low n h lt = absurd (omega arith)
room_later (e ∷ es) zero zero h lt = let rest : names_room (drop (suc zero) (e ∷ es)) ≡ names_room es = refl in omega (arith, rest)
room_later (e ∷ es) zero (suc n) h lt = let rest : names_room (drop (suc (suc n)) (e ∷ es)) ≡ names_room (drop (suc n) es) = refl in omega (arith, rest, room_later es zero n (omega arith) (omega arith))
room_later (e ∷ es) (suc low) zero h lt = absurd (omega arith)
room_later (e ∷ es) (suc low) (suc n) h lt = room_later es low n (omega arith) (omega arith)

-- the names of a set have room among those of all events
names-fit : (system : System) (low : ℕ) (set : List ℕ) → RisesWithin low (length system.events) set → length (names_text system set) ≤ names_room (drop low system.events)
names-fit system low [] rises = omega arith
names-fit system low (n ∷ ns) rises =
    omega (arith, names-fit system (suc n) ns (subst (λ m. RisesWithin m (length system.events) ns) (add-one n) rises.2), room_later system.events low n rises.0 rises.1, length-append (43 ∷ event_name system n) (names_text system ns))

text-fits : (system : System) (set : List ℕ) → IsEventSet system set → length (set_text system set) ≤ 4 + names_room system.events
text-fits system [] rises = omega arith
text-fits system (n ∷ ns) rises =
    omega (arith, names-fit system 0 (n ∷ ns) rises, ap length (set_text-first system (n ∷ ns) n ns refl), length-append (event_name system n) (names_text system ns), length-append (43 ∷ event_name system n) (names_text system ns))

-- so have its names in quotes
quoted-fit : (system : System) (low : ℕ) (set : List ℕ) → RisesWithin low (length system.events) set → length (flat_map (quoted_name system) set) ≤ names_room (drop low system.events)
quoted-fit system low [] rises = omega arith
quoted-fit system low (n ∷ ns) rises =
    omega (
      arith,
      quoted-fit system (suc n) ns (subst (λ m. RisesWithin m (length system.events) ns) (add-one n) rises.2),
      room_later system.events low n rises.0 rises.1,
      length-append (quoted_name system n) (flat_map (quoted_name system) ns),
      length-append (event_name system n) (34 ∷ []),
    )

form-fits : (form : SetForm) (system : System) (set : List ℕ) → IsEventSet system set → length (form_text form system set) ≤ 5 + names_room system.events
form-fits Token system set rises = omega (arith, text-fits system set rises)
form-fits Quoted system [] rises = omega arith
form-fits Quoted system (n ∷ ns) rises = omega (arith, quoted-fit system 0 (n ∷ ns) rises)

-- the line of a set has room
pub line_fits : (form : SetForm) (system : System) (set : List ℕ) → length system.events < 2 ^ 32 → IsEventSet system set → length (set_line form system set) ≤ most_line system
line_fits form system set small rises =
    let few = length_rising 0 (length system.events) set (omega arith) rises in
    omega (
      arith,
      form-fits form system set rises,
      length-decimal-le 20 (length set) (omega arith) (omega arith) (omega arith),
      length-append (decimal (length set)) (form_text form system set ++ (10 ∷ [])),
      length-append (form_text form system set) (10 ∷ []),
    )

-- the text of a set has room where its line has
text_in_line : (system : System) (set : List ℕ) (room : ℕ) → length (set_line Token system set) ≤ room → length (set_text system set) ≤ room
text_in_line system set room fits = omega (arith, fits, length-append (decimal (length set)) (form_text Token system set ++ (10 ∷ [])), length-append (form_text Token system set) (10 ∷ []))

-- so has the text of where a page begins
pub start_fits : (system : System) (start : Option (List ℕ)) → IfSome start (IsEventSet system) → length (start_text system start) ≤ most_line system
start_fits system None is = omega arith
start_fits system (Some set) is = omega (arith, text-fits system set is)

-- so has the text of the first of some sets, whose lines have room
pub first_fits : (system : System) (room : ℕ) (sets : List (List ℕ)) (set : List ℕ) (others : List (List ℕ)) → sets ≡ set ∷ others → HasRoom system room sets → length (set_text system set) ≤ room
first_fits system room sets set others is has = text_in_line system set room ((subst (HasRoom system room) is has).0 Token)
