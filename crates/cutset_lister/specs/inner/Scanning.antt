-- How a text is read as a set: over all events in order, which of them the text names next.
use Rattle.std.specs.Prelude.{ℕ, ◌≡◌, ◌<◌, ◌≤◌, ◌+◌, List, [], ◌∷◌, ◌++◌, length, take, drop}
use Rattle.std.specs.List.{flat_map}
use Rattle.fault_system.specs.Systems.{System, event_name}
use Rattle.plain_values.specs.Rising.{RisesWithin}
use Rattle.fault_system.specs.CutSets.{IsEventSet}

-- the names of a set, each behind a `+`
abbrev pub names_text : System → List ℕ → List ℕ
names_text system set = flat_map (λ event. 43 ∷ event_name system event) set

-- the end of a text, or a `+`
abbrev pub Ends : List ℕ → Type 0
Ends [] = Unit {0}
Ends (byte ∷ bytes) = byte ≡ 43

-- the text begins with the name, which ends there
pub record IsNext (text name : List ℕ) : Type 0 where
  pub tail : List ℕ
  pub whole : text ≡ name ++ tail
  pub ends : Ends tail

-- a set that has the text goes on from those found so far with events from a number on, which have the rest of the text
pub record GoesOn (system : System) (text : List ℕ) (number place : ℕ) (found set : List ℕ) : Type 0 where
  pub more : List ℕ
  pub whole : set ≡ found ++ more
  pub rise : RisesWithin number (length system.events) more
  pub rest : drop place (43 ∷ text) ≡ names_text system more

-- Of the events below a number these were found, up to a place of the text with a `+` before it: the text up to there is
-- theirs, and each set that has the whole text goes on from them.
pub record Scanned (system : System) (text : List ℕ) (number place : ℕ) (found : List ℕ) : Type 0 where
  pub rise : RisesWithin 0 number found
  pub front : 43 ∷ text ≡ names_text system found ++ drop place (43 ∷ text)
  pub plus : place ≤ length text → drop place (43 ∷ text) ≡ 43 ∷ drop place text
  pub all : (set : List ℕ) → IsEventSet system set → names_text system set ≡ 43 ∷ text → GoesOn system text number place found set

-- a text was added to a buffer, whose room only grew
pub record AddsText (text before after : List ℕ) (room_before room_after : ℕ) : Type 0 where
  pub items : after ≡ before ++ text
  pub room : room_before ≤ room_after

-- there was no room for a text, and at most a front of it was added
pub record LacksRoom (text before after : List ℕ) (room_before room_after : ℕ) : Type 0 where
  pub front : take (length before) after ≡ before
  pub room : room_before ≤ room_after
  pub lacks : room_before < length before + length text
