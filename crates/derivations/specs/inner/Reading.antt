-- How a line is read: word by word.
use Rattle.std.specs.Prelude.{ℕ, zero, suc, ◌+◌, ◌==◌, ◌&&◌, Bool, false, cond, if◌then◌else◌, nat_le, List, [], ◌∷◌, ◌++◌, drop, decimal, Option, Some, None, position, not, nat_lt, length}
use Rattle.std.specs.List.{prefix_len}
use Rattle.std.specs.Option.{option_and_then}
use Rattle.plain_values.specs.Name.{is_same_text}
use Rattle.fault_system.specs.Truth.{NumberSet}
use Rattle.derivations.specs.declared.derivation.Firing.{Firing}

-- a line up to its first blank, and the words behind that, which are cut at blanks
pub record Words : Type 0 where
  pub first : List ℕ
  pub later : List (List ℕ)

-- words with one more in front
abbrev pub one_more : Words → List (List ℕ)
one_more words = words.first ∷ words.later

abbrev pub cut : List ℕ → Words
cut [] = record { first = []; later = [] }
cut (byte ∷ bytes) = cond (byte == 32) (record { first = []; later = one_more (cut bytes) }) (record { first = byte ∷ (cut bytes).first; later = (cut bytes).later })

-- the words of what follows a word: each is behind a blank
abbrev pub words_behind : List ℕ → List (List ℕ)
words_behind [] = []
words_behind (byte ∷ bytes) = one_more (cut bytes)

-- what was read of the later words of a line: the events and the uses, and how great the next of each must be at least
pub record Items : Type 0 where
  pub events : List ℕ
  pub uses : List ℕ
  pub next_event : ℕ
  pub next_use : ℕ

abbrev pub no_items : Items
no_items = record { events = []; uses = []; next_event = 0; next_use = 0 }

-- the place of a name
abbrev pub place_of : List (List ℕ) → List ℕ → Option ℕ
place_of names name = position (λ other. is_same_text other name) names

-- the number below another whose digits plus one these are
abbrev pub use_of : ℕ → List ℕ → Option ℕ
use_of zero digits = None
use_of (suc limit) digits = cond (is_same_text digits (decimal (limit + 1))) (Some limit) (use_of limit digits)

abbrev pub begins_use : List ℕ → Bool
begins_use [] = false
begins_use (byte ∷ bytes) = byte == 35

abbrev pub with_event : NumberSet → Items → Option ℕ → Option Items
with_event events items None = None
with_event events items (Some event) =
    if (items.next_use == 0) && (nat_le items.next_event event && events event) then Some (record items { events = items.events ++ event ∷ []; next_event = event + 1 }) else None

abbrev pub with_use : Items → Option ℕ → Option Items
with_use items None = None
with_use items (Some number) = if nat_le items.next_use number then Some (record items { uses = items.uses ++ number ∷ []; next_use = number + 1 }) else None

-- what was read with one word more, where events have these names
abbrev pub with_word : List (List ℕ) → NumberSet → ℕ → Items → List ℕ → Option Items
with_word names events number items word = if begins_use word then with_use items (use_of number (drop 1 word)) else with_event events items (place_of names word)

-- what was read with some words more
abbrev pub with_words : List (List ℕ) → NumberSet → ℕ → Items → List (List ℕ) → Option Items
with_words names events number items [] = Some items
with_words names events number items (word ∷ words) = option_and_then (λ more. with_words names events number more words) (with_word names events number items word)

abbrev pub step_with : ℕ → Items → Option Firing
step_with fact items = Some (record { fact = fact; events = items.events; uses = items.uses })

-- the step of a fact and later words
abbrev pub step_of_fact : List (List ℕ) → NumberSet → ℕ → List (List ℕ) → Option ℕ → Option Firing
step_of_fact names events number words None = None
step_of_fact names events number words (Some fact) = option_and_then (step_with fact) (with_words names events number no_items words)

abbrev pub step_of_words : List (List ℕ) → List (List ℕ) → NumberSet → ℕ → List (List ℕ) → Option Firing
step_of_words facts names events number [] = None
step_of_words facts names events number (name ∷ words) = step_of_fact names events number words (place_of facts name)

-- the step of a line that has a number, where facts and events have these names
abbrev pub step_of : List (List ℕ) → List (List ℕ) → NumberSet → ℕ → List ℕ → Option Firing
step_of facts names events number line = if is_same_text (cut line).first (decimal (number + 1)) then step_of_words facts names events number (cut line).later else None

-- how many bytes stand before the line of a number, from 0; all bytes where there is no such line
abbrev pub line_place : ℕ → List ℕ → ℕ
line_place zero bytes = 0
line_place (suc number) bytes =
    let end = prefix_len (λ byte. not (byte == 10)) bytes in
    cond (nat_lt end (length bytes)) (suc end + line_place number (drop (suc end) bytes)) (length bytes)
