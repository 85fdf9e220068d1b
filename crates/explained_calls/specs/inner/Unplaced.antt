-- Which words of a call that gives no request have no place in it.
use Rattle.std.specs.Prelude.{ℕ, ◌-◌, Bool, true, false, not, ◌&&◌, ◌||◌, ◌==◌, if◌then◌else◌, List, [], ◌∷◌, ◌++◌, codes, is_some, Option, None, Some}
use Rattle.std.specs.List.{list_any}
use Rattle.plain_values.specs.Name.{is_same_text}
use Rattle.near_names.specs.inner.Near.{near_line}
use Rattle.fta_words.specs.Table.{flags_of, is_among, kind_named, shape_of, valued_of}
use Rattle.fta_words.specs.Words.{is_option}
use Rattle.fta_words.specs.declared.kind.Kind.{Kind}
use Rattle.fta_words.specs.declared.kind.Kind.TheVariants as kind
use Rattle.fta_words.specs.declared.kind.Shape.{Shape}
use Rattle.fta_words.specs.declared.kind.Shape.TheVariants as shape
use Rattle.help_texts.specs.inner.Usage.{name_in, usage_text}

-- ---- words that begin with `-`

-- whether a text has a byte that is this sign
abbrev pub has_sign : ℕ → List ℕ → Bool
has_sign sign text = list_any (λ byte. byte == sign) text

-- whether a word begins with `--`
abbrev pub has_dashes : List ℕ → Bool
has_dashes [] = false
has_dashes (first ∷ []) = false
has_dashes (first ∷ second ∷ text) = first == 45 && second == 45

-- whether a command has an option of this name
abbrev pub is_known : Kind → List ℕ → Bool
is_known kind name = is_among (flags_of kind) name || is_among (valued_of kind) name

-- whether a word that has the name of an option of the command is written as one: `--` and the name, and `=` behind it only where the
-- option has a value
abbrev pub is_written : Kind → List ℕ → Bool
is_written kind word = has_dashes word && (is_among (valued_of kind) (name_in word) || not (has_sign 61 word))

-- whether the next word is the value of a word that begins with `-`: it has none behind a `=`, and is no flag of the command
abbrev pub wants_value : Kind → List ℕ → Bool
wants_value kind word = not (has_sign 61 word || is_among (flags_of kind) (name_in word))

-- whether an option of the same name stands among some words
abbrev pub stands_again : List ℕ → List (List ℕ) → Bool
stands_again word words = list_any (λ other. is_option other && is_same_text (name_in other) (name_in word)) words

-- whether no value stands first
abbrev pub has_no_value : List (List ℕ) → Bool
has_no_value [] = true
has_no_value (word ∷ words) = is_option word

-- ---- what is said of a word

-- the line of a word that has no place
abbrev pub no_place : List ℕ → List ℕ
no_place word = codes "no place " ++ (word ++ codes "\n")

-- what is said of a word that has the name of an option of the command, with these behind it: that it has no place, where it is written in
-- another way, with that name, or where the option stands again; and that it has no value
abbrev pub known_text : Kind → List ℕ → List (List ℕ) → List ℕ
known_text kind word words =
    if not (is_written kind word) then no_place word ++ near_line (codes "--") (name_in word)
    else (if stands_again word words then no_place word else (if wants_value kind word && has_no_value words then codes "no value " ++ (word ++ codes "\n") else []))

-- what is said of a word that begins with `-`; of one that has not the name of an option it is said elsewhere
abbrev pub option_place : Kind → List ℕ → List (List ℕ) → List ℕ
option_place kind word words = if is_known kind (name_in word) then known_text kind word words else []

-- how many other words may stand next; none where there is no bound, as of the words of a call behind `explain`
abbrev pub room_of : Shape → Option ℕ
room_of shape.Model = None
room_of shape.Target = None
room_of shape.Derivation = None
room_of shape.Requirements = None
room_of shape.Compared = None
room_of shape.Number = Some 1
room_of shape.File = Some 1
room_of shape.Place = Some 2
room_of shape.Code = None
room_of shape.Topic = Some 1
room_of shape.Alone = Some 0

-- whether no more may
abbrev pub is_full : Option ℕ → Bool
is_full None = false
is_full (Some room) = room == 0

-- one less
abbrev pub one_less : Option ℕ → Option ℕ
one_less None = None
one_less (Some room) = Some (room - 1)

-- what is said of a word with these behind it, where so many other words may stand
abbrev pub word_place : Kind → Option ℕ → List ℕ → List (List ℕ) → List ℕ
word_place kind room word words = if is_option word then option_place kind word words else (if is_full room then no_place word else [])

-- how many other words may stand behind a word: behind one that begins with `-` its value alone
abbrev pub room_behind : Kind → Option ℕ → List ℕ → Option ℕ
room_behind kind room word = if is_option word then (if wants_value kind word then Some 1 else Some 0) else one_less room

-- ---- what is said of all words

-- what is said of the words of a command, where so many that begin with no `-` may stand next
abbrev pub unplaced : Kind → Option ℕ → List (List ℕ) → List ℕ
unplaced kind room [] = []
unplaced kind room (word ∷ words) = word_place kind room word words ++ unplaced kind (room_behind kind room word) words

-- what is said of the words behind `help`: that the first is no command, and the nearest ones
abbrev pub topic_text : List (List ℕ) → List ℕ
topic_text [] = []
topic_text (word ∷ words) = if is_option word || is_some (kind_named word) then [] else usage_text (word ∷ words)

-- the same of the words behind the name of any command
abbrev pub topic_of : Kind → List (List ℕ) → List ℕ
topic_of kind.Help words = topic_text words
topic_of _ words = []

-- what is said of the words behind the name of a command
abbrev pub places_of : Option Kind → List (List ℕ) → List ℕ
places_of None words = []
places_of (Some kind) words = topic_of kind words ++ unplaced kind (room_of (shape_of kind)) words

-- which words of a call have no place in it
abbrev pub places_text : List (List ℕ) → List ℕ
places_text [] = []
places_text (name ∷ words) = places_of (kind_named name) words
