-- What the table of commands says of each. Its rows stand in src/table.rt, one a command.
use Rattle.std.specs.Prelude.{ℕ, Bool, List, [], Option, find, map, slice_get}
use Rattle.std.specs.List.{list_any}
use Rattle.std.specs.Option.{option_map_or}
use Rattle.plain_values.specs.Name.{is_same_text}
use Rattle.fta_words.specs.declared.kind.Kind.{Kind}
use Rattle.fta_words.specs.declared.kind.Kind.TheVariants as kind
use Rattle.fta_words.specs.declared.kind.Shape.{Shape}
use Rattle.fta_words.specs.declared.kind.Shape.TheVariants as shape
use Rattle.fta_words.specs.declared.kind.TheConstants.{KINDS}
use Rattle.fta_words.specs.declared.table.TheConstants.{CODES, DRAWN_FORMATS, FLAGS, FORMATS, GATES, PROFILES, ROWS, UNRATED}

-- the place of the row of a command
abbrev pub place_of : Kind → ℕ
place_of kind.Check = 0
place_of kind.Cuts = 1
place_of kind.Tree = 2
place_of kind.Fmea = 3
place_of kind.Report = 4
place_of kind.Make = 5
place_of kind.Galileo = 6
place_of kind.Paths = 7
place_of kind.Why = 8
place_of kind.Confirm = 9
place_of kind.Targets = 10
place_of kind.Events = 11
place_of kind.Review = 12
place_of kind.Place = 13
place_of kind.Manifest = 14
place_of kind.Refusals = 15
place_of kind.Probability = 16
place_of kind.Require = 17
place_of kind.Compare = 18
place_of kind.Explain = 19
place_of kind.Help = 20
place_of kind.Version = 21

-- the name of a command
abbrev pub name_of : Kind → List ℕ
name_of kind = option_map_or (λ row. row.name.now) (slice_get ROWS (place_of kind)) []

-- which plain words follow it
abbrev pub shape_of : Kind → Shape
shape_of kind = option_map_or (λ row. row.shape) (slice_get ROWS (place_of kind)) shape.Alone

-- its flags
abbrev pub flags_of : Kind → List (List ℕ)
flags_of kind = option_map_or (λ row. map (λ name. name.now) row.flags.now) (slice_get ROWS (place_of kind)) []

-- its options that have a value
abbrev pub valued_of : Kind → List (List ℕ)
valued_of kind = option_map_or (λ row. map (λ name. name.now) row.valued.now) (slice_get ROWS (place_of kind)) []

-- those of them that must be there
abbrev pub required_of : Kind → List (List ℕ)
required_of kind = option_map_or (λ row. map (λ name. name.now) row.required.now) (slice_get ROWS (place_of kind)) []

-- the flags of all commands
abbrev pub all_flags : List (List ℕ)
all_flags = map (λ name. name.now) FLAGS

-- the codes of refusals, in lower case
abbrev pub all_codes : List (List ℕ)
all_codes = map (λ name. name.now) CODES

-- the formats in which it writes a tree: one that is read from a file is written in two of them
abbrev pub formats_of : Kind → List (List ℕ)
formats_of kind.Galileo = map (λ name. name.now) DRAWN_FORMATS
formats_of _ = map (λ name. name.now) FORMATS

-- which gates a tree may have
abbrev pub gate_choices : List (List ℕ)
gate_choices = map (λ name. name.now) GATES

-- what may be done with an event without a rate
abbrev pub unrated_choices : List (List ℕ)
unrated_choices = map (λ name. name.now) UNRATED

-- by which profile a model, or a tree in a file, may be read
abbrev pub profile_choices : List (List ℕ)
profile_choices = map (λ name. name.now) PROFILES

-- whether a name is among others
abbrev pub is_among : List (List ℕ) → List ℕ → Bool
is_among names name = list_any (λ other. is_same_text other name) names

-- the words that must be there, as help has them
abbrev pub usage_of : Kind → List ℕ
usage_of kind = option_map_or (λ row. row.usage.now) (slice_get ROWS (place_of kind)) []

-- the options that may follow, each in brackets
abbrev pub optional_of : Kind → List ℕ
optional_of kind = option_map_or (λ row. row.optional.now) (slice_get ROWS (place_of kind)) []

-- what it writes, in one line
abbrev pub about_of : Kind → List ℕ
about_of kind = option_map_or (λ row. row.about.now) (slice_get ROWS (place_of kind)) []

-- the first of these commands that has a name
abbrev pub kind_among : List Kind → List ℕ → Option Kind
kind_among kinds name = find (λ kind. is_same_text (name_of kind) name) kinds

-- the command of a name
abbrev pub kind_named : List ℕ → Option Kind
kind_named name = kind_among KINDS name
