-- What `help`, `version` and `explain` write. The texts stand in src/commands.rt and src/explanations.rt.
use Rattle.std.specs.Prelude.{ℕ, List, [], ◌∷◌, ◌++◌, codes, if◌then◌else◌, map, Option, None, Some}
use Rattle.std.specs.List.{flat_map}
use Rattle.plain_values.specs.Name.{is_same_text}
use Rattle.fta_words.specs.Table.{about_of, all_codes, optional_of, usage_of}
use Rattle.fta_words.specs.declared.kind.TheConstants.{KINDS}
use Rattle.fta_words.specs.declared.kind.Kind.{Kind}
use Rattle.fta_words.specs.declared.kind.Kind.TheVariants as kind
use Rattle.help_texts.specs.declared.commands.TheConstants.{CHECK, CUTS, TREE, FMEA, REPORT, MAKE, GALILEO, PATHS, WHY, CONFIRM, TARGETS, EVENTS, REVIEW, PLACE, MANIFEST, REFUSALS, PROBABILITY, REQUIRE, COMPARE, EXPLAIN, HELP, VERSION, PROGRAM, STATUSES, VERSIONS}
use Rattle.help_texts.specs.declared.explanations.TheConstants.{EXPLANATIONS}

-- what a command writes, its options, and an example
abbrev pub lines_of : Kind → List ℕ
lines_of kind.Check = CHECK.now
lines_of kind.Cuts = CUTS.now
lines_of kind.Tree = TREE.now
lines_of kind.Fmea = FMEA.now
lines_of kind.Report = REPORT.now
lines_of kind.Make = MAKE.now
lines_of kind.Galileo = GALILEO.now
lines_of kind.Paths = PATHS.now
lines_of kind.Why = WHY.now
lines_of kind.Confirm = CONFIRM.now
lines_of kind.Targets = TARGETS.now
lines_of kind.Events = EVENTS.now
lines_of kind.Review = REVIEW.now
lines_of kind.Place = PLACE.now
lines_of kind.Manifest = MANIFEST.now
lines_of kind.Refusals = REFUSALS.now
lines_of kind.Probability = PROBABILITY.now
lines_of kind.Require = REQUIRE.now
lines_of kind.Compare = COMPARE.now
lines_of kind.Explain = EXPLAIN.now
lines_of kind.Help = HELP.now
lines_of kind.Version = VERSION.now

-- the line of a command among those of all: the words that must be there, and what it writes
abbrev pub line_of : Kind → List ℕ
line_of kind = usage_of kind ++ codes ": " ++ about_of kind ++ codes "\n"

-- what `help` writes: a line for each command, and the exit statuses; or of a command its words, and what is said of it
abbrev pub help_text : Option Kind → List ℕ
help_text None = flat_map line_of KINDS ++ STATUSES.now
help_text (Some kind) = codes "aadl_fta " ++ usage_of kind ++ optional_of kind ++ codes "\n\n" ++ lines_of kind

-- the program and its version
abbrev pub program_text : List ℕ
program_text = PROGRAM.now

-- what `version` writes: the version of the program, and its profiles
abbrev pub version_text : List ℕ
version_text = VERSIONS.now

-- the texts on refusals, in the order of their codes
abbrev pub all_explanations : List (List ℕ)
all_explanations = map (λ text. text.now) EXPLANATIONS

-- the text on the first of these codes that has a name; nothing where none has
abbrev pub explained : List (List ℕ) → List (List ℕ) → List ℕ → List ℕ
explained [] texts name = []
explained (code ∷ codes) [] name = []
explained (code ∷ codes) (text ∷ texts) name = if is_same_text code name then text else explained codes texts name

-- what `explain` writes of the refusal whose code has a name, in lower case
abbrev pub explain_text : List ℕ → List ℕ
explain_text name = explained all_codes all_explanations name
