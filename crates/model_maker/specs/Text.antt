-- The text of the model that is made from a number.
use Rattle.std.specs.Prelude.{ℕ, ◌+◌, ◌-◌, List, ◌++◌, codes, decimal, flat_map}
use Rattle.plain_values.specs.Numbered.{numbers_below}

-- the lines of what a part does
abbrev pub unit_lines : List ℕ
unit_lines = codes "package gen\npublic\nannex EMV2 {**\nerror behavior unit\nevents e: error event;\nstates ok: initial state; bad: state;\ntransitions ok -[e]-> bad;\nend behavior;\n"

-- the lines of what the whole does, and of what a part is
abbrev pub part_lines : List ℕ
part_lines = codes "error behavior whole\nstates ok: initial state; bad: state;\nend behavior;\n**};\ndevice part\nannex EMV2 {** use behavior gen::unit; **};\nend part;\n"

-- the lines of the system before its parts
abbrev pub system_lines : List ℕ
system_lines = codes "system s\nend s;\nsystem implementation s.i\nsubcomponents\n"

-- the line of a part
abbrev pub part_line : List ℕ → ℕ → List ℕ
part_line letter k = letter ++ (decimal k ++ codes ": device part;\n")

-- the lines of a pair of parts
abbrev pub pair_lines : ℕ → List ℕ
pair_lines k = part_line (codes "a") k ++ part_line (codes "b") k

-- the lines before the stages
abbrev pub middle_lines : List ℕ
middle_lines = codes "annex EMV2 {**\nuse behavior gen::whole;\ncomposite error behavior\nstates ["

-- a stage: one part of a pair is bad
abbrev pub stage : ℕ → List ℕ
stage k = codes "(a" ++ (decimal k ++ (codes ".bad or b" ++ (decimal k ++ codes ".bad)")))

-- a further stage
abbrev pub further_stage : ℕ → List ℕ
further_stage k = codes " and " ++ stage k

-- the lines behind the stages
abbrev pub last_lines : List ℕ
last_lines = codes "]-> bad;\nend composite;\n**};\nend s.i;\nend gen;\n"

-- the lines before the parts
abbrev pub first_lines : List ℕ
first_lines = unit_lines ++ (part_lines ++ system_lines)

-- the lines up to the parts
abbrev pub parts_text : ℕ → List ℕ
parts_text pairs = first_lines ++ flat_map (λ k. pair_lines (k + 1)) (numbers_below pairs)

-- the stages, with `and` between them
abbrev pub stages : ℕ → List ℕ
stages pairs = stage 1 ++ flat_map (λ k. further_stage (k + 2)) (numbers_below (pairs - 1))

-- the lines behind the parts
abbrev pub composite_text : ℕ → List ℕ
composite_text pairs = middle_lines ++ (stages pairs ++ last_lines)

-- The text of a model of so many pairs of parts, one at least. The whole is bad where of each pair one part is.
abbrev pub text_of : ℕ → List ℕ
text_of pairs = parts_text pairs ++ composite_text pairs
