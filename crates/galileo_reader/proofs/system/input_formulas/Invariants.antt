use Rattle.std.proofs.Common.{◌≡◌, map, take}
use Rattle.round_gates.specs.Formulas.{input_formula}
use Rattle.galileo_reader.proofs.system.input_formulas.Given as goal

abbrev pub invariant-loop-input : goal.invariant-loop-input
invariant-loop-input l = l.made ≡ map input_formula (take l.input-index l.inputs)
