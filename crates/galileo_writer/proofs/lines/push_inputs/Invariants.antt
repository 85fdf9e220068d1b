use Rattle.std.proofs.Common.{◌≡◌, ◌++◌, map, take}
use Rattle.galileo_writer.specs.Galileo.{inputs_text}
use Rattle.galileo_writer.specs.TreeText.{input_name}
use Rattle.galileo_writer.proofs.lines.push_inputs.Given as goal

abbrev pub invariant-loop-input : goal.invariant-loop-input
invariant-loop-input l = l.line.items ≡ l.fn.line.items ++ inputs_text (map (input_name l.system l.gates) (take l.input-index l.inputs))
