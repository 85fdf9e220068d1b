use Rattle.std.proofs.Common.{◌≡◌, ◌++◌, take}
use Rattle.std.specs.List.{flat_map}
use Rattle.merged_gates.specs.inner.Tests.{input_text}
use Rattle.merged_gates.proofs.shapes.push_inputs.Given as goal

abbrev pub invariant-loop-input : goal.invariant-loop-input
invariant-loop-input l = l.text.items ≡ l.fn.text.items ++ flat_map input_text (take l.input-index l.inputs)
