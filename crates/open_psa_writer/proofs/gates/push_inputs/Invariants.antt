use Rattle.std.proofs.Common.{◌≡◌, ◌++◌, map, take}
use Rattle.std.specs.List.{flat_map}
use Rattle.open_psa_writer.specs.Mef.{input_text}
use Rattle.open_psa_writer.specs.TreeMef.{numbered}
use Rattle.open_psa_writer.proofs.gates.push_inputs.Given as goal

abbrev pub invariant-loop-input : goal.invariant-loop-input
invariant-loop-input l = l.line.items ≡ l.fn.line.items ++ flat_map input_text (map (numbered l.top) (take l.input-index l.inputs))
