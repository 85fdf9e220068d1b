use Rattle.std.proofs.Common.{◌≡◌, map, take}
use Rattle.merged_gates.specs.inner.Tests.{shape_text}
use Rattle.merged_gates.proofs.shapes.shapes_of.Given as goal

abbrev pub invariant-loop-gate : goal.invariant-loop-gate
invariant-loop-gate l = map (λ shape. shape.text) l.shapes.items ≡ map shape_text (take l.gate-index l.gates)
