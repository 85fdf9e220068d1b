use Rattle.std.proofs.Common.{◌≡◌, false, take}
use Rattle.std.specs.List.{list_any}
use Rattle.model_review.specs.Findings.{sink_takes}
use Rattle.model_review.proofs.sides.is_sunk.Given as goal

abbrev pub invariant-loop-sink : goal.invariant-loop-sink
invariant-loop-sink l = list_any (sink_takes l.number l.kind) (take l.sink-index l.sinks) ≡ false
