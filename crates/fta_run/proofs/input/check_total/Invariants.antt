use Rattle.std.proofs.Common.{◌≡◌, ◌≤◌, length, sum_by, take}
use Rattle.fta_run.proofs.input.check_total.Given as goal

abbrev pub invariant-loop-text : goal.invariant-loop-text
invariant-loop-text l = (l.total ≡ sum_by length (take l.text-index l.texts)) × (l.total ≤ 16777216)
