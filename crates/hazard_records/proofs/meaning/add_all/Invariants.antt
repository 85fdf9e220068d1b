use Rattle.std.proofs.Common.{◌≡◌, ◌++◌, take}
use Rattle.hazard_records.proofs.meaning.add_all.Given as goal

abbrev pub invariant-loop-number : goal.invariant-loop-number
invariant-loop-number l = l.numbers ≡ l.fn.numbers ++ take l.number-index l.all
