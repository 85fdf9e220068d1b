use Rattle.std.proofs.Common.{◌≡◌, drop}
use Rattle.plain_values.specs.Order.{least, nearer}
use Rattle.fta_run.specs.Files.{too_long_from}
use Rattle.fta_run.proofs.input.check_each.Given as goal

abbrev pub invariant-loop-file : goal.invariant-loop-file
invariant-loop-file l = nearer l.first (least (too_long_from l.file (drop l.file l.texts))) ≡ least (too_long_from 0 l.texts)
