use Rattle.std.proofs.Common.{◌≡◌, ◌++◌, take}
use Rattle.rate_keys.proofs.keys.add_names.Given as goal

abbrev pub invariant-loop-part : goal.invariant-loop-part
invariant-loop-part l = l.names ≡ l.fn.names ++ take l.part-index l.point
