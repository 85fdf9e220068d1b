use Rattle.std.proofs.Common.{◌≡◌, ◌++◌, map, take}
use Rattle.hazard_records.proofs.keys.add_path.Given as goal

abbrev pub invariant-loop-name : goal.invariant-loop-name
invariant-loop-name l = l.names ≡ l.fn.names ++ map (λ name. name.now) (take l.name-index l.path)
