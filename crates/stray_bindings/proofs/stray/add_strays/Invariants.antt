use Rattle.std.proofs.Common.{◌≡◌, ◌++◌, take}
use Rattle.stray_bindings.specs.Stray.{strays_at}
use Rattle.stray_bindings.proofs.stray.add_strays.Given as goal

abbrev pub invariant-loop-path : goal.invariant-loop-path
invariant-loop-path l = l.found ≡ l.fn.found ++ strays_at l.number l.spot (take l.path-index l.paths)
