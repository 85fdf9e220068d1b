use Rattle.std.proofs.Common.{◌≡◌, ◌++◌, filter, take}
use Rattle.std.specs.Prelude.{not}
use Rattle.stray_bindings.specs.Stray.{is_bindable}
use Rattle.stray_bindings.proofs.stray.add_targets.Given as goal

abbrev pub invariant-loop-target : goal.invariant-loop-target
invariant-loop-target l = l.paths ≡ l.fn.paths ++ filter (λ path. not (is_bindable l.places l.kind l.number path)) (take l.target-index l.targets)
