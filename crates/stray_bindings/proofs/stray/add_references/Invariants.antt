use Rattle.std.proofs.Common.{◌≡◌, ◌++◌, filter, take}
use Rattle.std.specs.Prelude.{not}
use Rattle.stray_bindings.specs.Stray.{is_part}
use Rattle.stray_bindings.proofs.stray.add_references.Given as goal

abbrev pub invariant-loop-reference : goal.invariant-loop-reference
invariant-loop-reference l = l.paths ≡ l.fn.paths ++ filter (λ path. not (is_part l.places l.number path)) (take l.reference-index l.references)
