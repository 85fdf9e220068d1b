use Rattle.std.proofs.Common.{◌≡◌, ◌++◌, ℕ, map, filter, take, nat_eq}
use Rattle.std.specs.HashMap.{get}
use Rattle.flattener.specs.inner.Tables.{values}
use Rattle.flattener.proofs.kind.add_to.Given as goal

abbrev pub invariant-loop-target : goal.invariant-loop-target
invariant-loop-target l = (state : ℕ) → values (get nat_eq l.rows state) ≡ values (get nat_eq l.fn.rows state) ++ map (λ target. l.condition) (filter (λ target. nat_eq target state) (take l.target-index l.targets))
