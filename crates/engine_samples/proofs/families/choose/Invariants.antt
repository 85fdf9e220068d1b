use Rattle.std.specs.Prelude.{All}
use Rattle.zdd_store.specs.inner.Store.{IsIn}
use Rattle.engine_samples.proofs.families.choose.Given as goal

abbrev pub invariant-loop-var : goal.invariant-loop-var
invariant-loop-var l = All (IsIn l.store) l.parts.items
