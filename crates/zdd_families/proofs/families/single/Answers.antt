use Rattle.std.proofs.Common.{◌≡◌, [], ◌∷◌, Result, Ok, Err, ◌∙◌, arith}
use Rattle.std.specs.Prelude.{IfOk}
use Rattle.std.specs.declared.alloc.AllocError.{AllocError}
use Rattle.zdd_store.specs.inner.Family.{branch}
use Rattle.zdd_store.specs.inner.Store.{Families, family_at, family_of, IsSound}
use Rattle.zdd_store.specs.declared.id.Id.{Id}
use Rattle.zdd_store.proofs.Terminals.{least-empty, least-unit}
use Rattle.zdd_families.proofs.Splits.{single-family}
use Rattle.zdd_families.proofs.families.single.Goals as goal

pub make-requires-clause-lo_greater : goal.make-requires-clause-lo_greater
make-requires-clause-lo_greater c = omega (arith, least-empty c.args.store.now c.laws.ensures, c.ranges.var.fits)

pub make-requires-clause-hi_greater : goal.make-requires-clause-hi_greater
make-requires-clause-hi_greater c = omega (arith, least-unit c.args.store.now c.laws.ensures, c.ranges.var.fits)

single_made : (before after : Families) (var : _) (result : Result Id AllocError) → IsSound before → IfOk result (λ id. family_of after id ≡ branch var (family_at before 0) (family_at before 1)) → IfOk result (λ id. family_of after id ≡ (var ∷ []) ∷ [])
single_made before after var (Ok id) sound e = e ∙ single-family before var sound
single_made before after var (Err e) sound h = tt

pub returns-clause-family : goal.returns-clause-family
returns-clause-family c = single_made c.args.store.now c.make.new.self c.args.var c.make.result c.laws.ensures c.make.ensures.family
