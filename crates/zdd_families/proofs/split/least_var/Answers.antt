use Rattle.std.proofs.Common.{sym}
use Rattle.zdd_store.specs.inner.Store.{family_of}
use Rattle.zdd_families.proofs.Splits.{least-node, least-terminal}
use Rattle.zdd_families.proofs.split.least_var.Goals as goal

pub returns-in-Some-clause-value : goal.returns-in-Some-clause-value
returns-in-Some-clause-value c = sym (least-node c.args.store.now c.in-Some.node (family_of c.args.store.now c.args.id) c.laws.ensures c.in-Some.ensures.fits c.in-Some.ensures.family)

pub returns-in-None-clause-value : goal.returns-in-None-clause-value
returns-in-None-clause-value c = sym (least-terminal c.args.store.now c.args.id.position c.laws.ensures (c.in-None.ensures.found c.requires))
