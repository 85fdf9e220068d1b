use Rattle.std.proofs.Common.{arith}
use Rattle.zdd_store.specs.inner.Store.{family_of}
use Rattle.zdd_families.proofs.Shorter.{both-short, both-short-second}
use Rattle.zdd_families.proofs.product.are_too_large.Goals as goal

pub returns-then-most-first : goal.returns-then-most-first
returns-then-most-first c = λ h.
    both-short c.args.most c.shape-first.result.least (family_of c.args.store.now c.args.a) (family_of c.args.store.now c.args.b) c.if-most-first.true (omega arith)
    c.shape-first.ensures.least (c.laws.ensures.rising c.args.a.position c.requires.a_in)

pub returns-then-most-second : goal.returns-then-most-second
returns-then-most-second c = λ h.
    both-short-second c.args.most c.shape-second.result.least (family_of c.args.store.now c.args.a) (family_of c.args.store.now c.args.b) c.if-most-second.true (omega arith)
    c.shape-second.ensures.least (c.laws.ensures.rising c.args.b.position c.requires.b_in)
