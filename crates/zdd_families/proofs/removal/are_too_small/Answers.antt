use Rattle.std.proofs.Common.{arith}
use Rattle.zdd_store.specs.inner.Store.{family_of}
use Rattle.zdd_families.proofs.Shorter.{without-larger}
use Rattle.zdd_families.proofs.removal.are_too_small.Goals as goal

pub returns-then-first-second : goal.returns-then-first-second
returns-then-first-second c = λ h.
    without-larger c.shape-first.result.greatest c.shape-second.result.least (family_of c.args.store.now c.args.a) (family_of c.args.store.now c.args.b) c.if-first-second.true (omega arith)
    c.shape-first.ensures.greatest c.shape-second.ensures.least (c.laws.ensures.rising c.args.b.position c.requires.b_in)
