use Rattle.dependency_blocks.proofs.Parts.{any_at}
use Rattle.fault_system.specs.Truth.{occurs}
use Rattle.target_orders.proofs.settling.+large.Goals as goal

pub have_large-returns-then-has_large : goal.have_large-returns-then-has_large
have_large-returns-then-has_large t c =
    λ _.
    let found = c.has_large.ensures c.if-has_large.true in
    (found.0, any_at (occurs found.0) c.args.parts.now c.loop-part.part-index c.part-item.result c.loop-part-test.true c.part-item.is found.1, found.2)
