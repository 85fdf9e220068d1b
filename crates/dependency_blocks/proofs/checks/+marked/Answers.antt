use Rattle.dependency_blocks.proofs.Parts.{any_at}
use Rattle.fault_system.specs.Truth.{occurs}
use Rattle.dependency_blocks.proofs.checks.+marked.Goals as goal

pub parts_have_marked-returns-then-has_marked : goal.parts_have_marked-returns-then-has_marked
parts_have_marked-returns-then-has_marked t c =
    λ _.
    let found = c.has_marked.ensures c.if-has_marked.true in
    (found.0, any_at (occurs found.0) c.args.parts.now c.loop-part.part-index c.part-item.result c.loop-part-test.true c.part-item.is found.1, found.2, found.3)
