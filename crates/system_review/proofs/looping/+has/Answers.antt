use Rattle.std.proofs.Common.{sym, ◌∙◌}
use Rattle.fault_system.specs.Truth.{occurs}
use Rattle.dependency_blocks.proofs.Parts.{any_at}
use Rattle.system_review.proofs.looping.+has.Goals as goal

pub has_fact_in-returns-then-has_fact : goal.has_fact_in-returns-then-has_fact
has_fact_in-returns-then-has_fact t c =
    sym (any_at (occurs c.args.number) c.args.parts.now c.loop-part.part-index c.part-item.result c.loop-part-test.true c.part-item.is (sym c.has_fact.ensures ∙ c.if-has_fact.true))
