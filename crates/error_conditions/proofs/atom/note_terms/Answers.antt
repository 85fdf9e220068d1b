use Rattle.noted_refusals.proofs.Loops.{noting-more}
use Rattle.error_conditions.specs.Conditions.{no_error_at}
use Rattle.error_conditions.proofs.atom.note_terms.Goals as goal

pub loop-term-preserved : goal.loop-term-preserved
loop-term-preserved c =
    noting-more c.args.terms.now c.loop-term.term-index c.term-item.result c.loop-term-test.true c.term-item.is (no_error_at c.args.profile) c.loop-term.refusals _ _ c.note_term.ensures c.loop-term.invariant
