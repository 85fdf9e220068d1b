use Rattle.grammar_rules.proofs.Loops.{goes_on, smaller}
use Rattle.grammar_rules.proofs.reader.Reader.more_parts.Goals as goal

pub loop-parts-smaller : goal.loop-parts-smaller
loop-parts-smaller g c = smaller g.met.P.Parts.takes_tokens c.loop-parts-test.ensures c.in_ok-part.ensures

pub loop-parts-preserved : goal.loop-parts-preserved
loop-parts-preserved g c = rw c.in_ok-push.ensures.ok (goes_on g.met.P.Parts.takes_tokens c.loop-parts.invariant c.loop-parts-test.ensures c.in_ok-part.ensures)
