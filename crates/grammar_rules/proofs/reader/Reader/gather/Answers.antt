use Rattle.grammar_rules.proofs.Loops.{smaller}
use Rattle.grammar_rules.proofs.Gathers.{carries_on}
use Rattle.grammar_rules.proofs.reader.Reader.gather.Goals as goal

pub loop-self-smaller : goal.loop-self-smaller
loop-self-smaller g c = smaller (g.met.G.Gathered.takes_tokens _) c.loop-self-test.ensures c.in_ok-part.ensures

pub loop-self-preserved : goal.loop-self-preserved
loop-self-preserved g c = carries_on (g.met.G.Gathered.takes_tokens _) c.loop-self.invariant c.loop-self-test.ensures c.in_ok-part.ensures
