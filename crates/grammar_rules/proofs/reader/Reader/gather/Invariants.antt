use Rattle.std.proofs.Common.{length}
use Rattle.grammar_rules.proofs.Gathers.{Carries}
use Rattle.grammar_rules.proofs.reader.Reader.gather.Given as goal

abbrev pub invariant-loop-self : goal.invariant-loop-self
invariant-loop-self g l = Carries g.G.Gathered.tests g.G.Gathered.rule l.initial.whole l.whole l.initial.self l.self

abbrev pub decreases-loop-self : goal.decreases-loop-self
decreases-loop-self g l = length l.self.tokens
