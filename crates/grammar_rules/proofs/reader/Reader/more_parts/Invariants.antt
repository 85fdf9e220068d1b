use Rattle.std.proofs.Common.{length}
use Rattle.grammar_rules.proofs.Loops.{Collects}
use Rattle.grammar_rules.proofs.reader.Reader.more_parts.Given as goal

abbrev pub invariant-loop-parts : goal.invariant-loop-parts
invariant-loop-parts g l = Collects g.P.Parts.tests g.P.Parts.rule l.initial.parts l.parts l.initial.self l.self

abbrev pub decreases-loop-parts : goal.decreases-loop-parts
decreases-loop-parts g l = length l.self.tokens
