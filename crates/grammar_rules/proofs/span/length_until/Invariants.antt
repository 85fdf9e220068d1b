use Rattle.std.specs.Option.{option_map}
use Rattle.aadl_syntax.specs.inner.Token.{shown}
use Rattle.grammar_rules.proofs.Runs.{Passed}
use Rattle.grammar_rules.proofs.span.length_until.Given as goal

abbrev pub invariant-loop-k : goal.invariant-loop-k
invariant-loop-k g l = Passed l.inside g.S.Span.stops l.tokens l.k l.opened l.closed (option_map shown l.before)
