use Rattle.aadl_parser.proofs.Depths.{Counted}
use Rattle.aadl_parser.proofs.nesting.too_nested_at.Given as goal

abbrev pub invariant-loop-k : goal.invariant-loop-k
invariant-loop-k l = Counted l.tokens l.k l.count
