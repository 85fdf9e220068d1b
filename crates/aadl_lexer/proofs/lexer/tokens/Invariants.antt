use Rattle.std.proofs.Common.{length, ◌-◌, []}
use Rattle.aadl_lexer.specs.Tokens.{InCore}
use Rattle.aadl_lexer.proofs.Cuts.{IsSoFar}
use Rattle.aadl_lexer.proofs.lexer.tokens.Given as goal

abbrev pub invariant-loop-at : goal.invariant-loop-at
invariant-loop-at l = IsSoFar InCore 0 l.bytes [] l.list l.at

abbrev pub decreases-loop-at : goal.decreases-loop-at
decreases-loop-at l = length l.bytes - l.at
