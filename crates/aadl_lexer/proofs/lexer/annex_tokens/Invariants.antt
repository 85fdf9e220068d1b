use Rattle.std.proofs.Common.{length, ◌-◌}
use Rattle.aadl_lexer.specs.Tokens.{InAnnex}
use Rattle.aadl_lexer.proofs.Cuts.{IsSoFar}
use Rattle.aadl_lexer.proofs.lexer.annex_tokens.Given as goal

abbrev pub invariant-loop-done : goal.invariant-loop-done
invariant-loop-done l = IsSoFar InAnnex l.at l.text l.fn.list l.list l.done

abbrev pub decreases-loop-done : goal.decreases-loop-done
decreases-loop-done l = length l.text - l.done
