use Rattle.std.proofs.Common.{◌≡◌, ◌≤◌, ◌++◌, List, ℕ, length}
use Rattle.aadl_lexer.specs.Tokens.{annex_end}
use Rattle.aadl_lexer.proofs.lexer.end_of.Given as goal

abbrev pub invariant-loop-at : goal.invariant-loop-at
invariant-loop-at l = (front back : List ℕ) → l.text ≡ front ++ (annex_end ++ back) → l.at ≤ length front
