use Rattle.std.proofs.Common.{◌≡◌, ◌≤◌, ◌++◌, ℕ, List, length}
use Rattle.fta_words.proofs.text.split_once.Given as goal

abbrev pub invariant-loop-at : goal.invariant-loop-at
invariant-loop-at l = (front back : List ℕ) → l.text ≡ front ++ (l.sign ++ back) → l.at ≤ length front
