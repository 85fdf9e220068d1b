use Rattle.std.proofs.Common.{◌≡◌, ◌+◌, ◌++◌, drop}
use Rattle.requirement_lines.specs.Lines.{tap_lines}
use Rattle.requirement_lines.proofs.tap.push_tests.Given as goal

abbrev pub invariant-loop-place : goal.invariant-loop-place
invariant-loop-place l = l.text.items ++ tap_lines l.system (l.place + 1) (drop l.place l.judgements) ≡ l.fn.text.items ++ tap_lines l.system 1 l.judgements
