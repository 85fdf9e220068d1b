use Rattle.std.proofs.Common.{◌≡◌, ◌≤◌, ◌-◌, ◌++◌, length, drop}
use Rattle.fault_system.specs.Truth.{member}
use Rattle.derivations.specs.Text.{HaveLines, lines_of}
use Rattle.derivations.proofs.text.read_lines.Given as goal

abbrev pub invariant-loop-at : goal.invariant-loop-at
invariant-loop-at l = record {
  within : l.at ≤ length l.bytes;
  lines : HaveLines l.vocabulary.facts.now l.vocabulary.names.now (member l.vocabulary.events.now) 0 l.steps;
  text : l.bytes ≡ lines_of l.vocabulary.facts.now l.vocabulary.names.now 0 l.steps ++ drop l.at l.bytes;
}

abbrev pub decreases-loop-at : goal.decreases-loop-at
decreases-loop-at l = length l.bytes - l.at
