use Rattle.std.proofs.Common.{◌≡◌, ◌+◌, ◌≤◌, drop}
use Rattle.round_gates.specs.Staged.{all_places, most_places}
use Rattle.round_gates.proofs.limits.are_few.Given as goal

abbrev pub invariant-loop-fact : goal.invariant-loop-fact
invariant-loop-fact l = (l.left ≤ most_places) × (l.left + all_places l.system l.blocks l.facts ≡ most_places + all_places l.system l.blocks (drop l.fact-index l.facts))
