use Rattle.std.proofs.Common.{◌≡◌}
use Rattle.plain_values.specs.Numbered.{numbers_below}
use Rattle.fta_run.proofs.targets.all_facts.Given as goal

abbrev pub invariant-loop-fact : goal.invariant-loop-fact
invariant-loop-fact l = l.facts ≡ numbers_below l.fact
