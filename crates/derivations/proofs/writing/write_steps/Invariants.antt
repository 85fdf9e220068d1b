use Rattle.std.proofs.Common.{◌≡◌, ◌++◌, drop}
use Rattle.derivations.specs.Text.{event_names, fact_names, lines_of}
use Rattle.derivations.proofs.writing.write_steps.Given as goal

abbrev pub invariant-loop-number : goal.invariant-loop-number
invariant-loop-number l =
    l.to.items ++ lines_of (fact_names l.system) (event_names l.system) l.number (drop l.number l.steps) ≡ l.fn.to.items ++ lines_of (fact_names l.system) (event_names l.system) 0 l.steps
