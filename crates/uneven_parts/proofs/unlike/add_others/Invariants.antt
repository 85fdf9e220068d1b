use Rattle.std.proofs.Common.{◌≡◌, ◌++◌, filter, nat_eq, take}
use Rattle.std.specs.Prelude.{not}
use Rattle.std.specs.List.{list_any}
use Rattle.uneven_parts.specs.Unlike.{unlike_with}
use Rattle.uneven_parts.proofs.unlike.add_others.Given as goal

abbrev pub invariant-loop-state : goal.invariant-loop-state
invariant-loop-state l = l.found ≡ l.fn.found ++ unlike_with l.fact (filter (λ number. not (list_any (λ place. nat_eq place number) l.places)) (take l.state-index l.members))
