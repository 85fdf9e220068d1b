use Rattle.std.proofs.Common.{◌&&◌, map, take}
use Rattle.std.specs.List.{list_any}
use Rattle.fault_system.specs.Truth.{occurs}
use Rattle.derivations.specs.Derived.{is_before_round}
use Rattle.derivations.specs.inner.Gathered.{HasMore}
use Rattle.derivations.proofs.gathering.+facts.Given as goal

abbrev pub invariant-gather_all_facts-loop-part : goal.invariant-gather_all_facts-loop-part
invariant-gather_all_facts-loop-part l =
    HasMore (λ n. list_any (λ part. part) (map (occurs n) (take l.part-index l.parts)) && is_before_round l.rounds l.round n) l.fn.used.items l.used.items
