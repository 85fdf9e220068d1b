use Rattle.std.proofs.Common.{ℕ, List, subst}
use Rattle.fault_system.specs.Truth.{NumberSet, Has, member}
use Rattle.fault_system.specs.Rounds.{no_event, time_of}
use Rattle.fault_system.specs.inner.Rounds.{ever}
use Rattle.fault_system.proofs.Elements.{contains_In}
use Rattle.fault_system.proofs.NumberSets.{contained-in_set}
use Rattle.fault_system.proofs.RoundLaws.{ever-holds, table-rounds}
use Rattle.fmea_rows.proofs.FeltLaws.{group-rowless}
use Rattle.fmea_rows.proofs.passing.are_rowless.Goals as goal

pub returns : goal.returns
returns c = λ yes.
    let system = c.args.asked.now.system.now in
    let effects = c.args.asked.now.effects.now in
    let group : NumberSet = member c.args.group.now in
    let base : List ℕ = c.args.known.now.base in
    group-rowless system effects group (λ n i holds.
    (ever-holds system no_event base (table-rounds system no_event base c.requires) n).0
    (subst (λ (ts : List ℕ). Has (ever (time_of ts)) n) c.items.ensures.items
    (c.are_timed.ensures yes n (contained-in_set effects n (contains_In n effects i)) ((c.in_ok-facts.ensures.exact n).1 holds))))
