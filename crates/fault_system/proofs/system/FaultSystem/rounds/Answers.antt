use Rattle.std.proofs.Common.{subst}
use Rattle.fault_system.specs.Truth.{member}
use Rattle.fault_system.specs.inner.Rounds.{IsTable}
use Rattle.fault_system.proofs.RoundLaws.{table-rounds}
use Rattle.fault_system.proofs.system.FaultSystem.rounds.Goals as goal

pub returns-then-is_table : goal.returns-then-is_table
returns-then-is_table c =
    table-rounds c.args.self.now (member c.args.events.now) c.in_ok-proposed.proposed
    (subst (IsTable c.args.self.now (member c.args.events.now)) c.items.ensures.items (c.is_table.ensures.0 c.if-is_table.true))
