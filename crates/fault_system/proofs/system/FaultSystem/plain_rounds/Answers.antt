use Rattle.std.proofs.Common.{◌≡◌, ℕ, List, length, sym, subst, arith}
use Rattle.fault_system.specs.Truth.{member}
use Rattle.fault_system.specs.Rounds.{AreRounds}
use Rattle.fault_system.specs.inner.Rounds.{IsTableTo}
use Rattle.fault_system.proofs.RoundLaws.{table-made, table-rounds}
use Rattle.fault_system.proofs.NextRound.{table-none}
use Rattle.fault_system.proofs.system.FaultSystem.plain_rounds.Goals as goal

pub loop-round-init : goal.loop-round-init
loop-round-init c = subst (λ (times : List ℕ). IsTableTo c.args.self.now (member c.args.events.now) times 0) (sym c.in_ok-times.ensures)
    (table-none c.args.self.now (member c.args.events.now) c.facts.result c.facts.ensures.count)

pub returns : goal.returns
returns c =
    let system = c.args.self.now in
    let events = member c.args.events.now in
    let all : c.loop-round.round ≡ length system.facts = omega (arith, c.loop-round-test.false, c.loop-round.auto.round-end, c.facts-round-end.ensures.count) in
    let made = subst (IsTableTo system events c.loop-round.times.items) all c.loop-round.invariant in
    subst (AreRounds system events) (sym c.in_ok-of.ensures.ok) (table-rounds system events c.loop-round.times.items (table-made system events c.loop-round.times.items made))
