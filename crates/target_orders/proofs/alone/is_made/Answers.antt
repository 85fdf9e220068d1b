use Rattle.std.proofs.Common.{ℕ, List, ◌∙◌, sym, subst}
use Rattle.fault_system.specs.Truth.{Has, member}
use Rattle.fault_system.specs.Systems.{Holds}
use Rattle.target_orders.specs.inner.Alone.{held_set}
use Rattle.target_orders.proofs.AloneLaws.{held-holds}
use Rattle.target_orders.proofs.MadeLaws.{made-holds}
use Rattle.target_orders.proofs.alone.is_made.Goals as goal

pub returns-in-Some : goal.returns-in-Some
returns-in-Some c there =
    let system = c.args.system.now in
    let events = member c.args.walk.now.events in
    let always = c.args.always.now in
    made-holds system events (held_set (member always) c.as_slice-stamps.result.now c.args.stamp) c.args.fact c.in-Some.info.now (sym c.in-Some.ensures) (sym c.is_true.ensures ∙ there)
    (subst (λ (stamps : List ℕ). (m : ℕ) → Has (held_set (member always) stamps c.args.stamp) m → Holds system events m) (sym c.as_slice-stamps.ensures.value)
    (held-holds system c.args.stamp c.args.walk.now c.requires.walk always c.requires.always))
