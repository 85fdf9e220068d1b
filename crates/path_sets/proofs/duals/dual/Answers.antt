use Rattle.std.proofs.Common.{ℕ, length, ◌<◌, ◌↔◌, ◌∙◌, sym, subst}
use Rattle.fault_system.specs.Truth.{NumberSet}
use Rattle.fault_system.specs.Systems.{System, IsSystem, Holds}
use Rattle.path_sets.specs.inner.Duals.{outside}
use Rattle.path_sets.proofs.DualTruth.{dual-holds, dual-system}
use Rattle.path_sets.proofs.Made.{dual-made}
use Rattle.path_sets.proofs.duals.dual.Goals as goal

pub new-requires : goal.new-requires
new-requires c =
    let system = c.args.system.now in
    let made = dual-made system c.in_ok-duals.duals _ c.in_ok-events.events _ c.in_ok-duals.ensures c.fact_infos.ensures.facts c.in_ok-events.ensures c.event_infos.ensures.events in
    subst IsSystem (sym made) (dual-system system c.facts-facts.ensures.system)

pub returns-clause-opposite : goal.returns-clause-opposite
returns-clause-opposite c =
    let system = c.args.system.now in
    let made = dual-made system c.in_ok-duals.duals _ c.in_ok-events.events _ c.in_ok-duals.ensures c.fact_infos.ensures.facts c.in_ok-events.ensures c.event_infos.ensures.events in
    subst (λ (dual : System). (events : NumberSet) (n : ℕ) → n < length system.facts → Holds dual events n ↔ (Holds system (outside events) n → ⊥))
    (sym (c.new.ensures ∙ made)) (λ events n inside. dual-holds system c.facts-facts.ensures.system c.requires events n inside)
