use Rattle.std.proofs.Common.{ℕ, ◌<◌, ◌↔◌, ◌∙◌, length, sym, subst}
use Rattle.fault_system.specs.Truth.{NumberSet}
use Rattle.fault_system.specs.Systems.{System, IsSystem, Holds}
use Rattle.round_gates.specs.inner.Trees.{TreeHolds}
use Rattle.path_sets.specs.inner.Duals.{IsWithoutFeedback}
use Rattle.path_sets.specs.inner.GateSystems.{GateHolds}
use Rattle.path_sets.proofs.GateTruth.{gates-free, gates-hold, gates-system, top-inside}
use Rattle.path_sets.proofs.Made.{gates-made}
use Rattle.path_sets.proofs.gate_systems.gate_system.Goals as goal

pub new-requires : goal.new-requires
new-requires c =
    let system = c.args.system.now in
    let tree = c.args.tree.now in
    let made = gates-made system tree c.in_ok-gates.gates _ c.in_ok-events.events _ c.in_ok-gates.ensures c.items.ensures.items c.in_ok-events.ensures c.event_infos.ensures.events in
    subst IsSystem (sym made) (gates-system system tree c.facts-facts.ensures.system c.requires.made (c.gates_differ.ensures system tree c.facts-facts.ensures.system c.requires.names c.requires.made))

pub returns-clause-top : goal.returns-clause-top
returns-clause-top c =
    let system = c.args.system.now in
    let tree = c.args.tree.now in
    let made = gates-made system tree c.in_ok-gates.gates _ c.in_ok-events.events _ c.in_ok-gates.ensures c.items.ensures.items c.in_ok-events.ensures c.event_infos.ensures.events in
    subst (λ (gates : System). tree.top < length gates.facts) (sym (c.new.ensures ∙ made)) (top-inside system tree c.requires.made)

pub returns-clause-free : goal.returns-clause-free
returns-clause-free c =
    let system = c.args.system.now in
    let tree = c.args.tree.now in
    let made = gates-made system tree c.in_ok-gates.gates _ c.in_ok-events.events _ c.in_ok-gates.ensures c.items.ensures.items c.in_ok-events.ensures c.event_infos.ensures.events in
    subst IsWithoutFeedback (sym (c.new.ensures ∙ made)) (gates-free system tree c.requires.made)

pub returns-clause-truth : goal.returns-clause-truth
returns-clause-truth c =
    let system = c.args.system.now in
    let tree = c.args.tree.now in
    let made = gates-made system tree c.in_ok-gates.gates _ c.in_ok-events.events _ c.in_ok-gates.ensures c.items.ensures.items c.in_ok-events.ensures c.event_infos.ensures.events in
    subst (λ (gates : System). (events : NumberSet) (n : ℕ) → Holds gates events n ↔ GateHolds tree events n) (sym (c.new.ensures ∙ made)) (gates-hold system tree)

pub returns-clause-tree : goal.returns-clause-tree
returns-clause-tree c =
    let system = c.args.system.now in
    let tree = c.args.tree.now in
    let made = gates-made system tree c.in_ok-gates.gates _ c.in_ok-events.events _ c.in_ok-gates.ensures c.items.ensures.items c.in_ok-events.ensures c.event_infos.ensures.events in
    subst (λ (gates : System). (events : NumberSet) → Holds gates events tree.top ↔ TreeHolds tree events) (sym (c.new.ensures ∙ made)) (λ events. gates-hold system tree events tree.top)
