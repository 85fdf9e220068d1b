use Rattle.std.proofs.Common.{ℕ, ◌↔◌, map, ap, ◌∙◌, sym, subst}
use Rattle.fault_system.specs.Truth.{NumberSet}
use Rattle.fault_system.specs.Systems.{Holds, IsSystem, System}
use Rattle.galileo_writer.specs.Truth.{Tells}
use Rattle.galileo_writer.specs.TreeText.{names_of}
use Rattle.galileo_reader.specs.TreeSystems.{event_info, system_of}
use Rattle.galileo_reader.specs.inner.Truth.{tree_galileo}
use Rattle.galileo_reader.proofs.SystemLaws.{system-truth, tree-system}
use Rattle.galileo_reader.proofs.system.to_system.Goals as goal

pub new-requires : goal.new-requires
new-requires c =
    let events = c.in_ok-events.ensures ∙ ap (map event_info) c.items.ensures.items in
    subst IsSystem (λ i. record { facts = sym c.in_ok-facts.ensures i; events = sym events i }) (tree-system c.args.tree.now c.requires)

pub returns-clause-truth : goal.returns-clause-truth
returns-clause-truth c =
    let events = c.in_ok-events.ensures ∙ ap (map event_info) c.items.ensures.items in
    subst (λ (s : System). (es : NumberSet) → Tells (tree_galileo c.args.tree.now) (names_of s es) ↔ Holds s es c.target_of.result)
    (sym (c.new.ensures ∙ (λ i. record { facts = c.in_ok-facts.ensures i; events = events i })))
    (subst (λ (n : ℕ). (es : NumberSet) → Tells (tree_galileo c.args.tree.now) (names_of (system_of c.args.tree.now) es) ↔ Holds (system_of c.args.tree.now) es n) (sym c.target_of.ensures) (λ es. system-truth c.args.tree.now c.requires es))
