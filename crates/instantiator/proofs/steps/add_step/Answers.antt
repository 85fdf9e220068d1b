use Rattle.std.proofs.Common.{◌∷◌, [], Bor, List, ℕ, map, ap, ◌∙◌, sym}
use Rattle.std.proofs.lemmas.List.{map-append}
use Rattle.std.specs.HashMap.{get}
use Rattle.instantiator.specs.declared.path.Component.{Component}
use Rattle.instantiator.specs.Components.{component_below}
use Rattle.instantiator.specs.inner.Tables.{same_step}
use Rattle.instantiator.proofs.StepMore.{map-empty, parent-is, root-more, step-added, tree-before}
use Rattle.instantiator.proofs.steps.add_step.Goals as goal

pub returns-in_default : goal.returns-in_default
returns-in_default c =
    let path = ap (λ (component : Component). component.path) c.index-components-number.is ∙ sym c.names-names.ensures ∙ map-empty (λ (name : Bor (List ℕ)). name.now) c.names-names.result.now c.in_default.ensures.cases in
    root-more c.args.components.now c.requires.differ c.requires.behind c.args.number c.index-components-number.result c.requires.within c.index-components-number.is (get same_step c.args.table.now) c.requires.known path

pub new-requires : goal.new-requires
new-requires c =
    tree-before c.args.components.now c.requires.differ c.requires.behind c.args.number c.index-components-number.result c.requires.within c.index-components-number.is (get same_step c.args.table.now) c.requires.known

pub returns-in_ok-insert : goal.returns-in_ok-insert
returns-in_ok-insert c =
    let name = λ (name : Bor (List ℕ)). name.now in
    let path = map name c.in-Some.front.now in
    let path_is = ap (λ (component : Component). component.path) c.index-components-number.is ∙ sym c.names-names.ensures ∙ ap (map name) c.in-Some.ensures.cases.0 ∙ map-append name c.in-Some.front.now (c.in-Some.last.now ∷ []) in
    let found = ap (λ components. component_below components 0 path) (sym c.new.ensures) ∙ sym c.below.ensures ∙ c.in-Some-below.is in
    step-added c.args.components.now c.requires.differ c.requires.behind c.args.number c.index-components-number.result c.requires.within c.index-components-number.is (get same_step c.args.table.now) c.requires.known path
    c.in-Some.last.now.now path_is c.in-Some-below.parent c.text.result c.text.ensures.text found (get same_step c.insert.new.self) c.in_ok-insert.ensures.updates.0

pub returns-in_default-below : goal.returns-in_default-below
returns-in_default-below c =
    let name = λ (name : Bor (List ℕ)). name.now in
    let path = map name c.in-Some.front.now in
    let path_is = ap (λ (component : Component). component.path) c.index-components-number.is ∙ sym c.names-names.ensures ∙ ap (map name) c.in-Some.ensures.cases.0 ∙ map-append name c.in-Some.front.now (c.in-Some.last.now ∷ []) in
    let none = ap (λ components. component_below components 0 path) (sym c.new.ensures) ∙ sym c.below.ensures ∙ c.in_default-below.is in
    absurd
    (parent-is c.args.components.now c.requires.differ c.requires.behind c.args.number c.index-components-number.result c.requires.within c.index-components-number.is (get same_step c.args.table.now) c.requires.known path
    c.in-Some.last.now.now path_is none)
