use Rattle.std.proofs.Common.{◌≡◌, ◌+◌, [], ◌∷◌, None, Some, ap, ◌∙◌, sym, subst, drop, map}
use Rattle.std.proofs.lemmas.List.{drop_all}
use Rattle.instantiator.specs.Components.{component_below}
use Rattle.instantiator.specs.inner.Whole.{ParentsComeFirst, PathsDiffer}
use Rattle.instantiator.proofs.Lists.{rest-less}
use Rattle.instantiator.proofs.StepLaws.{stay, step-none, step-some}
use Rattle.instantiator.proofs.steps.Steps.below.Goals as goal

pub returns-in_default : goal.returns-in_default
returns-in_default g c =
    let components = c.args.self.now in
    let differ = subst PathsDiffer c.self.view_is c.self.invariant.differ in
    let behind = subst ParentsComeFirst c.self.view_is c.self.invariant.behind in
    let name = g.N.Named.name c.name-item.result in
    let rest = map g.N.Named.name (drop (c.loop-name.name-index + 1) c.args.names.now) in
    let left = ap (map g.N.Named.name) (rest-less c.args.names.now c.loop-name.name-index c.name-item.result c.loop-name-test.true c.name-item.is) in
    let none : component_below components c.loop-name.number (name ∷ []) ≡ None = ap (λ n. component_below components c.loop-name.number (n ∷ [])) (sym c.text.ensures) ∙ sym c.step.ensures ∙ c.in_default.is in
    sym (sym c.loop-name.invariant.left ∙ ap (component_below components c.loop-name.number) left ∙ step-none components differ behind c.loop-name.number name rest none)

pub loop-name-preserved : goal.loop-name-preserved
loop-name-preserved g c =
    let components = c.args.self.now in
    let differ = subst PathsDiffer c.self.view_is c.self.invariant.differ in
    let behind = subst ParentsComeFirst c.self.view_is c.self.invariant.behind in
    let name = g.N.Named.name c.name-item.result in
    let rest = map g.N.Named.name (drop (c.loop-name.name-index + 1) c.args.names.now) in
    let left = ap (map g.N.Named.name) (rest-less c.args.names.now c.loop-name.name-index c.name-item.result c.loop-name-test.true c.name-item.is) in
    let some : component_below components c.loop-name.number (name ∷ []) ≡ Some c.in-Some.next = ap (λ n. component_below components c.loop-name.number (n ∷ [])) (sym c.text.ensures) ∙ sym c.step.ensures ∙ c.in-Some.is in
    let next = step-some components differ behind c.loop-name.number name rest c.in-Some.next some in
    record { left = sym next.0 ∙ ap (component_below components c.loop-name.number) (sym left) ∙ c.loop-name.invariant.left; there = next.1 }

pub returns : goal.returns
returns g c =
    let components = c.args.self.now in
    let differ = subst PathsDiffer c.self.view_is c.self.invariant.differ in
    let behind = subst ParentsComeFirst c.self.view_is c.self.invariant.behind in
    let none = ap (map g.N.Named.name) (drop_all c.loop-name.name-index c.args.names.now c.loop-name-test.false) in
    sym (stay components differ behind c.loop-name.number c.loop-name.invariant.there) ∙ ap (component_below components c.loop-name.number) (sym none) ∙ c.loop-name.invariant.left
