use Rattle.std.proofs.Common.{Some, ◌++◌, ◌∷◌, [], cond, length, sym, ap, ◌∙◌, ◌≡◌, subst}
use Rattle.std.specs.HashMap.{get}
use Rattle.package_index.specs.inner.Tables.{same_pair}
use Rattle.component_extension.specs.Chain.{same_id}
use Rattle.instantiator.specs.inner.Tables.{AreKinds, kind_of}
use Rattle.instantiator.specs.Whole.{kind_place}
use Rattle.instantiator.specs.inner.Whole.{Kinds}
use Rattle.component_extension.specs.Items.{classifier_refusals}
use Rattle.instantiator.proofs.KindLaws.{kinds-more}
use Rattle.instantiator.proofs.kinds.Kinds.add.Goals as goal

pub invariant_of-self-2 : goal.invariant_of-self-2
invariant_of-self-2 c =
    let inside = c.self.inside in
    let kind = c.args.kind in
    let view : c.args.self.now.packages ≡ inside.index.now = ap (λ (kinds : Kinds). kinds.packages) (sym c.self.view_is) in
    let table = get same_pair inside.numbers in
    let items = c.in_ok-push.ensures.items ∙ ap (λ front. front ++ kind ∷ []) c.reserve.ensures.items in
    subst (λ kinds. AreKinds inside.index.now kinds (get same_pair c.insert.new.self)) (sym items)
    (kinds-more inside.index.now inside.list.items table c.self.invariant kind (c.requires.effective ∙ ap (λ packages. kind_of packages kind.classifier) view)
    (ap (λ packages. classifier_refusals packages kind.classifier) (sym view) ∙ c.requires.accepted)
    (ap (λ (kinds : Kinds). kind_place kinds.ids kind.classifier) c.self.view_is ∙ c.requires.new) (get same_pair c.insert.new.self)
    (λ other. c.in_ok-insert.ensures.updates.0 (other.«package», other.decl) ∙ ap (λ n. cond (same_id kind.classifier other) (Some n) (table (other.«package», other.decl))) (ap length c.as_slice-number.ensures.value)))
