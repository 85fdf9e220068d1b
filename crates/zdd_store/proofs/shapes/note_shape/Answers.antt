use Rattle.std.proofs.Common.{◌≡◌, length, ap, sym, subst, ◌∙◌}
use Rattle.std.specs.Prelude.{is_ok}
use Rattle.zdd_store.specs.inner.Family.{branch}
use Rattle.zdd_store.specs.inner.Store.{family_of}
use Rattle.zdd_store.specs.inner.Answers.{HasShape}
use Rattle.zdd_store.specs.inner.Nodes.{AreShapes, HasShapeAt}
use Rattle.zdd_store.proofs.Shaped.{shapes-pushed}
use Rattle.zdd_store.proofs.shapes.note_shape.Goals as goal

pub returns : goal.returns
returns c = λ store var sound inside made right.
    let at : c.args.place ≡ length c.args.table.now.items = c.if-place-as_slice.false ∙ ap length c.as_slice.ensures.value in
    let low : HasShape (family_of store c.args.lo) c.shape_of-low.result = c.shape_of-low.ensures store sound (subst (AreShapes store) (sym c.as_slice-2.ensures.value) right) in
    let high : HasShape (family_of store c.args.hi) c.shape_of-high.result = c.shape_of-high.ensures store sound (subst (AreShapes store) (sym c.as_slice-3.ensures.value) right) in
    let branch_sizes : HasShape (branch var (family_of store c.args.lo) (family_of store c.args.hi)) c.of_branch.result = c.of_branch.ensures var (family_of store c.args.lo) (family_of store c.args.hi) low high in
    subst (AreShapes store) (sym c.push-noted.ensures.items)
    (shapes-pushed (is_ok c.push-noted.result) store c.args.table.now.items c.of_branch.result right
    (subst (λ p. HasShapeAt store p c.of_branch.result) at
    (record { inside = inside; of_node = subst (λ f. HasShape f c.of_branch.result) (sym made) branch_sizes })))
