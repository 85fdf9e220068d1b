use Rattle.std.proofs.Common.{◌≡◌, ◌-◌, ◌+◌, true, sym, subst, arith}
use Rattle.std.proofs.lemmas.Option.{slice_get_within}
use Rattle.zdd_store.specs.inner.Answers.{IsWide}
use Rattle.zdd_store.specs.inner.Store.{family_at}
use Rattle.zdd_store.specs.inner.Nodes.{HasShapeAt}
use Rattle.zdd_store.proofs.Shaped.{shapes-set}
use Rattle.zdd_store.proofs.shapes.note_wide.Goals as goal

pub bounds-table-place : goal.bounds-table-place
bounds-table-place c = slice_get_within c.args.table.now (c.args.id.position - 2) c.in-Some.shape (sym c.in-Some.ensures)

pub returns : goal.returns
returns c = λ store wide right.
    let old : HasShapeAt store (c.args.id.position - 2) c.in-Some.shape = right (c.args.id.position - 2) c.in-Some.shape (sym c.in-Some.ensures) in
    let same : c.args.id.position ≡ c.args.id.position - 2 + 2 = omega arith in
    shapes-set store c.args.table.now (c.args.id.position - 2) (record { least = c.in-Some.shape.least; greatest = c.in-Some.shape.greatest; apart = c.in-Some.shape.apart; wide = true })
    (slice_get_within c.args.table.now (c.args.id.position - 2) c.in-Some.shape (sym c.in-Some.ensures)) right
    (record { inside = old.inside; of_node = record { least = old.of_node.least; greatest = old.of_node.greatest; apart = old.of_node.apart; wide = λ h. subst (λ p. IsWide (family_at store p)) same wide } })
