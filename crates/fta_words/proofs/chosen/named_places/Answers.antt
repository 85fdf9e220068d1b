use Rattle.std.proofs.Common.{ℕ, List, Some, length, ap, subst}
use Rattle.std.specs.Prelude.{Contains}
use Rattle.fta_words.specs.inner.Naming.{AreInOrder}
use Rattle.fta_words.proofs.Places.{names_from, not_named, one_chosen}
use Rattle.fta_words.proofs.chosen.named_places.Goals as goal

pub returns-in_default-clause-only : goal.returns-in_default-clause-only
returns-in_default-clause-only c = λ chosen named.
    absurd (not_named c.args.reports.now c.args.text.now (rw c.in_default.is at c.in_ok-places.ensures) chosen named)

pub returns-clause-found : goal.returns-clause-found
returns-clause-found c =
    names_from c.args.reports.now c.args.text.now c.in-Some.places c.in_ok-in_order.field-0 (rw c.in-Some.is at c.in_ok-places.ensures)
    (subst (λ (l : List ℕ). AreInOrder (length c.args.reports.now) (Contains l) c.in_ok-in_order.field-0) c.items.ensures.items c.in_ok-in_order.ensures)

pub returns-clause-only : goal.returns-clause-only
returns-clause-only c = λ chosen named.
    let found = names_from c.args.reports.now c.args.text.now c.in-Some.places c.in_ok-in_order.field-0 (rw c.in-Some.is at c.in_ok-places.ensures)
    (subst (λ (l : List ℕ). AreInOrder (length c.args.reports.now) (Contains l) c.in_ok-in_order.field-0) c.items.ensures.items c.in_ok-in_order.ensures) in
    ap (λ l. Some l) (one_chosen c.args.reports.now (Some c.args.text.now) c.in_ok-in_order.field-0 chosen found named)
