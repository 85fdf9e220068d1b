use Rattle.std.proofs.Common.{ap, sym, ◌∙◌, ◌++◌, List, false, get_or}
use Rattle.propagation_links.specs.declared.link.PointAt.{PointAt}
use Rattle.fault_system.specs.declared.formula.Formula.{Formula}
use Rattle.fact_formulas.specs.Facts.{perhaps_at}
use Rattle.flattener.proofs.Places.{gives-more}
use Rattle.flattener.proofs.numbers.Numbers.linked.Goals as goal

pub loop-from-preserved : goal.loop-from-preserved
loop-from-preserved c =
    let first : PointAt = record { component = 0; point = 0; outward = false } in
    let f = perhaps_at c.args.self.now c.args.number in
    let items = c.linked_from-from-items.result.now in
    let i = c.loop-from.from-index in
    c.in_ok-add_at.ensures ∙ ap (λ (front : List Formula). front ++ f (get_or items i first)) c.loop-from.invariant ∙ sym (gives-more f items i first c.loop-from-test.true)
