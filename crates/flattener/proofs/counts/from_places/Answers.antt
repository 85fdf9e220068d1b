use Rattle.std.proofs.Common.{ap, sym, ◌∙◌, false, flat_map, get_or, take}
use Rattle.propagation_links.specs.declared.link.PointAt.{PointAt}
use Rattle.fact_formulas.specs.Facts.{perhaps_at}
use Rattle.flattener.specs.inner.Tables.{capped, places_of}
use Rattle.flattener.proofs.Places.{gives-more, places-append}
use Rattle.flattener.proofs.counts.from_places.Goals as goal

pub loop-from-preserved : goal.loop-from-preserved
loop-from-preserved c =
    let first : PointAt = record { component = 0; point = 0; outward = false } in
    let f = perhaps_at c.args.numbers.now c.args.number in
    let items = c.linked_from-from-items.result.now in
    let i = c.loop-from.from-index in
    c.plus-count.ensures (places_of (flat_map f (take i items))) (places_of (f (get_or items i first))) c.loop-from.invariant c.places_at.ensures
    ∙ ap capped (sym (ap places_of (gives-more f items i first c.loop-from-test.true) ∙ places-append (flat_map f (take i items)) (f (get_or items i first))))
