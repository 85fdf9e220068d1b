use Rattle.std.proofs.Common.{ap, sym, ◌∙◌}
use Rattle.flattener.specs.inner.Tables.{capped}
use Rattle.std.proofs.Common.{flat_map}
use Rattle.flattener.proofs.Places.{places-Or}
use Rattle.fact_formulas.specs.Facts.{linked_from, perhaps_at}
use Rattle.flattener.proofs.counts.linked_places.Goals as goal

pub returns : goal.returns
returns c = c.one_more.ensures _ c.from_places.ensures ∙ ap capped (sym (places-Or (flat_map (perhaps_at c.args.numbers.now c.args.number) (linked_from c.args.side c.args.numbers.now.assembly.links))))
