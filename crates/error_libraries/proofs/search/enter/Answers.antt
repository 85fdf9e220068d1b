use Rattle.std.proofs.Common.{sym, ap, ◌∙◌}
use Rattle.plain_values.specs.Order.{nearer}
use Rattle.error_libraries.specs.inner.Course.{entered, left}
use Rattle.error_libraries.proofs.Ends.{ends}
use Rattle.error_libraries.proofs.SearchLaws.{goes-on, ends-there}
use Rattle.error_libraries.proofs.search.enter.Goals as goal

pub returns-in-Nowhere : goal.returns-in-Nowhere
returns-in-Nowhere c =
    let libraries = c.args.libraries.now in
    let name = c.args.name.now in
    ap (left libraries name) c.in_ok-enter.ensures
    ∙ (λ i. left libraries name (entered c.args.course c.args.library (c.extended-rest.ensures i) (c.unknown_in-unknown.ensures i)))
    ∙ goes-on libraries name c.args.course c.args.library c.requires.few c.requires.new c.requires.apart (sym c.own_item-own.ensures ∙ c.in-Nowhere.is)

pub returns : goal.returns
returns c =
    let whole = ends-there c.args.libraries.now c.args.name.now c.args.course c.args.library c.requires.few c.requires.new c.requires.apart c.own_item-own.result c.own_item-own.ensures (ends c.own_item-own.result c.in_default.not-Nowhere) in (
      ap (λ search. search.found) whole ∙ sym c.own_item-own.ensures,
      ap (λ search. search.first) whole ∙ sym (c.note_some.ensures ∙ (λ i. nearer (c.first-first.ensures i) (c.unknown_in-unknown.ensures i))),
    )
