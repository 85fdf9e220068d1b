use Rattle.std.proofs.Common.{sym, ap, ◌∙◌}
use Rattle.plain_values.specs.Order.{nearer}
use Rattle.error_libraries.proofs.Ends.{ends}
use Rattle.error_libraries.proofs.SearchLaws.{ends-at-once}
use Rattle.error_libraries.proofs.search.search.Goals as goal

pub returns : goal.returns
returns c =
    let whole = ends-at-once c.args.libraries.now c.args.name.now c.args.number c.own_item-own.result c.own_item-own.ensures (ends c.own_item-own.result c.in_default.not-Nowhere) in
    record {
      known = c.requires;
      found = c.own_item-own.ensures ∙ sym (ap (λ search. search.found) whole);
      first = c.note_some-2.ensures ∙ (λ i. nearer c.args.first.now (c.unknown_in.ensures i)) ∙ sym (ap (λ search. nearer c.args.first.now search.first) whole);
    }
