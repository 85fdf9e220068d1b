use Rattle.std.proofs.Common.{◌&&◌, ◌||◌, position, sym, ap, ◌∙◌}
use Rattle.error_libraries.specs.Libraries.{is_place, is_type, is_type_named}
use Rattle.error_libraries.proofs.numbers.is_counted.Goals as goal

pub returns-else-each : goal.returns-else-each
returns-else-each c =
    let item = c.args.item.now in
    let is = ap (λ i. is_type i.kind) (sym c.item.ensures) ∙ sym c.if-is_type.ensures in
    let name = c.text.ensures.text ∙ ap (λ i. i.name) c.item-else-each.ensures in
    let place = c.copied.ensures ∙ c.get.ensures.value ∙ c.requires c.text.result ∙ ap (λ n. position (is_type_named n) c.args.items.now) name in
    c.is_place.ensures ∙ ap (λ p. is_place p c.args.place) place
    ∙ sym (ap (λ b. b && (c.args.each || is_place (position (is_type_named item.name) c.args.items.now) c.args.place)) is ∙ ap (λ b. b || is_place (position (is_type_named item.name) c.args.items.now) c.args.place) c.if-each.false)
