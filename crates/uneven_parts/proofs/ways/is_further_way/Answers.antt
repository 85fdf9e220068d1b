use Rattle.std.proofs.Common.{ap, false, sym, true, ◌&&◌, ◌≡◌, ◌∙◌}
use Rattle.std.specs.Prelude.{not, take}
use Rattle.std.specs.HashSet.{contains}
use Rattle.std.specs.List.{list_any}
use Rattle.propagation_links.specs.declared.link.Link.{Link}
use Rattle.uneven_parts.specs.TwoWays.{same_link, same_way}
use Rattle.uneven_parts.specs.inner.Tables.{link_key, same_link_key, same_way_key, way_key}
use Rattle.uneven_parts.proofs.ways.is_further_way.Goals as goal

pub returns-then-contains : goal.returns-then-contains
returns-then-contains c =
    let before = take c.args.place c.args.links.now in
    let way : list_any (λ (other : Link). same_way other c.args.link) before ≡ true =
    sym (c.requires.ways (way_key c.args.link)) ∙ ap (contains same_way_key c.args.ways.now) (sym c.way_key.ensures) ∙ sym c.contains.ensures ∙ c.if-contains.true in
    let known : list_any (λ (other : Link). same_link other c.args.link) before ≡ c.contains-then-contains.result =
    sym (c.requires.known (link_key c.args.link)) ∙ ap (contains same_link_key c.args.known.now) (sym c.link_key.ensures) ∙ sym c.contains-then-contains.ensures in
    λ i. sym way i && not (sym known i)

pub returns-else-contains : goal.returns-else-contains
returns-else-contains c =
    let before = take c.args.place c.args.links.now in
    let way : list_any (λ (other : Link). same_way other c.args.link) before ≡ false =
    sym (c.requires.ways (way_key c.args.link)) ∙ ap (contains same_way_key c.args.ways.now) (sym c.way_key.ensures) ∙ sym c.contains.ensures ∙ c.if-contains.false in
    c.if-contains.false ∙ ap (λ b. b && not (list_any (λ (other : Link). same_link other c.args.link) before)) (sym way)
