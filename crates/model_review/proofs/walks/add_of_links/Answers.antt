use Rattle.std.proofs.Common.{◌++◌, List, false, flat_map, get_or, ap, ◌∙◌}
use Rattle.std.proofs.lemmas.List.{get_or_default}
use Rattle.package_index.proofs.Loops.{gathered-end, gathered-more}
use Rattle.propagation_links.specs.declared.link.Link.{Link}
use Rattle.model_review.proofs.walks.add_of_links.Goals as goal

pub loop-link-preserved : goal.loop-link-preserved
loop-link-preserved g c =
    let links = c.links-link-items.result.now in
    let i = c.loop-link.link-index in
    let none : Link = record { from = record { component = 0; point = 0; outward = false }; to = record { component = 0; point = 0; outward = false } } in
    let link : Link = get_or links i none in
    gathered-more links i link c.loop-link-test.true (get_or_default links i none link c.loop-link-test.true) (g.F.LinkFinding.finding c.args.told.now c.args.view.now) c.args.found.now c.loop-link.found c.tell.new.found c.loop-link.invariant c.in_ok-tell.ensures

pub returns : goal.returns
returns g c =
    let told = g.F.LinkFinding.finding c.args.told.now c.args.view.now in
    gathered-end c.links-link-items.result.now c.loop-link.link-index told c.args.found.now c.loop-link.found c.loop-link-test.false c.loop-link.invariant
    ∙ ap (λ (links : List Link). c.args.found.now ++ flat_map told links) c.links-link-items.ensures
