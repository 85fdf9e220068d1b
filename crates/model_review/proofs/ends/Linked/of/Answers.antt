use Rattle.std.proofs.Common.{false, get_or, subst}
use Rattle.std.specs.HashSet.{contains}
use Rattle.std.proofs.lemmas.List.{get_or_default, take_all}
use Rattle.propagation_links.specs.declared.link.Link.{Link}
use Rattle.model_facts.specs.inner.Tables.{KnowsSides, same_side_key}
use Rattle.model_facts.proofs.KeyLaws.{sides-more}
use Rattle.model_review.proofs.ends.Linked.of.Goals as goal

pub loop-link-preserved : goal.loop-link-preserved
loop-link-preserved c =
    let links = c.args.links.now in
    let i = c.loop-link.link-index in
    let none : Link = record { from = record { component = 0; point = 0; outward = false }; to = record { component = 0; point = 0; outward = false } } in
    let link : Link = get_or links i none in
    sides-more links i link c.loop-link-test.true (get_or_default links i none link c.loop-link-test.true) (contains same_side_key c.loop-link.sides) (contains same_side_key c.insert.new.self) c.loop-link.invariant c.in_ok-insert.ensures.updates.0

pub returns : goal.returns
returns c = subst (λ links. KnowsSides links (contains same_side_key c.loop-link.sides)) (take_all c.loop-link.link-index c.args.links.now c.loop-link-test.false) c.loop-link.invariant
