use Rattle.std.proofs.Common.{ap, cond, false, get_or, sym, true, ◌++◌, ◌∙◌, [], ◌∷◌}
use Rattle.std.specs.HashSet.{contains}
use Rattle.std.proofs.lemmas.List.{get_or_default}
use Rattle.package_index.proofs.Loops.{numbered-more}
use Rattle.propagation_links.specs.declared.link.Link.{Link}
use Rattle.uneven_parts.specs.TwoWays.{further_way}
use Rattle.uneven_parts.specs.inner.Tables.{link_key, same_link_key, same_way_key, way_key}
use Rattle.uneven_parts.proofs.Known.{keys-more}
use Rattle.uneven_parts.proofs.ways.further_ways.Goals as goal

pub loop-place-preserved : goal.loop-place-preserved
loop-place-preserved c =
    let links = c.args.links.now in
    let i = c.loop-place.place in
    let none : Link = record { from = record { component = 0; point = 0; outward = false }; to = record { component = 0; point = 0; outward = false } } in
    let link : Link = get_or links i none in
    let within = c.loop-place-test.true in
    let is = get_or_default links i none link within in
    record {
      further = c.in_ok-push_if.ensures ∙ (λ j. c.loop-place.invariant.further j ++ cond (c.is_further_way.ensures j) (link ∷ []) []) ∙ sym (numbered-more (further_way links) links i link within is);
      ways = keys-more same_way_key way_key links i link within is (contains same_way_key c.loop-place.ways) (contains same_way_key c.insert.new.self) c.loop-place.invariant.ways
          (λ key. c.in_ok-insert.ensures.updates.0 key ∙ ap (λ own. cond (same_way_key own key) true (contains same_way_key c.loop-place.ways key)) c.way_key.ensures);
      known = keys-more same_link_key link_key links i link within is (contains same_link_key c.loop-place.known) (contains same_link_key c.insert-in-loop-place.new.self) c.loop-place.invariant.known
          (λ key. c.in_ok-insert-2.ensures.updates.0 key ∙ ap (λ own. cond (same_link_key own key) true (contains same_link_key c.loop-place.known key)) c.link_key.ensures);
    }
