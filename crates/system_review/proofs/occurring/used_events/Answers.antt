use Rattle.std.proofs.Common.{ℕ, List, All, ◌≡◌, ◌<◌, ◌∙◌, length, ap, subst, sym}
use Rattle.plain_values.specs.Numbered.{numbers_below}
use Rattle.backward_slice.specs.inner.Reach.{IsReach}
use Rattle.dependency_blocks.proofs.AllFacts.{all-ranged}
use Rattle.system_review.proofs.Occurs.{reached-used}
use Rattle.system_review.proofs.occurring.used_events.Goals as goal

pub reach-requires : goal.reach-requires
reach-requires c =
    let is : c.items.result.now ≡ numbers_below (length c.args.system.now.facts) = c.items.ensures.items ∙ c.in_ok-facts.ensures ∙ ap numbers_below c.facts.ensures.count in
    subst (λ (ns : List ℕ). All (λ n. n < length c.args.system.now.facts) ns) (sym is) (all-ranged (length c.args.system.now.facts))

pub returns : goal.returns
returns c =
    let is : c.items.result.now ≡ numbers_below (length c.args.system.now.facts) = c.items.ensures.items ∙ c.in_ok-facts.ensures ∙ ap numbers_below c.facts.ensures.count in
    reached-used c.args.system.now _ (subst (λ (ns : List ℕ). IsReach c.args.system.now ns c.in_ok-found.found) is c.in_ok-found.ensures)
