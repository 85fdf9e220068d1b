use Rattle.std.proofs.Common.{ℕ, List, All, ◌≡◌, ◌<◌, ◌∙◌, length, ap, subst, sym}
use Rattle.plain_values.specs.Numbered.{numbers_below}
use Rattle.fault_system.specs.Truth.{set_of}
use Rattle.backward_slice.specs.Slices.{HasItsCauses}
use Rattle.dependency_blocks.proofs.AllFacts.{all-causes, all-ranged}
use Rattle.dependency_blocks.proofs.finding.all_blocks.Goals as goal

pub blocks_of-requires-clause-ranged : goal.blocks_of-requires-clause-ranged
blocks_of-requires-clause-ranged c =
    let is : c.items.result.now ≡ numbers_below (length c.args.system.now.facts) = c.items.ensures.items ∙ c.in_ok-facts.ensures ∙ ap numbers_below c.facts.ensures.count in
    subst (λ (ns : List ℕ). All (λ n. n < length c.args.system.now.facts) ns) (sym is) (all-ranged (length c.args.system.now.facts))

pub blocks_of-requires-clause-causes : goal.blocks_of-requires-clause-causes
blocks_of-requires-clause-causes c =
    let is : c.items.result.now ≡ numbers_below (length c.args.system.now.facts) = c.items.ensures.items ∙ c.in_ok-facts.ensures ∙ ap numbers_below c.facts.ensures.count in
    subst (λ (ns : List ℕ). HasItsCauses c.args.system.now (set_of ns)) (sym is) (all-causes c.args.system.now c.facts.ensures.system)
