use Rattle.std.proofs.Common.{◌≤◌, refl, rules}
use Rattle.round_gates.specs.Staged.{all_places, most_places}
use Rattle.round_gates.specs.Stages.{last_node}
use Rattle.round_gates.proofs.MadeWell.{tree-made}
use Rattle.round_gates.proofs.TreeTruth.{node-tree-holds}
use Rattle.round_gates.proofs.Wholes.{target-inside}
use Rattle.round_gates.proofs.staging.staged.Goals as goal

pub returns-clause-truth : goal.returns-clause-truth
returns-clause-truth c =
    let S = c.args.system.now in
    let slice = c.args.slice.now in
    let numbers = c.args.blocks.now in
    λ events. node-tree-holds S c.facts-facts.ensures.system slice.facts numbers c.requires.blocks events slice.target
    (target-inside S slice.target slice numbers c.requires.slice c.requires.blocks).1 c.in_ok-tree.tree (last_node S numbers slice.target) refl c.in_ok-tree.ensures

pub returns-clause-made : goal.returns-clause-made
returns-clause-made c =
    let S = c.args.system.now in
    let slice = c.args.slice.now in
    let numbers = c.args.blocks.now in
    let few : all_places S numbers slice.facts ≤ most_places = search rules in
    tree-made S slice.facts numbers c.requires.blocks few c.facts-facts.ensures.system slice slice.target c.in_ok-tree.tree c.requires.slice refl (last_node S numbers slice.target) refl c.in_ok-tree.ensures
