use Rattle.std.proofs.Common.{◌∙◌, List, IfOk, ap, subst}
use Rattle.round_gates.specs.declared.node.Node.{Node}
use Rattle.round_gates.specs.declared.tree.Tree.{Tree}
use Rattle.round_gates.specs.Trees.{IsTreeOf}
use Rattle.round_gates.specs.inner.Walks.{node_in}
use Rattle.fault_system.proofs.NumberSets.{RisesWithin-each}
use Rattle.round_gates.proofs.Wholes.{few-small, target-inside}
use Rattle.round_gates.proofs.staging.whole_tree.Goals as goal

pub unroll-requires-clause-small : goal.unroll-requires-clause-small
unroll-requires-clause-small c = few-small c.args.system.now c.args.slice.now.facts c.args.blocks.now (λ n there. (c.requires.blocks.inside n).0 there) c.requires.few

pub unroll-requires-clause-inside : goal.unroll-requires-clause-inside
unroll-requires-clause-inside c = RisesWithin-each 0 _ c.args.slice.now.facts c.requires.slice.facts_rise

pub node_tree-requires-clause-inside : goal.node_tree-requires-clause-inside
node_tree-requires-clause-inside c = (target-inside c.args.system.now c.args.slice.now.target c.args.slice.now c.args.blocks.now c.requires.slice c.requires.blocks).1

pub returns : goal.returns
returns c =
    let there = (target-inside c.args.system.now c.args.slice.now.target c.args.slice.now c.args.blocks.now c.requires.slice c.requires.blocks).0 in
    subst (λ (node : Node). IfOk c.node_tree.result (λ (tree : Tree). IsTreeOf c.args.system.now c.args.blocks.now c.args.slice.now.target tree node))
    (c.node_in-node.ensures ∙ ap (λ (nodes : List Node). node_in nodes c.args.slice.now.target) c.as_slice.ensures.value ∙ c.in_ok-nodes.ensures.last c.args.slice.now.target there) c.node_tree.ensures
