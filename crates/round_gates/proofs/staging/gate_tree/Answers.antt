use Rattle.std.proofs.Common.{◌≡◌, ◌∙◌, ℕ, length, ap, sym, subst, refl}
use Rattle.round_gates.specs.declared.tree.Tree.{Tree}
use Rattle.round_gates.specs.Trees.{IsGateTree}
use Rattle.round_gates.specs.inner.Trees.{tree_of}
use Rattle.round_gates.proofs.Reaches.{behind-of}
use Rattle.round_gates.proofs.TreeLaws.{gate-tree}
use Rattle.round_gates.proofs.Wholes.{if_ok}
use Rattle.round_gates.proofs.staging.gate_tree.Goals as goal

pub reached_in_order-requires-clause-behind : goal.reached_in_order-requires-clause-behind
reached_in_order-requires-clause-behind c = behind-of (length c.args.system.now.events) c.args.lines.now c.requires.ordered

pub returns : goal.returns
returns c =
    let S = c.args.system.now in
    let lines = c.args.lines.now in
    let keys = c.in_ok-keys.keys.keys in
    if_ok (λ (tree : Tree). tree ≡ tree_of c.events.result lines keys c.args.top) (IsGateTree S c.args.blocks.now c.args.top)
    (λ tree is. subst (IsGateTree S c.args.blocks.now c.args.top) (sym (is ∙ ap (λ (n : ℕ). tree_of n lines keys c.args.top) c.events.ensures.count))
    (gate-tree (length S.events) lines c.args.top keys c.requires.ordered c.in_ok-keys.ensures.reached c.requires.top c.in_ok-keys.ensures.distinct S c.args.blocks.now c.requires.gates refl c.in_ok-keys.ensures.rise))
    c.tree_of.result c.tree_of.ensures
