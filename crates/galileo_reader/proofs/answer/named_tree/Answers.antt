use Rattle.std.proofs.Common.{◌∙◌, subst, sym}
use Rattle.std.proofs.lemmas.Result.{err_from_is_err_and}
use Rattle.galileo_reader.specs.inner.Trees.{IsCyclicIn, IsNamedTree}
use Rattle.galileo_reader.proofs.OneAnswer.{cycle-none, none-left, top-found}
use Rattle.galileo_reader.proofs.TreeLaws.{named-tree}
use Rattle.galileo_reader.proofs.answer.named_tree.Goals as goal

pub returns-in-Some-unknown_node : goal.returns-in-Some-unknown_node
returns-in-Some-unknown_node c =
    (c.requires.counts, c.requires.once, (_, top-found c.args.nodes.now _ c.top_of.result c.in-Some.top c.lines.ensures c.top_of.ensures c.in-Some.is), sym c.unknown_node.ensures ∙ c.in-Some-unknown_node.is)

pub refuse_cycle-requires : goal.refuse_cycle-requires
refuse_cycle-requires c =
    subst IsNamedTree (sym c.in_ok-tree.ensures)
    (named-tree c.args.nodes.now c.in-Some.top.now c.requires.once (top-found c.args.nodes.now _ c.top_of.result c.in-Some.top c.lines.ensures c.top_of.ensures c.in-Some.is) (none-left _ (λ at e. c.in_default-unknown_node.not-Some at (c.unknown_node.ensures ∙ e))))

pub returns-in_err-refuse_cycle : goal.returns-in_err-refuse_cycle
returns-in_err-refuse_cycle c =
    let p = err_from_is_err_and c.from_residual-in_err-refuse_cycle.result c.from_residual-in_err-refuse_cycle.ensures.1 in
    rw (p.1, p.2) (cycle-none c.args.nodes.now c.in-Some.top.now c.in_ok-tree.tree c.in_err-refuse_cycle.field-0.0 c.requires.counts c.requires.once
    (top-found c.args.nodes.now _ c.top_of.result c.in-Some.top c.lines.ensures c.top_of.ensures c.in-Some.is) (none-left _ (λ at e. c.in_default-unknown_node.not-Some at (c.unknown_node.ensures ∙ e))) c.in_ok-tree.ensures
    (subst (λ ls. IsCyclicIn ls c.in_ok-tree.tree c.in_err-refuse_cycle.field-0.0) c.lines-2.ensures c.in_err-refuse_cycle.ensures))
