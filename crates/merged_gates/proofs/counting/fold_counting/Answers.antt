use Rattle.std.proofs.Common.{List, map, ap, ◌∙◌}
use Rattle.round_gates.specs.declared.tree.Input.{Input}
use Rattle.round_gates.specs.Truths.{kind_true}
use Rattle.round_gates.specs.declared.node.GateKind.TheVariants as kinds
use Rattle.round_gates.specs.inner.Trees.{input_true}
use Rattle.merged_gates.proofs.InputLaws.{count-order}
use Rattle.merged_gates.proofs.counting.fold_counting.Goals as goal

pub returns : goal.returns
returns c = λ events set solves says.
    c.in_ok-put_alike.ensures events set (c.in_ok-wrap_all.ensures events set solves)
    (ap (λ (xs : List Input). kind_true (kinds.AtLeast c.args.least) (map (input_true events set) xs)) c.as_slice-ordered.ensures.value
    ∙ count-order c.args.least c.args.inputs.items c.in_ok-list.list.items c.in_ok-list.ensures (input_true events set) ∙ says)
