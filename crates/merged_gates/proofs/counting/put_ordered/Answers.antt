use Rattle.std.proofs.Common.{List, map, ap, ◌∙◌}
use Rattle.round_gates.specs.declared.tree.Input.{Input}
use Rattle.round_gates.specs.Truths.{kind_true}
use Rattle.round_gates.specs.declared.node.GateKind.TheVariants as kinds
use Rattle.round_gates.specs.inner.Trees.{input_true}
use Rattle.merged_gates.proofs.InputLaws.{count-order}
use Rattle.merged_gates.proofs.counting.put_ordered.Goals as goal

pub returns : goal.returns
returns c = λ events set agrees says.
    c.put.ensures events set agrees
    (ap (λ (xs : List Input). kind_true (kinds.AtLeast c.args.least) (map (input_true events set) xs)) c.in_ok-inputs.ensures.ok
    ∙ count-order c.args.least c.args.list.items c.in_ok-ordered.ordered.items c.in_ok-ordered.ensures (input_true events set) ∙ says)
