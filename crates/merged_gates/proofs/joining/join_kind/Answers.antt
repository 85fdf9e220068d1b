use Rattle.std.proofs.Common.{◌∙◌}
use Rattle.round_gates.specs.inner.Trees.{input_true}
use Rattle.merged_gates.proofs.InputLaws.{kind-same}
use Rattle.merged_gates.proofs.joining.join_kind.Goals as goal

pub returns : goal.returns
returns c = λ events set agrees.
    c.put.ensures events set agrees
    (kind-same c.args.kind c.requires c.in_ok-list.list.items c.in_ok-ordered.ordered c.in_ok-ordered.ensures (input_true events set)
    ∙ c.in_ok-list.ensures events set agrees ∙ c.in-Some.ensures events set agrees)
