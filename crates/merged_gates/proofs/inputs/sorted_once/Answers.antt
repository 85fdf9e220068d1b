use Rattle.std.proofs.Common.{None, ap, ◌∙◌}
use Rattle.std.proofs.lemmas.Result.{IfOk-weaker}
use Rattle.merged_gates.specs.inner.Solutions.{once_from}
use Rattle.merged_gates.proofs.InputLaws.{same-sorted}
use Rattle.merged_gates.proofs.inputs.sorted_once.Goals as goal

pub returns : goal.returns
returns c = IfOk-weaker c.once.result _ _ (λ list is. same-sorted c.args.inputs.items c.in_ok-list.list.items list c.in_ok-list.ensures (is ∙ ap (once_from None) c.as_slice.ensures.value)) c.once.ensures
