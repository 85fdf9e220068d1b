use Rattle.std.proofs.Common.{Some, List, slice_get, subst, ◌≡◌}
use Rattle.std.proofs.lemmas.Result.{IfOk-weaker}
use Rattle.round_gates.specs.declared.tree.Input.{Input}
use Rattle.merged_gates.proofs.Folds.{all-folded}
use Rattle.merged_gates.proofs.merging.fold.Goals as goal

pub returns : goal.returns
returns c =
    IfOk-weaker c.fold_with.result _ _
    (λ next keeps. all-folded c.args.gates.now c.fold_with.new.gates c.as_mut_slice.result.now c.args.top next
    (λ n input at. c.in_ok-stands.ensures n input (subst (λ (xs : List Input). slice_get xs n ≡ Some input) c.as_mut_slice.ensures.value at)) keeps) c.fold_with.ensures
