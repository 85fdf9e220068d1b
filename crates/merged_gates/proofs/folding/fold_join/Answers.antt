use Rattle.std.proofs.Common.{◌≡◌, List, map, subst}
use Rattle.fault_system.specs.Truth.{NumberSet}
use Rattle.round_gates.specs.declared.tree.Input.{Input}
use Rattle.round_gates.specs.Truths.{kind_true}
use Rattle.round_gates.specs.inner.Trees.{input_true}
use Rattle.merged_gates.proofs.Folds.{join-folded}
use Rattle.merged_gates.proofs.folding.fold_join.Goals as goal

pub returns : goal.returns
returns c =
    let alike = subst (λ (xs : List Input). (events set : NumberSet) → kind_true c.kind_with-other.result (map (input_true events set) xs) ≡ kind_true c.args.kind (map (input_true events set) xs)) c.items.ensures.items c.kind_with-other.ensures in
    join-folded c.args.gates.now c.put.new.gates c.args.stands.now c.args.inputs.now c.in_ok-all.all.items c.in_ok-list.list c.args.n c.args.kind c.kind_with-other.result c.requires
    c.in_ok-all.ensures c.in_ok-list.ensures alike c.put.ensures
