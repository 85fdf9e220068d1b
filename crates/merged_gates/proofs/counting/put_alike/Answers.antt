use Rattle.std.proofs.Common.{◌≡◌, List, map, subst}
use Rattle.round_gates.specs.declared.tree.Input.{Input}
use Rattle.merged_gates.specs.inner.Solutions.{stand_of}
use Rattle.merged_gates.proofs.Folds.{alike-put}
use Rattle.merged_gates.proofs.counting.put_alike.Goals as goal

pub returns-then-alike : goal.returns-then-alike
returns-then-alike c =
    let alike = subst (λ (xs : List Input). map (stand_of c.args.stands.now) xs ≡ map (stand_of c.args.stands.now) c.args.inputs.now) c.as_slice.ensures.value (c.in_ok-alike.ensures c.if-alike.true) in
    alike-put c.args.gates.now c.put_ordered.new.gates c.args.stands.now c.args.inputs.now c.args.list.items c.args.n c.args.least alike c.in_ok-put_ordered.ensures
