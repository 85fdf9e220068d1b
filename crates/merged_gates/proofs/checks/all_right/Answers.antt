use Rattle.std.proofs.Common.{◌≡◌, Some, slice_get, refl, arith}
use Rattle.std.proofs.lemmas.Option.{slice_get_within}
use Rattle.round_gates.specs.declared.tree.Gate.{Gate}
use Rattle.merged_gates.specs.inner.Tests.{IsRight}
use Rattle.merged_gates.proofs.Places.{each-next}
use Rattle.merged_gates.proofs.checks.all_right.Goals as goal

pub loop-n-preserved : goal.loop-n-preserved
loop-n-preserved c =
    let m = c.args.merge.now in
    each-next (λ k. (gate : Gate) → slice_get m.tree.now.gates k ≡ Some gate → IsRight m.system.now m.written.now m.gates.now m.from.now m.tree.now k gate) c.loop-n.n c.loop-n.invariant (c.if-not-right_at.ensures refl)

pub returns : goal.returns
returns c = λ yes_so n gate at.
    let inside = slice_get_within c.args.merge.now.tree.now.gates n gate at in
    c.loop-n.invariant n (omega (arith, inside, c.loop-n-test.false, c.len_u32-n-end.ensures)) gate at
