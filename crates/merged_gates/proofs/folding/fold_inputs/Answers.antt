use Rattle.std.proofs.Common.{get_or, ◌∙◌, arith}
use Rattle.std.proofs.lemmas.Option.{slice_get-get_or}
use Rattle.round_gates.specs.declared.node.GateKind.TheVariants as kinds
use Rattle.merged_gates.proofs.Folds.{kind-there, says-as}
use Rattle.merged_gates.proofs.folding.fold_inputs.Goals as goal

pub returns-in_ok-fold_counting-in-AtLeast : goal.returns-in_ok-fold_counting-in-AtLeast
returns-in_ok-fold_counting-in-AtLeast c = λ events set solves.
    let gate = get_or c.args.gates.now c.args.n c.index-gates-place.result in
    c.in_ok-fold_counting-in-AtLeast.ensures events set solves
    (says-as events set c.args.gates.now c.args.n gate (kinds.AtLeast c.in-AtLeast.least) c.in_ok-inputs.inputs.items solves.gates_met
    (slice_get-get_or c.args.gates.now c.args.n c.index-gates-place.result (omega (arith, c.if-place-gates.false)))
    (kind-there c.args.gates.now c.args.n _ c.index-gates-place.result (kinds.AtLeast c.in-AtLeast.least) (omega (arith, c.if-place-gates.false)) c.in-AtLeast.is) (c.in_ok-inputs.ensures.items ∙ c.items.ensures.items))

pub returns-in_ok-fold_join-in-And : goal.returns-in_ok-fold_join-in-And
returns-in_ok-fold_join-in-And c = λ events set solves.
    let gate = get_or c.args.gates.now c.args.n c.index-gates-place.result in
    c.in_ok-fold_join-in-And.ensures events set solves
    (says-as events set c.args.gates.now c.args.n gate kinds.And c.as_slice.result.now solves.gates_met
    (slice_get-get_or c.args.gates.now c.args.n c.index-gates-place.result (omega (arith, c.if-place-gates.false)))
    (kind-there c.args.gates.now c.args.n _ c.index-gates-place.result kinds.And (omega (arith, c.if-place-gates.false)) c.in-And.is) (c.as_slice.ensures.value ∙ c.in_ok-inputs.ensures.items ∙ c.items.ensures.items))

pub returns-in_ok-fold_join-in-Or : goal.returns-in_ok-fold_join-in-Or
returns-in_ok-fold_join-in-Or c = λ events set solves.
    let gate = get_or c.args.gates.now c.args.n c.index-gates-place.result in
    c.in_ok-fold_join-in-Or.ensures events set solves
    (says-as events set c.args.gates.now c.args.n gate kinds.Or c.as_slice-in-Or.result.now solves.gates_met
    (slice_get-get_or c.args.gates.now c.args.n c.index-gates-place.result (omega (arith, c.if-place-gates.false)))
    (kind-there c.args.gates.now c.args.n _ c.index-gates-place.result kinds.Or (omega (arith, c.if-place-gates.false)) c.in-Or.is) (c.as_slice-in-Or.ensures.value ∙ c.in_ok-inputs.ensures.items ∙ c.items.ensures.items))
