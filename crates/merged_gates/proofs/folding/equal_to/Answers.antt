use Rattle.std.proofs.Common.{List, length, map, ap, ◌∙◌, sym, refl}
use Rattle.std.proofs.lemmas.Option.{slice_get_read}
use Rattle.round_gates.specs.declared.tree.Input.{Input}
use Rattle.round_gates.specs.Truths.{kind_true}
use Rattle.round_gates.specs.inner.Trees.{input_true}
use Rattle.merged_gates.proofs.folding.equal_to.Goals as goal

pub returns-then-same_gate : goal.returns-then-same_gate
returns-then-same_gate c = λ events set agrees.
    let a = c.index-gates-own.result in
    let b = c.index-gates-place.result in
    sym (agrees c.args.other b (slice_get_read c.args.gates.now (length c.args.gates.now) c.args.other b refl c.if-place-gates.true c.index-gates-place.is))
    ∙ ap (λ k. kind_true k (map (input_true events set) b.inputs)) (sym (c.if-same_gate.ensures.kind refl))
    ∙ ap (λ (ins : List Input). kind_true a.kind (map (input_true events set) ins)) (sym (c.if-same_gate.ensures.inputs refl))
    ∙ agrees c.args.n a (slice_get_read c.args.gates.now (length c.args.gates.now) c.args.n a refl c.if-own-gates.true c.index-gates-own.is)
