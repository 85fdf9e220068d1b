use Rattle.std.proofs.Common.{ℕ, ◌≡◌, ◌||◌, true, List, length, ap, ◌∙◌, sym, subst, refl}
use Rattle.std.proofs.lemmas.Option.{slice_get_read}
use Rattle.round_gates.specs.declared.tree.Gate.{Gate}
use Rattle.round_gates.specs.declared.tree.Input.{Input}
use Rattle.fault_system.specs.Truth.{member}
use Rattle.round_gates.specs.Trees.{has_gate}
use Rattle.merged_gates.proofs.Places.{reached-next}
use Rattle.merged_gates.proofs.parents.mark_from.Goals as goal

pub returns-then-place-gates : goal.returns-then-place-gates
returns-then-place-gates c =
    let gate = c.index-gates-place.result in
    reached-next c.args.gates.now c.args.n gate c.args.marks.now c.mark_inputs.new.marks
    (slice_get_read c.args.gates.now (length c.args.gates.now) c.args.n gate refl c.if-place-gates.true c.index-gates-place.is)
    (sym c.has.ensures ∙ c.if-has.true)
    (subst (λ (ins : List Input). (k : ℕ) → member c.mark_inputs.new.marks k ≡ true → member c.args.marks.now k || has_gate ins k ≡ true) (c.items.ensures.items ∙ ap (λ (g : Gate). g.inputs) (sym c.index-gates-place.is)) c.mark_inputs.ensures.marks)
