use Rattle.std.proofs.Common.{◌∙◌, ap, length, None, arith, sym, refl}
use Rattle.merged_gates.specs.inner.Tests.{rises_from}
use Rattle.merged_gates.proofs.InputLaws.{rise-all}
use Rattle.merged_gates.proofs.Tested.{made-gate}
use Rattle.merged_gates.proofs.checks.is_made.Goals as goal

pub returns-clause-made : goal.returns-clause-made
returns-clause-made c = λ rises.
    made-gate c.args.system.now c.args.gates c.args.gate.now c.items-inputs.result.now c.events.result (length c.items-inputs.result.now)
    (omega (arith, c.if-fact-facts.false, c.facts.ensures.count)) (omega arith) (omega arith)
    c.items-inputs.ensures.items (omega (arith, c.items-inputs.ensures.few, ap length c.items-inputs.ensures.items)) c.events.ensures.count (c.if-not-are_within.ensures refl) (c.if-not-may_have.ensures refl) refl
    (sym c.rise.ensures ∙ rises)

pub returns-clause-rise : goal.returns-clause-rise
returns-clause-rise c = λ rises.
    rise-all c.args.gate.now.inputs (ap (rises_from None) (sym c.items-inputs.ensures.items) ∙ sym c.rise.ensures ∙ rises)
