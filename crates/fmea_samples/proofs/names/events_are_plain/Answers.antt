use Rattle.std.proofs.Common.{ℕ, ◌≡◌, ◌∙◌, ap, arith, get_or, subst, sym, ⊎_elim}
use Rattle.std.proofs.lemmas.Bool.{cases_eq}
use Rattle.std.proofs.lemmas.List.{get_or_default}
use Rattle.fault_system.specs.declared.formula.EventInfo.{EventInfo}
use Rattle.fmea_rows.specs.inner.Text.{IsPlainField}
use Rattle.fmea_samples.proofs.names.events_are_plain.Goals as goal

pub loop-event-preserved : goal.loop-event-preserved
loop-event-preserved c = λ k d h.
    let i = c.loop-event.event-index in
    let here : k ≡ c.loop-event.event-index → c.event-item.result ≡ get_or c.args.events.now k d = λ (same : k ≡ c.loop-event.event-index).
    c.event-item.is ∙ get_or_default c.args.events.now i c.event-item.result d c.loop-event-test.true ∙ ap (λ (n : ℕ). get_or c.args.events.now n d) (sym same) in
    ⊎_elim (λ (same : k ≡ c.loop-event.event-index). subst (λ (x : EventInfo). IsPlainField x.name) (here same) (subst IsPlainField c.items.ensures.items (c.is_plain.ensures c.if-not-is_plain.false)))
    (λ differ. c.loop-event.invariant k d (omega (arith, differ))) (cases_eq k c.loop-event.event-index)

pub returns : goal.returns
returns c = λ yes k d h. c.loop-event.invariant k d (omega arith)
