use Rattle.std.proofs.Common.{ℕ, ◌≡◌, ◌∙◌, ap, arith, get_or, subst, sym, ⊎_elim}
use Rattle.std.proofs.lemmas.Bool.{cases_eq}
use Rattle.std.proofs.lemmas.List.{get_or_default}
use Rattle.fault_system.specs.declared.formula.FactInfo.{FactInfo}
use Rattle.fmea_rows.specs.inner.Text.{IsPlainField}
use Rattle.fmea_samples.proofs.names.facts_are_plain.Goals as goal

pub loop-fact-preserved : goal.loop-fact-preserved
loop-fact-preserved c = λ k d h.
    let i = c.loop-fact.fact-index in
    let here : k ≡ c.loop-fact.fact-index → c.fact-item.result ≡ get_or c.args.facts.now k d = λ (same : k ≡ c.loop-fact.fact-index).
    c.fact-item.is ∙ get_or_default c.args.facts.now i c.fact-item.result d c.loop-fact-test.true ∙ ap (λ (n : ℕ). get_or c.args.facts.now n d) (sym same) in
    ⊎_elim (λ (same : k ≡ c.loop-fact.fact-index). subst (λ (x : FactInfo). IsPlainField x.name) (here same) (subst IsPlainField c.items.ensures.items (c.is_plain.ensures c.if-not-is_plain.false)))
    (λ differ. c.loop-fact.invariant k d (omega (arith, differ))) (cases_eq k c.loop-fact.fact-index)

pub returns : goal.returns
returns c = λ yes k d h. c.loop-fact.invariant k d (omega arith)
