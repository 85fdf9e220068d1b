use Rattle.std.proofs.Common.{◌≡◌, true, inl, inr, ⊎_elim, sym, subst}
use Rattle.fault_system.specs.Truth.{occurs}
use Rattle.fault_system.specs.declared.formula.FactInfo.{FactInfo}
use Rattle.system_review.proofs.Occurs.{added-done, added-from, added-kept, one_fact}
use Rattle.system_review.proofs.occurring.mark_used_by.Goals as goal

pub returns-in-Some-clause-kept : goal.returns-in-Some-clause-kept
returns-in-Some-clause-kept c =
    added-kept c.args.marks.now c.mark_facts.new.marks (λ m. occurs m c.in-Some.fact.now.formula) c.mark_facts.ensures.size c.mark_facts.ensures.marks

pub returns-in-Some-clause-right : goal.returns-in-Some-clause-right
returns-in-Some-clause-right c m h =
    ⊎_elim (λ was. inl was) (λ o. inr (c.args.number, c.in-Some.fact.now, sym c.in-Some.ensures, o))
    (added-from c.args.marks.now c.mark_facts.new.marks (λ m. occurs m c.in-Some.fact.now.formula) c.mark_facts.ensures.size c.mark_facts.ensures.marks m h)

pub returns-in-Some-clause-done : goal.returns-in-Some-clause-done
returns-in-Some-clause-done c m fact at low o =
    added-done c.args.marks.now c.mark_facts.new.marks (λ m. occurs m c.in-Some.fact.now.formula) c.mark_facts.ensures.size c.mark_facts.ensures.marks m low
    (subst (λ (f : FactInfo). occurs m f.formula ≡ true) (one_fact c.args.system.now c.args.number fact c.in-Some.fact.now at (sym c.in-Some.ensures)) o)
