use Rattle.std.proofs.Common.{◌≡◌, true, inl, inr, ⊎_elim, sym, subst, ◌∙◌}
use Rattle.fault_system.specs.Truth.{member, truth}
use Rattle.fault_system.specs.Rounds.{only}
use Rattle.fault_system.specs.declared.formula.FactInfo.{FactInfo}
use Rattle.system_review.proofs.Occurs.{added-done, added-from, added-kept, one_fact}
use Rattle.system_review.proofs.Beginning.{lacks-false}
use Rattle.system_review.proofs.single.mark_singles_by.Goals as goal

pub returns-in-Some-clause-kept : goal.returns-in-Some-clause-kept
returns-in-Some-clause-kept c =
    let facts = c.args.facts.now in
    let fact = c.in-Some.fact.now in
    let lacks = lacks-false c.args.system.now facts c.requires c.args.number fact (sym c.in-Some.ensures) (sym c.has.ensures ∙ c.if-has.false) in
    added-kept c.args.marks.now c.mark_single.new.marks (λ m. truth (only m) (member facts) fact.formula) c.mark_single.ensures.size (c.mark_single.ensures.marks lacks)

pub returns-in-Some-clause-right : goal.returns-in-Some-clause-right
returns-in-Some-clause-right c m h =
    let facts = c.args.facts.now in
    let fact = c.in-Some.fact.now in
    let none = sym c.has.ensures ∙ c.if-has.false in
    let lacks = lacks-false c.args.system.now facts c.requires c.args.number fact (sym c.in-Some.ensures) none in
    ⊎_elim (λ was. inl was) (λ makes. inr (c.args.number, fact, sym c.in-Some.ensures, none, makes))
    (added-from c.args.marks.now c.mark_single.new.marks (λ m. truth (only m) (member facts) fact.formula) c.mark_single.ensures.size (c.mark_single.ensures.marks lacks) m h)

pub returns-in-Some-clause-done : goal.returns-in-Some-clause-done
returns-in-Some-clause-done c m fact at low none makes =
    let facts = c.args.facts.now in
    let its = c.in-Some.fact.now in
    let lacks = lacks-false c.args.system.now facts c.requires c.args.number its (sym c.in-Some.ensures) none in
    added-done c.args.marks.now c.mark_single.new.marks (λ m. truth (only m) (member facts) its.formula) c.mark_single.ensures.size (c.mark_single.ensures.marks lacks) m low
    (subst (λ (f : FactInfo). truth (only m) (member facts) f.formula ≡ true) (one_fact c.args.system.now c.args.number fact its at (sym c.in-Some.ensures)) makes)
