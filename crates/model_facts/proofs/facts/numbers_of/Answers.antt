use Rattle.std.proofs.Common.{get_or, subst}
use Rattle.std.specs.HashMap.{get}
use Rattle.std.proofs.lemmas.List.{get_or_default}
use Rattle.package_index.specs.inner.Tables.{Added}
use Rattle.package_index.proofs.KnowsLaws.{knows-all, knows-more}
use Rattle.model_facts.specs.Facts.{same_fact}
use Rattle.model_facts.specs.declared.keys.FactKey.{FactKey}
use Rattle.model_facts.specs.declared.keys.FactKind.TheVariants.{State}
use Rattle.model_facts.proofs.KeyLaws.{fact-agrees, fact-alike, fact-by}
use Rattle.model_facts.proofs.facts.numbers_of.Goals as goal

pub loop-number-preserved : goal.loop-number-preserved
loop-number-preserved c =
    let facts = c.args.facts.now in
    let number = c.loop-number.number in
    let none : FactKey = record { owner = 0; kind = State 0 } in
    let fact : FactKey = get_or facts number none in
    knows-more same_fact same_fact facts number fact fact (get same_fact c.loop-number.numbers) (get same_fact c.add.new.table) _ c.loop-number-test.true
    (get_or_default facts number none fact c.loop-number-test.true) (λ other. fact-agrees other fact) (fact-alike fact) c.loop-number.invariant (subst (λ same. Added same (get same c.loop-number.numbers) (get same c.add.new.table) fact number c.in_ok-add.field-0) fact-by c.in_ok-add.ensures)

pub returns : goal.returns
returns c = knows-all same_fact c.args.facts.now c.loop-number.number (get same_fact c.loop-number.numbers) c.loop-number-test.false c.loop-number.invariant
