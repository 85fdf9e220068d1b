use Rattle.std.proofs.Common.{get_or, subst}
use Rattle.std.specs.HashMap.{get}
use Rattle.std.proofs.lemmas.List.{get_or_default}
use Rattle.package_index.specs.inner.Tables.{Added}
use Rattle.package_index.proofs.KnowsLaws.{knows-all, knows-more}
use Rattle.model_facts.specs.Facts.{same_event}
use Rattle.model_facts.specs.declared.keys.EventKey.{EventKey}
use Rattle.model_facts.specs.declared.keys.EventKind.TheVariants.{Declared}
use Rattle.model_facts.proofs.KeyLaws.{event-agrees, event-alike, event-by}
use Rattle.model_facts.proofs.events.numbers_of.Goals as goal

pub loop-number-preserved : goal.loop-number-preserved
loop-number-preserved c =
    let events = c.args.events.now in
    let number = c.loop-number.number in
    let none : EventKey = record { owner = 0; kind = Declared 0 } in
    let event : EventKey = get_or events number none in
    knows-more same_event same_event events number event event (get same_event c.loop-number.numbers) (get same_event c.add.new.table) _ c.loop-number-test.true
    (get_or_default events number none event c.loop-number-test.true) (λ other. event-agrees other event) (event-alike event) c.loop-number.invariant (subst (λ same. Added same (get same c.loop-number.numbers) (get same c.add.new.table) event number c.in_ok-add.field-0) event-by c.in_ok-add.ensures)

pub returns : goal.returns
returns c = knows-all same_event c.args.events.now c.loop-number.number (get same_event c.loop-number.numbers) c.loop-number-test.false c.loop-number.invariant
