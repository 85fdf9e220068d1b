use Rattle.std.proofs.Common.{◌∙◌}
use Rattle.std.specs.HashMap.{get}
use Rattle.package_index.specs.inner.Tables.{same_text}
use Rattle.package_index.proofs.KnowsLaws.{knows-all, knows-more}
use Rattle.event_origins.specs.inner.Named.{has_text}
use Rattle.event_origins.proofs.TableLaws.{name_agrees, name_alike}
use Rattle.event_origins.proofs.table.places_of.Goals as goal

pub loop-number-preserved : goal.loop-number-preserved
loop-number-preserved c =
    let list = c.args.list.now in
    let number = c.loop-number.number in
    let one = c.index-list-number.result in
    let key = c.text.result in
    knows-more has_text same_text list number one key (get same_text c.loop-number.places) (get same_text c.add.new.table) _ c.loop-number-test.true
    c.index-list-number.is (λ other. name_agrees one key other (c.text.ensures.text ∙ c.name.ensures)) (λ other same. name_alike key other same) c.loop-number.invariant c.in_ok-add.ensures

pub returns : goal.returns
returns c = knows-all has_text c.args.list.now c.loop-number.number (get same_text c.loop-number.places) c.loop-number-test.false c.loop-number.invariant
