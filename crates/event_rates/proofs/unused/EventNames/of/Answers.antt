use Rattle.std.specs.HashSet.{contains}
use Rattle.package_index.specs.declared.words.Words.TheVariants.{Names}
use Rattle.package_index.specs.inner.Tables.{same_words}
use Rattle.event_rates.proofs.UnusedLaws.{names-more}
use Rattle.event_rates.proofs.unused.EventNames.of.Goals as goal

pub loop-name-preserved : goal.loop-name-preserved
loop-name-preserved c =
    let all = c.args.all.now in
    let i = c.loop-name.name-index in
    let one = c.name-item.result in
    names-more all i one (Names c.items.result) c.loop-name-test.true c.name-item.is c.items.ensures.items (contains same_words c.loop-name.names) (contains same_words c.insert.new.self) c.loop-name.invariant c.in_ok-insert.ensures.updates.0
