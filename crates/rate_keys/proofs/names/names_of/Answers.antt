use Rattle.std.specs.HashSet.{contains}
use Rattle.package_index.specs.inner.Tables.{same_text}
use Rattle.rate_keys.proofs.NamesLaws.{names-more}
use Rattle.rate_keys.proofs.names.names_of.Goals as goal

pub loop-name-preserved : goal.loop-name-preserved
loop-name-preserved c =
    names-more c.args.list.now c.loop-name.name-index c.name-item.result c.text.result c.loop-name-test.true c.name-item.is c.text.ensures.text (contains same_text c.loop-name.names) (contains same_text c.insert.new.self) c.loop-name.invariant
    c.in_ok-insert.ensures.updates.0
