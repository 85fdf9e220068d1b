use Rattle.std.specs.Prelude.{option_copied}
use Rattle.std.specs.HashMap.{get}
use Rattle.package_index.specs.inner.Tables.{same_text}
use Rattle.rate_keys.proofs.FoundLaws.{says-each}
use Rattle.rate_keys.proofs.lone.add_targets.Goals as goal

pub loop-target-preserved : goal.loop-target-preserved
loop-target-preserved c =
    says-each (get same_text c.args.found.now) (get same_text c.loop-target.found) (get same_text c.add_target.new.found) c.args.targets.now c.loop-target.target-index c.target-item.result c.text.result.now (option_copied c.args.word)
    c.loop-target-test.true c.target-item.is c.text.ensures.text c.loop-target.invariant c.in_ok-add_target.ensures
