use Rattle.std.specs.HashMap.{get}
use Rattle.package_index.specs.inner.Tables.{same_words}
use Rattle.package_index.specs.declared.words.Words.TheVariants.{Identifiers}
use Rattle.event_rates.proofs.FittingLaws.{puts}
use Rattle.event_rates.proofs.table.put.Goals as goal

pub returns : goal.returns
returns c =
    puts (get same_words c.args.fitting.now) (get same_words c.insert.new.self) (Identifiers c.args.target) c.args.association (λ words. c.in_ok-insert.ensures.updates.0 words)
