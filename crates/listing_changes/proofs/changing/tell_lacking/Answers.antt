use Rattle.std.proofs.lemmas.Result.{on_ok_weaker}
use Rattle.listing_changes.proofs.Counting.{told-count, told-text}
use Rattle.listing_changes.proofs.changing.tell_lacking.Goals as goal

pub returns-clause-text : goal.returns-clause-text
returns-clause-text c = on_ok_weaker c.tell_sets.result (told-text _ _ c.args.told.now c.tell_sets.new.told) c.tell_sets.ensures

pub returns-clause-count : goal.returns-clause-count
returns-clause-count c = on_ok_weaker c.tell_sets.result (told-count _ _ c.args.told.now c.tell_sets.new.told) c.tell_sets.ensures
