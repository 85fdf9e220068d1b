use Rattle.std.proofs.Common.{Some, None, ap}
use Rattle.fta_words.proofs.Places.{one_chosen}
use Rattle.fta_words.proofs.chosen.chosen_of.Goals as goal

pub returns-in_ok-all_places-in-None-clause-only : goal.returns-in_ok-all_places-in-None-clause-only
returns-in_ok-all_places-in-None-clause-only c = λ chosen all.
    ap (λ l. Some l) (one_chosen c.args.reports.now None c.in_ok-all_places-in-None.field-0 chosen c.in_ok-all_places-in-None.ensures (rw c.in-None.is at all))
