use Rattle.std.proofs.Common.{sym, ◌∙◌}
use Rattle.flattener.proofs.Caps.{one-of}
use Rattle.flattener.proofs.Places.{enter-event}
use Rattle.flattener.proofs.counts.enter_places.Goals as goal

pub returns-in-Some : goal.returns-in-Some
returns-in-Some c =
    one-of _ (enter-event c.args.site.now c.args.point c.args.number _ (sym c.arrival.ensures ∙ c.in-Some.is))
