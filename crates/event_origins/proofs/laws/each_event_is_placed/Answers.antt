use Rattle.event_origins.proofs.PlaceLaws.{root-placed}
use Rattle.event_origins.proofs.laws.each_event_is_placed.Goals as goal

pub returns : goal.returns
returns c = root-placed
