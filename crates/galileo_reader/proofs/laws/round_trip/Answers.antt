use Rattle.galileo_reader.proofs.RoundTrip.{text-read}
use Rattle.galileo_reader.proofs.laws.round_trip.Goals as goal

pub returns : goal.returns
returns c = text-read
