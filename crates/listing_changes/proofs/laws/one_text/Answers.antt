use Rattle.listing_changes.proofs.Texts.{text-once}
use Rattle.listing_changes.proofs.laws.one_text.Goals as goal

pub returns : goal.returns
returns c = text-once
