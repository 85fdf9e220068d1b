use Rattle.target_orders.proofs.Said.{one-text}
use Rattle.target_orders.proofs.laws.one_text.Goals as goal

pub returns : goal.returns
returns c = one-text
