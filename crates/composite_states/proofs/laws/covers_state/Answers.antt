use Rattle.composite_states.proofs.StateLaws.{state-covered}
use Rattle.composite_states.proofs.laws.covers_state.Goals as goal

pub returns : goal.returns
returns c world path count number held within there = state-covered world path number there count held within
