use Rattle.cutset_engine.proofs.InSlice.{minimal_in_slice}
use Rattle.cutset_engine.proofs.laws.in_slice.Goals as goal

pub returns : goal.returns
returns c = λ system target slice set is minimal. minimal_in_slice system target slice is set minimal
