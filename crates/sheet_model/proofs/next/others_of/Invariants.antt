use Rattle.std.proofs.Common.{◌≡◌, take}
use Rattle.std.specs.Prelude.{filter}
use Rattle.sheet_model.specs.inner.Felt.{is_other}
use Rattle.sheet_model.proofs.next.others_of.Given as goal

abbrev pub invariant-loop-other : goal.invariant-loop-other
invariant-loop-other l = l.others.items ≡ filter (is_other l.count l.number) (take l.other-index l.found)
