use Rattle.std.proofs.Common.{◌≡◌}
use Rattle.text_places.specs.inner.Marks.{mark_at}
use Rattle.text_places.proofs.table.mark_to.Given as goal

abbrev pub invariant-loop-number : goal.invariant-loop-number
invariant-loop-number l = l.reached ≡ mark_at l.text l.number
