use Rattle.std.specs.Prelude.{Contains}
use Rattle.fta_words.specs.inner.Naming.{AreInOrder}
use Rattle.fta_words.proofs.chosen.in_order.Given as goal

abbrev pub invariant-loop-place : goal.invariant-loop-place
invariant-loop-place l = AreInOrder l.place (Contains l.places) l.chosen
