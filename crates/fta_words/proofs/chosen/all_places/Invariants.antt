use Rattle.fta_words.specs.inner.Naming.{AreInOrder}
use Rattle.fta_words.proofs.chosen.all_places.Given as goal

abbrev pub invariant-loop-place : goal.invariant-loop-place
invariant-loop-place l = AreInOrder l.place (λ place. Unit {0}) l.chosen
