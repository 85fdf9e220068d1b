use Rattle.std.proofs.Common.{◌≡◌, ◌∷◌, ◌++◌, ◌+◌, [], length, sym, subst, rules}
use Rattle.fta_words.specs.inner.Naming.{AreInOrder}
use Rattle.fta_words.proofs.Places.{all_from_order, one_in_order}
use Rattle.fta_words.proofs.chosen.all_places.Goals as goal

pub loop-place-preserved : goal.loop-place-preserved
loop-place-preserved c =
    let pushed : c.push.new.self ≡ c.loop-place.chosen ++ c.loop-place.place ∷ [] = search rules in
    subst (AreInOrder (c.loop-place.place + 1) (λ place. Unit {0})) (sym pushed) (one_in_order (λ place. Unit {0}) c.loop-place.place c.loop-place.chosen c.loop-place.invariant tt)

pub returns : goal.returns
returns c =
    let all : c.loop-place.place ≡ length c.args.reports.now = search rules in
    all_from_order c.args.reports.now c.loop-place.place c.loop-place.chosen all c.loop-place.invariant
