use Rattle.std.proofs.Common.{◌≡◌, ◌∷◌, ◌++◌, ◌+◌, [], length, sym, subst, rules}
use Rattle.std.specs.Prelude.{Contains}
use Rattle.fta_words.specs.inner.Naming.{AreInOrder}
use Rattle.fta_words.proofs.Places.{one_in_order, other_in_order}
use Rattle.fta_words.proofs.chosen.in_order.Goals.{then-is_among+in_ok-push, else-is_among}
use Rattle.fta_words.proofs.chosen.in_order.Goals as goal

pub loop-place-preserved : goal.loop-place-preserved
loop-place-preserved c =
    let among = Contains c.args.places.now in
    elim c.if-is_among.branch [
      | then-is_among+in_ok-push w ↦
          let pushed : c.if-is_among.chosen ≡ c.loop-place.chosen ++ c.loop-place.place ∷ [] = search rules in
          subst (AreInOrder (c.loop-place.place + 1) among) (sym pushed) (one_in_order among c.loop-place.place c.loop-place.chosen c.loop-place.invariant (c.is_among.ensures.yes w.if-is_among.true))
      | else-is_among w ↦
          let kept : c.if-is_among.chosen ≡ c.loop-place.chosen = search rules in
          subst (AreInOrder (c.loop-place.place + 1) among) (sym kept) (other_in_order among c.loop-place.place c.loop-place.chosen c.loop-place.invariant (c.is_among.ensures.not w.if-is_among.false))
    ]

pub returns : goal.returns
returns c =
    let all : c.loop-place.place ≡ length c.args.reports.now = search rules in
    subst (λ count. AreInOrder count (Contains c.args.places.now) c.loop-place.chosen) all c.loop-place.invariant
