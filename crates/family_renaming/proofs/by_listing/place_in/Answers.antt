use Rattle.std.proofs.Common.{◌≡◌, ◌<◌, length, subst, arith}
use Rattle.std.specs.List.{insert}
use Rattle.zdd_families.specs.inner.Unions.{with_number}
use Rattle.family_renaming.proofs.Puts.{put_there, put_new}
use Rattle.family_renaming.proofs.by_listing.place_in.Goals as goal

pub returns-then-number-set-clause-none : goal.returns-then-number-set-clause-none
returns-then-number-set-clause-none c = put_there c.args.number c.args.set.now c.loop-place.place c.loop-place.invariant c.loop-place-test.true c.if-number-set.true

pub returns-then-number-set-2-clause-some : goal.returns-then-number-set-2-clause-some
returns-then-number-set-2-clause-some c =
    let inside : c.loop-place.place < length c.args.set.now = c.loop-place-test.true in
    put_new c.args.number c.args.set.now c.loop-place.place c.loop-place.invariant (omega arith) (λ h. c.if-number-set-2.true)

pub returns-clause-some : goal.returns-clause-some
returns-clause-some c =
    let last : c.loop-place.place ≡ length c.args.set.now = omega (arith, c.loop-place-test.false, c.loop-place.auto.place-end) in
    subst (λ p. insert c.args.set.now p c.args.number ≡ with_number c.args.number c.args.set.now) last
    (put_new c.args.number c.args.set.now c.loop-place.place c.loop-place.invariant (omega arith) (λ h. absurd (omega arith)))
