use Rattle.std.proofs.Common.{refl, arith}
use Rattle.std.proofs.lemmas.Bool.{false≢true}
use Rattle.family_renaming.proofs.Own.{names_own, own_at}
use Rattle.family_renaming.proofs.event_order.names_itself.Goals as goal

pub returns-then-names-place : goal.returns-then-names-place
returns-then-names-place c = ((λ e. absurd (false≢true e)), (λ own. absurd (c.if-names-place.true (own_at c.args.names.now c.loop-place.place own c.loop-place-test.true))))

pub returns : goal.returns
returns c = ((λ e. names_own c.args.names.now (λ k h. c.loop-place.invariant k (omega (arith, c.loop-place-test.false)))), (λ own. refl))
