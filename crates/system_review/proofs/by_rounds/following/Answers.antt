use Rattle.std.proofs.Common.{ℕ, List, [], ◌∷◌, ◌++◌, ap, ◌∙◌, arith}
use Rattle.fault_system.specs.Truth.{set_of}
use Rattle.system_review.proofs.Following.{following-end, following-first, following-next}
use Rattle.system_review.proofs.by_rounds.following.Goals as goal

pub loop-round-init : goal.loop-round-init
loop-round-init c = following-first c.args.cause c.push.new.self (c.in_ok-push.ensures.ok ∙ ap (λ (ns : List ℕ). ns ++ c.args.cause ∷ []) c.new-found.ensures)

pub loop-round-preserved : goal.loop-round-preserved
loop-round-preserved c = following-next c.args.system.now c.args.among.now c.args.cause c.loop-round.round (set_of c.loop-round.found) (set_of c.add_next.new.found) c.loop-round.invariant c.in_ok-add_next.ensures.next

pub returns-then-not-branch : goal.returns-then-not-branch
returns-then-not-branch c =
    following-end c.args.system.now c.args.among.now c.args.cause c.loop-round.round (set_of c.loop-round.found) (set_of c.add_next.new.found) c.loop-round.invariant c.in_ok-add_next.ensures.next (c.in_ok-add_next.ensures.none c.if-not-branch.true) (omega (arith, c.loop-round-test.true))
