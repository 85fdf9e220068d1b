use Rattle.std.proofs.Common.{◌<◌, ◌∙◌, replicate, false, ap, sym, arith}
use Rattle.round_gates.proofs.Growing.{always, never}
use Rattle.round_gates.proofs.constants.constant.Goals as goal

pub returns-then-branch : goal.returns-then-branch
returns-then-branch c =
    always c.args.system.now c.args.target c.in_ok-none.none (c.in_ok-none.ensures ∙ ap (λ n. replicate n false) c.events.ensures.count)
    (sym c.in_ok-makes_hold.ensures ∙ c.if-branch.true)

pub returns-then-not-branch : goal.returns-then-not-branch
returns-then-not-branch c =
    never c.args.system.now c.args.target c.in_ok-all.all
    (λ n h. let inside : n < c.events-2.result = omega (arith, c.events-2.ensures.count) in c.in_ok-all.ensures.all n inside)
    (sym c.in_ok-makes_hold-2.ensures ∙ c.if-not-branch.true)
