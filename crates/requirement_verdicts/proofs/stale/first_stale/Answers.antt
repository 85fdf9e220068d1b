use Rattle.std.proofs.Common.{sym, subst, ◌∙◌}
use Rattle.std.proofs.lemmas.Bool.{false≢true}
use Rattle.requirement_verdicts.specs.Meanings.{IsFresh}
use Rattle.requirement_verdicts.proofs.Staling.{all-more, stale-here}
use Rattle.requirement_verdicts.proofs.stale.first_stale.Goals as goal

pub returns-then-not-branch : goal.returns-then-not-branch
returns-then-not-branch c =
    let Fresh = IsFresh c.args.system.now c.args.target c.args.least in
    stale-here c.args.system.now c.args.target c.args.least c.args.except.now c.loop-set.set-index c.set-item.result c.in_ok-numbers_again.field-0 c.loop-set-test.true c.set-item.is
    (c.in_ok-numbers_again.ensures ∙ c.items-then-not-branch.ensures.items) c.loop-set.invariant
    (λ fresh. false≢true (sym c.if-not-branch.true ∙ c.in_ok-is_fresh.ensures.1 (subst Fresh (sym c.items.ensures.items) fresh)))

pub loop-set-preserved : goal.loop-set-preserved
loop-set-preserved c =
    let Fresh = IsFresh c.args.system.now c.args.target c.args.least in
    all-more Fresh c.args.except.now c.loop-set.set-index c.set-item.result c.loop-set-test.true c.set-item.is c.loop-set.invariant
    (subst Fresh c.items.ensures.items (c.in_ok-is_fresh.ensures.0 c.if-not-branch.false))
