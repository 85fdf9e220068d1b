use Rattle.std.proofs.Common.{sym, subst}
use Rattle.cutset_engine.specs.inner.Families.{HasMinimalCutSets}
use Rattle.cutset_engine.proofs.families.family_within.Goals as goal

pub returns-clause-exact : goal.returns-clause-exact
returns-clause-exact c =
    subst (HasMinimalCutSets c.args.asked.now.system.now c.args.asked.now.slice.now.target c.args.asked.now.most) (sym c.in_ok-answer.ensures.family) c.in_ok-made.ensures.exact
