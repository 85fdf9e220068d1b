use Rattle.composite_states.specs.Below.{variant_cause}
use Rattle.composite_states.proofs.OtherLaws.{others-more}
use Rattle.composite_states.proofs.below.in_others.Goals as goal

pub loop-number-preserved : goal.loop-number-preserved
loop-number-preserved c = others-more (variant_cause c.args.path.now) c.args.held.now c.loop-number.number c.loop-number.parts _ c.loop-number.invariant c.in_ok-add_other.ensures
