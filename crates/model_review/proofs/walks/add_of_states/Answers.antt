use Rattle.model_review.proofs.Adding.{below-step}
use Rattle.model_review.proofs.walks.add_of_states.Goals as goal

pub loop-state-preserved : goal.loop-state-preserved
loop-state-preserved g c =
    below-step (g.S.StateFinding.finding c.args.told.now c.args.view.now c.args.owner c.args.model.now) c.loop-state.state c.args.found.now c.loop-state.found c.tell.new.found c.loop-state.invariant c.in_ok-tell.ensures
