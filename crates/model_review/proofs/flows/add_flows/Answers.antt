use Rattle.model_review.specs.Findings.{hidden_flow}
use Rattle.model_review.proofs.Adding.{numbered-end, numbered-step}
use Rattle.model_review.proofs.flows.add_flows.Goals as goal

pub loop-number-preserved : goal.loop-number-preserved
loop-number-preserved c =
    numbered-step (hidden_flow c.args.paths c.args.part.now.view.now c.args.part.now.states.now c.args.part.now.owner) c.args.flows.now c.loop-number.number c.args.found.now c.loop-number.found c.loop-number.invariant c.index-flows-number.result c.loop-number-test.true c.index-flows-number.is c.add_flow.new.found c.in_ok-add_flow.ensures

pub returns : goal.returns
returns c = numbered-end (hidden_flow c.args.paths c.args.part.now.view.now c.args.part.now.states.now c.args.part.now.owner) c.args.flows.now c.loop-number.number c.args.found.now c.loop-number.found c.loop-number.invariant c.loop-number-test.false
