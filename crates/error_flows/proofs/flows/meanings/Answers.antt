use Rattle.std.proofs.Common.{◌≡◌, ◌++◌, [], option_to_list, ap, ◌∙◌}
use Rattle.noted_refusals.specs.inner.Noted.{noting}
use Rattle.package_index.proofs.Loops.{gathered-more}
use Rattle.noted_refusals.proofs.Loops.{noting-more}
use Rattle.propagation_points.specs.Settings.{clause_setting}
use Rattle.error_flows.specs.Flows.{flow_refusals, flow_meaning, taken_by}
use Rattle.error_flows.proofs.flows.meanings.Goals as goal

pub loop-flow-preserved : goal.loop-flow-preserved
loop-flow-preserved c =
    let flow = c.flow-item.result in
    let kept : c.loop-flow.reading.types ≡ c.args.reading.now.types = c.loop-flow.invariant.kept in
    let setting = clause_setting c.args.points.now c.args.states.now c.args.scopes.now in
    let here : c.of_clause-setting.result ≡ setting flow.scope = c.of_clause-setting.ensures ∙ ap setting c.scope.ensures in
    record {
      kept = c.in_ok-add_flow.ensures.kept ∙ kept;
      flows = gathered-more c.args.flows.now c.loop-flow.flow-index flow c.loop-flow-test.true c.flow-item.is (λ each. option_to_list (flow_meaning c.args.reading.now.types (setting each.scope) each.item.name each.item.kind)) [] c.loop-flow.found.meanings _ c.loop-flow.invariant.flows
          (c.in_ok-add_flow.ensures.found ∙ (λ i. c.loop-flow.found.meanings ++ option_to_list (flow_meaning (kept i) (here i) (c.item.ensures i).name (c.item.ensures i).kind)));
      sinks = gathered-more c.args.flows.now c.loop-flow.flow-index flow c.loop-flow-test.true c.flow-item.is (λ each. option_to_list (taken_by c.args.reading.now.types (setting each.scope) each.item.kind)) [] c.loop-flow.found.sinks _ c.loop-flow.invariant.sinks
          (c.in_ok-add_flow.ensures.sinks ∙ (λ i. c.loop-flow.found.sinks ++ option_to_list (taken_by (kept i) (here i) (c.item.ensures i).kind)));
      first = noting-more c.args.flows.now c.loop-flow.flow-index flow c.loop-flow-test.true c.flow-item.is (λ each. flow_refusals c.args.reading.now.types (setting each.scope) each.item.kind) c.loop-flow.reading.refusals _ _
          (c.in_ok-add_flow.ensures.noted ∙ (λ i. noting c.loop-flow.reading.refusals (flow_refusals (kept i) (here i) (c.item.ensures i).kind))) c.loop-flow.invariant.first;
    }
