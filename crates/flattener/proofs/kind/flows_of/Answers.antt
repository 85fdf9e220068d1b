use Rattle.std.proofs.Common.{ap, sym, ◌∙◌, ◌++◌, ◌+◌, ◌≤◌, List, length, take, subst}
use Rattle.std.proofs.lemmas.List.{take_all}
use Rattle.plain_values.specs.Numbered.{numbered_from}
use Rattle.package_index.proofs.Loops.{numbered-more}
use Rattle.error_flows.specs.declared.meaning.FlowMeaning.{FlowMeaning}
use Rattle.fact_formulas.specs.Formulas.{FlowAt, flow_at}
use Rattle.flattener.proofs.kind.flows_of.Goals as goal

pub loop-number-preserved : goal.loop-number-preserved
loop-number-preserved c = λ point.
    let more = numbered-more (flow_at point) c.items-flow-items.result.now c.loop-number.number c.flow-item.result c.loop-number-test.true c.flow-item.is in
    let same = ap (λ (flows : List FlowMeaning). numbered_from (flow_at point) 0 (take (c.loop-number.number + 1) flows)) c.items-flow-items.ensures.items in
    let front = ap (λ (flows : List FlowMeaning). numbered_from (flow_at point) 0 (take c.loop-number.number flows)) (sym c.items-flow-items.ensures.items) in
    c.in_ok-add_flow.ensures point ∙ ap (λ (front : List FlowAt). front ++ flow_at point c.loop-number.number c.flow-item.result) (c.loop-number.invariant point ∙ front) ∙ sym more ∙ same

pub returns : goal.returns
returns c = λ point.
    let past : length c.args.flows.now ≤ c.loop-number.number = subst (λ (flows : List FlowMeaning). length flows ≤ c.loop-number.number) c.items-flow-items.ensures.items c.loop-number-test.false in
    c.loop-number.invariant point ∙ ap (numbered_from (flow_at point) 0) (take_all c.loop-number.number c.args.flows.now past)
