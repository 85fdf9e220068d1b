use Rattle.std.proofs.Common.{◌≡◌, ◌&&◌, Bool, sym, subst}
use Rattle.std.specs.Prelude.{IfOk}
use Rattle.error_flows.specs.declared.meaning.FlowMeaning.{FlowMeaning}
use Rattle.propagation_points.specs.Uses.{covers}
use Rattle.propagation_links.specs.declared.link.PointAt.{PointAt}
use Rattle.model_review.specs.Findings.{is_hidden_flow}
use Rattle.model_review.specs.Seen.{is_lost_fact, number_at}
use Rattle.model_review.proofs.flows.is_hidden.Goals as goal

pub returns-in-Carry : goal.returns-in-Carry
returns-in-Carry c =
    let seen = c.args.part.now.view.now in
    let among = c.args.part.now.states.now in
    subst (λ (f : FlowMeaning). IfOk c.is_lost_type.result (λ (hidden : Bool). hidden ≡ is_hidden_flow seen among c.args.part.now.owner c.args.number c.args.kind c.args.target f)) (sym c.in-Carry.is)
    (subst (λ (s : PointAt). IfOk c.is_lost_type.result (λ (hidden : Bool). hidden ≡ (covers c.in-Carry.start.types c.args.kind && is_lost_fact seen among c.args.target (number_at seen s c.args.kind)))) c.inward_of-side.ensures c.is_lost_type.ensures)
