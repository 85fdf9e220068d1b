use Rattle.std.proofs.Common.{List, Bor, map, sym, ap, ◌∙◌, subst}
use Rattle.phases.specs.Phases.{tests}
use Rattle.phases.specs.inner.Stopped.{status_of}
use Rattle.plain_values.specs.inner.Stops.{StopsAt}
use Rattle.noted_refusals.specs.inner.Noted.{TellsFirst}
use Rattle.propagation_points.specs.Points.{Point}
use Rattle.propagation_links.specs.Links.{links_of}
use Rattle.propagation_links.specs.Refused.{links_group, links_refusal}
use Rattle.model_facts.specs.Assembly.{points_in}
use Rattle.model_phases.specs.Tests.{IsIt}
use Rattle.model_phases.proofs.Tested.{none_passes, one_stops, tests_stop}
use Rattle.model_phases.proofs.ToldLaws.{stop-told}
use Rattle.model_phases.proofs.flat.links_between.Goals as goal

pub returns-in_err-links_of-clause-tested : goal.returns-in_err-links_of-clause-tested
returns-in_err-links_of-clause-tested c =
    let instance = c.args.instance.now in
    let same = ap (map (λ (points : Bor (List Point)). points.now)) c.items-2.ensures.items ∙ c.in_ok-points.ensures ∙ ap points_in c.items.ensures.items in
    let one = links_refusal c.args.profile instance (points_in c.args.kinds.now.models) in
    let stop = c.in_err-links_of.field-0.0 in
    tests_stop (tests (IsIt one)) (status_of stop) c.from_residual-in_err-links_of.result c.from_residual-in_err-links_of.ensures.1
    (one_stops one stop (subst (λ points. StopsAt (links_refusal c.args.profile instance points) stop) same c.in_err-links_of.ensures.refused))

pub returns-clause-tested : goal.returns-clause-tested
returns-clause-tested c =
    let instance = c.args.instance.now in
    let same = ap (map (λ (points : Bor (List Point)). points.now)) c.items-2.ensures.items ∙ c.in_ok-points.ensures ∙ ap points_in c.items.ensures.items in
    none_passes (links_refusal c.args.profile instance (points_in c.args.kinds.now.models)) (ap (links_refusal c.args.profile instance) (sym same) ∙ c.in_ok-links_of.ensures.accepted)

pub returns-clause-links : goal.returns-clause-links
returns-clause-links c =
    let same = ap (map (λ (points : Bor (List Point)). points.now)) c.items-2.ensures.items ∙ c.in_ok-points.ensures ∙ ap points_in c.items.ensures.items in
    c.in_ok-links_of.ensures.links ∙ ap (links_of c.args.profile c.args.instance.now) same

pub returns-in_err-links_of-clause-told : goal.returns-in_err-links_of-clause-told
returns-in_err-links_of-clause-told c =
    let instance = c.args.instance.now in
    let same = ap (map (λ (points : Bor (List Point)). points.now)) c.items-2.ensures.items ∙ c.in_ok-points.ensures ∙ ap points_in c.items.ensures.items in
    let noted = c.links_of.new.refusals in
    let stop = c.in_err-links_of.field-0.0 in
    stop-told (links_group c.args.profile instance (points_in c.args.kinds.now.models)) noted stop c.from_residual-in_err-links_of.result c.from_residual-in_err-links_of.ensures.1
    (subst (λ points. TellsFirst (links_group c.args.profile instance points) noted stop) same c.in_err-links_of.ensures.told)
