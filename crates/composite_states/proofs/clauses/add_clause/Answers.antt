use Rattle.std.proofs.Common.{◌≡◌, ◌&&◌, is_none, ap, ◌∙◌}
use Rattle.std.proofs.lemmas.Result.{on_ok_weaker}
use Rattle.noted_refusals.specs.inner.Noted.{noting}
use Rattle.plain_values.specs.declared.refusal.Code.TheVariants.{Others}
use Rattle.plain_values.specs.Refusal.{refused_so}
use Rattle.profiles.specs.Profiles.{is_first}
use Rattle.noted_refusals.proofs.Laws.{noted-three}
use Rattle.propagation_points.specs.Settings.{state_refusals_in}
use Rattle.propagation_points.specs.States.{place_of_sort}
use Rattle.composite_states.specs.Composites.{is_not_initial, others_refusals, perhaps_refusals}
use Rattle.composite_states.proofs.clauses.add_clause.Goals as goal

pub returns-clause-noted : goal.returns-clause-noted
returns-clause-noted g c =
    let place = c.args.place.now in
    let below = g.B.StatesBelow.states_at place.below in
    let table = c.args.reading.now.types in
    let composite = c.args.composite.now in
    let setting : c.place.inside.setting ≡ place.setting = ap (λ p. p.setting) c.place.view_is in
    let same : c.condition_of.new.reading.types ≡ table = c.in_ok-condition.ensures.kept in
    let initial = c.args.around.now.states.now.initial in
    let profile : c.profile-profile.result ≡ table.profile = c.profile-profile.ensures ∙ ap (λ types. types.profile) (c.in_ok-held.ensures.kept ∙ same) in
    let noted = noted-three c.args.reading.now.refusals c.condition_of.new.reading.refusals c.refer.new.reading.refusals (perhaps_refusals below place.setting table composite.condition) (state_refusals_in table place.setting composite.target)
    c.in_ok-condition.ensures.noted
    (c.in_ok-held.ensures.noted ∙ (λ i. noting c.condition_of.new.reading.refusals (state_refusals_in (same i) (setting i) composite.target)))
    c.note_others.new.refusals (others_refusals table.profile place.setting.states initial composite)
    (c.note_others.ensures
    ∙ (λ i. noting c.refer.new.reading.refusals (refused_so (is_first (profile i) && (is_none composite.condition && is_not_initial (c.items-initial.ensures.items i) ((c.place-target.ensures ∙ ap (λ each. place_of_sort each.states composite.target.name) setting) i))) Others composite.spot))) in
    on_ok_weaker _ (λ _. noted) c.add_meaning.ensures
