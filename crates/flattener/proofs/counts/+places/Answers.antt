use Rattle.std.proofs.Common.{ap, sym, ◌∙◌, map, List}
use Rattle.error_conditions.specs.declared.cause.Cause.{Cause}
use Rattle.fact_formulas.specs.Flat.{places}
use Rattle.fact_formulas.specs.Formulas.{cause_formula}
use Rattle.flattener.specs.inner.Tables.{capped, places_of}
use Rattle.flattener.proofs.Caps.{one-of}
use Rattle.flattener.proofs.Places.{cause-all, cause-any, cause-atleast, cause-event, cause-state}
use Rattle.flattener.proofs.counts.+places.Goals as goal

pub cause_places-returns-in-Event : goal.cause_places-returns-in-Event
cause_places-returns-in-Event t c = one-of _ (ap (λ cause. places (cause_formula c.args.site.now cause)) c.in-Event.is ∙ cause-event c.args.site.now c.in-Event.field-0)

pub cause_places-returns-in-State : goal.cause_places-returns-in-State
cause_places-returns-in-State t c = one-of _ (ap (λ cause. places (cause_formula c.args.site.now cause)) c.in-State.is ∙ cause-state c.args.site.now c.in-State.field-0)

pub cause_places-returns-in-All : goal.cause_places-returns-in-All
cause_places-returns-in-All t c =
    let site = c.args.site.now in
    let same = ap (λ cause. places (cause_formula site cause)) c.in-All.is ∙ cause-all site c.in-All.parts in
    c.one_more.ensures _ (c.causes_places.ensures ∙ ap (λ (parts : List Cause). capped (places_of (map (cause_formula site) parts))) c.items.ensures.items) ∙ ap capped (sym same)

pub cause_places-returns-in-Any : goal.cause_places-returns-in-Any
cause_places-returns-in-Any t c =
    let site = c.args.site.now in
    let same = ap (λ cause. places (cause_formula site cause)) c.in-Any.is ∙ cause-any site c.in-Any.parts in
    c.one_more-in-Any.ensures _ (c.causes_places-in-Any.ensures ∙ ap (λ (parts : List Cause). capped (places_of (map (cause_formula site) parts))) c.items-in-Any.ensures.items) ∙ ap capped (sym same)

pub cause_places-returns-in-AtLeast : goal.cause_places-returns-in-AtLeast
cause_places-returns-in-AtLeast t c =
    let site = c.args.site.now in
    let same = ap (λ cause. places (cause_formula site cause)) c.in-AtLeast.is ∙ cause-atleast site c.in-AtLeast.field-0 c.in-AtLeast.parts in
    c.one_more-in-AtLeast.ensures _ (c.causes_places-in-AtLeast.ensures ∙ ap (λ (parts : List Cause). capped (places_of (map (cause_formula site) parts))) c.items-in-AtLeast.ensures.items) ∙ ap capped (sym same)
