use Rattle.std.proofs.Common.{◌⊎◌, List, subst, sym}
use Rattle.phases.specs.Phases.{Stops}
use Rattle.phases.specs.inner.Meets.{IsMemory}
use Rattle.phases.specs.declared.status.Status.{Status}
use Rattle.property_reader.specs.declared.rate.Rate.{Rate}
use Rattle.requirement_lines.specs.declared.told.LineForm.{LineForm}
use Rattle.requirement_lines.specs.inner.Judged.{IsRefusedFor, TellsRequirements}
use Rattle.fta_run.specs.Required.{line_form, required_text}
use Rattle.fta_run.proofs.RequiredLaws.{refused-stops, told-passes}
use Rattle.fta_run.proofs.required.told_over.Goals as goal

pub returns-in-Ok : goal.returns-in-Ok
returns-in-Ok c =
    let model = c.args.model.now in
    let text = c.args.text.now in
    let formed = subst (λ (form : LineForm). TellsRequirements model.system c.items.result.now text form c.in-Ok.told) c.line_form.ensures c.in-Ok.ensures.told in
    told-passes model.system model.rates text c.args.tap c.in-Ok.told (subst (λ (rates : List Rate). TellsRequirements model.system rates text (line_form c.args.tap) c.in-Ok.told) c.items.ensures.items formed)

pub returns-in-Err : goal.returns-in-Err
returns-in-Err c =
    let model = c.args.model.now in
    let text = c.args.text.now in
    let why = subst (λ (rates : List Rate). IsRefusedFor model.system rates text c.in-Err.fault) c.items.ensures.items c.in-Err.ensures.refused in
    subst (λ (status : Status). Stops (required_text c.args.tap text model.system model.rates) status ⊎ IsMemory status) (sym c.status_of.ensures)
    (refused-stops model.system model.rates text c.args.tap c.in-Err.fault why)
