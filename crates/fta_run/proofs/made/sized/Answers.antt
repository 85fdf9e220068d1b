use Rattle.std.proofs.Common.{◌⊎◌, subst}
use Rattle.phases.specs.Phases.{Passes, Stops}
use Rattle.phases.specs.inner.Meets.{IsMemory}
use Rattle.phases.proofs.Steps.{◌beyond◌, ◌passes◌, ends, exits}
use Rattle.system_answers.specs.Texts.{target_of}
use Rattle.fta_run.specs.Due.{sized_page}
use Rattle.fta_run.specs.inner.Ready.{held_text}
use Rattle.fta_run.proofs.made.sized.Goals as goal

pub returns-in_err-number : goal.returns-in_err-number
returns-in_err-number c =
    let status = c.in_err-number.field-0.0 in
    let its = subst (λ name. Stops (target_of name c.args.model.system) status ⊎ IsMemory status) c.in_ok-target.ensures c.in_err-number.ensures in
    exits _ _ _ _ _ c.from_residual-in_err-number.ensures.1 (ends its)

pub returns-in_err-part : goal.returns-in_err-part
returns-in_err-part c =
    let named = subst (λ name. Passes (target_of name c.args.model.system) c.in_ok-number.number) c.in_ok-target.ensures c.in_ok-number.ensures in
    exits _ _ _ _ _ c.from_residual-in_err-part.ensures.1 (named beyond ends c.in_err-part.ensures)

pub returns : goal.returns
returns c =
    let named = subst (λ name. Passes (target_of name c.args.model.system) c.in_ok-number.number) c.in_ok-target.ensures c.in_ok-number.ensures in
    let page = subst (λ number. Passes (sized_page number c.args.model) (held_text c.in_ok-sized_page.field-0)) c.in_ok-part.ensures.passed.is_slice.target_is c.in_ok-sized_page.ensures in
    named passes c.in_ok-part.ensures passes page
