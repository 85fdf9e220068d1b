use Rattle.std.proofs.Common.{ℕ, List, Option, subst}
use Rattle.phases.specs.Phases.{Passes}
use Rattle.phases.proofs.Steps.{◌beyond◌, ◌passes◌, ends, exits}
use Rattle.system_answers.specs.Texts.{named_key, page_of}
use Rattle.system_answers.proofs.Begins.{begin_events}
use Rattle.system_answers.proofs.answers.cuts.Goals as goal

pub returns-in_err-part : goal.returns-in_err-part
returns-in_err-part c = exits _ _ _ _ _ c.from_residual-in_err-part.ensures.1 (c.in_ok-number.ensures beyond c.in_ok-start.ensures beyond ends c.in_err-part.ensures)

pub returns : goal.returns
returns c =
    let page = named_key c.args.tokens c.args.key.now in
    let named = subst (λ (digits : Option (List ℕ)). Passes (page_of c.in_ok-part.part.target c.in_ok-start.start c.args.paging.now digits c.args.system) c.in_ok-page.field-0) c.named_key-digits.ensures c.in_ok-page.ensures in
    let its = subst (λ target. Passes (page_of target c.in_ok-start.start c.args.paging.now page c.args.system) c.in_ok-page.field-0) c.in_ok-part.ensures.passed.is_slice.target_is named in
    c.in_ok-number.ensures passes c.in_ok-start.ensures passes c.in_ok-part.ensures passes its

pub page-requires-clause-start : goal.page-requires-clause-start
page-requires-clause-start c = begin_events c.args.key.now c.args.paging.now.after c.args.system c.in_ok-start.start c.in_ok-start.ensures
