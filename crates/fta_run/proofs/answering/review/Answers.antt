use Rattle.std.proofs.Common.{List, ℕ, ◌∙◌, ap}
use Rattle.phases.proofs.Steps.{◌passes◌, ends, exits}
use Rattle.finding_lines.specs.Text.{review_text}
use Rattle.fta_run.proofs.answering.review.Goals as goal

pub returns-in_err-reviewed : goal.returns-in_err-reviewed
returns-in_err-reviewed c = exits _ _ _ _ _ c.from_residual.ensures.1 (ends c.in_err-reviewed.ensures)

pub returns : goal.returns
returns c =
    c.in_ok-reviewed.ensures passes record { passed = c.in_ok-text.ensures ∙ ap (λ (texts : List (List ℕ)). review_text c.args.names.now texts c.in_ok-reviewed.reviewed.lines) c.items.ensures.items }
