use Rattle.std.proofs.Common.{◌⊎◌, List, ℕ, subst}
use Rattle.phases.specs.Phases.{Passes, Stops}
use Rattle.phases.specs.inner.Meets.{IsMemory}
use Rattle.phases.proofs.Steps.{exits}
use Rattle.system_answers.specs.Texts.{drawn_text}
use Rattle.system_answers.specs.inner.Forms.{tree_bytes}
use Rattle.fta_run.specs.Due.{first_text}
use Rattle.fta_run.proofs.answering.picture.Goals as goal

pub returns-in_err-text : goal.returns-in_err-text
returns-in_err-text c =
    let status = c.in_err-text.field-0.0 in
    let read = subst (λ (text : List ℕ). Stops (drawn_text c.args.wide c.args.exchanged c.args.merged c.in_ok-legend.legend text) status ⊎ IsMemory status) c.first.ensures.text c.in_err-text.ensures in
    let its = subst (λ (legend : List (List ℕ)). Stops (drawn_text c.args.wide c.args.exchanged c.args.merged legend (first_text c.args.texts)) status ⊎ IsMemory status) c.in_ok-legend.ensures read in
    exits _ _ _ _ _ c.from_residual-in_err-text.ensures.1 its

pub returns : goal.returns
returns c =
    let read = subst (λ (text : List ℕ). Passes (drawn_text c.args.wide c.args.exchanged c.args.merged c.in_ok-legend.legend text) (tree_bytes c.in_ok-text.text)) c.first.ensures.text c.in_ok-text.ensures in
    subst (λ (legend : List (List ℕ)). Passes (drawn_text c.args.wide c.args.exchanged c.args.merged legend (first_text c.args.texts)) (tree_bytes c.in_ok-text.text)) c.in_ok-legend.ensures read
