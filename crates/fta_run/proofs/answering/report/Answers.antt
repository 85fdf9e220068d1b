use Rattle.std.proofs.Common.{inl, inr}
use Rattle.phases.proofs.Steps.{exits}
use Rattle.fta_run.proofs.Ran.{told_later}
use Rattle.fta_run.proofs.answering.report.Goals as goal

pub returns-in_err-model-clause-text : goal.returns-in_err-model-clause-text
returns-in_err-model-clause-text g c =
    exits _ _ _ _ _ c.from_residual.ensures.1 (elim c.in_err-model.ensures.meets [ inl stops ↦ inl (record { stopped = inl stops.stopped }) | inr memory ↦ inr (inl memory) ])

pub returns-in_err-text-clause-text : goal.returns-in_err-text-clause-text
returns-in_err-text-clause-text g c = exits _ _ _ _ _ c.from_residual-in_err-text.ensures.1 (told_later _ _ _ _ c.in_ok-model.model c.in_err-text.field-0.0 c.in_ok-model.ensures.meets c.in_err-text.ensures.text)
