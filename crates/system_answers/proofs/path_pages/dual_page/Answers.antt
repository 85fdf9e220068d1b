use Rattle.std.proofs.Common.{inl, inr}
use Rattle.phases.proofs.Steps.{exits}
use Rattle.system_answers.proofs.path_pages.dual_page.Goals as goal

pub returns-in_err-writer : goal.returns-in_err-writer
returns-in_err-writer c =
    exits _ _ _ _ _ c.from_residual.ensures.1 (elim c.in_err-writer.ensures.refused [ inl stops ↦ inl (record { stopped = inl stops.stopped }) | inr memory ↦ inr memory ])
