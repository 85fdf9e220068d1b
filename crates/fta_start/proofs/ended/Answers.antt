use Rattle.fta_start.proofs.ended.Goals as goal

pub returns-in-Done-clause-other : goal.returns-in-Done-clause-other
returns-in-Done-clause-other g c = λ is_other more. absurd (is_other c.in-Done.is)

pub returns-in-Unmet-clause-other : goal.returns-in-Unmet-clause-other
returns-in-Unmet-clause-other g c = λ is_other more. absurd (more c.in-Unmet.is)
