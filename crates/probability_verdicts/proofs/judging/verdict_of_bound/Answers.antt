use Rattle.std.proofs.Common.{refl, sym, ◌∙◌}
use Rattle.std.proofs.lemmas.Bool.{false≢true}
use Rattle.probability_verdicts.proofs.judging.verdict_of_bound.Goals as goal

pub returns-then-is_at_most : goal.returns-then-is_at_most
returns-then-is_at_most c = c.is_at_most.ensures.0 c.if-is_at_most.true

pub returns : goal.returns
returns c = ((λ at. false≢true (sym c.if-is_at_most.false ∙ c.is_at_most.ensures.1 at)), c.in_ok-text.ensures, refl)
