use Rattle.fault_system.proofs.TruthLaws.{truth-all, truth-any}
use Rattle.system_review.proofs.alone.+truth.Goals as goal

pub is_true_over-returns-in-And : goal.is_true_over-returns-in-And
is_true_over-returns-in-And g t c =
    truth-all _ _ _ _ _ _ _ c.in-And.is c.items-in-And.ensures.items c.items.ensures.items c.are_true.ensures

pub is_true_over-returns-in-Or : goal.is_true_over-returns-in-Or
is_true_over-returns-in-Or g t c =
    truth-any _ _ _ _ _ _ c.in-Or.is c.items-in-Or.ensures.items c.are_true-in-Or.ensures
