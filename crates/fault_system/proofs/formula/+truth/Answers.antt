use Rattle.fault_system.proofs.TruthLaws.{truth-all, truth-any}
use Rattle.fault_system.proofs.formula.+truth.Goals as goal

pub Formula::is_true-returns-in-And : goal.Formula::is_true-returns-in-And
Formula::is_true-returns-in-And g t c =
    truth-all _ _ _ _ _ _ _ c.in-And.is c.items-in-And.ensures.items c.items.ensures.items c.are_true.ensures

pub Formula::is_true-returns-in-Or : goal.Formula::is_true-returns-in-Or
Formula::is_true-returns-in-Or g t c =
    truth-any _ _ _ _ _ _ c.in-Or.is c.items-in-Or.ensures.items c.are_true-in-Or.ensures
