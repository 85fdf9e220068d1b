use Rattle.std.proofs.Common.{◌++◌, ◌∷◌, [], ap, ◌∙◌, sym}
use Rattle.fault_system.proofs.Orders.{pages_join}
use Rattle.fault_system.proofs.laws.join.Goals as goal

pub returns : goal.returns
returns c = λ sets after limit front last rest all more ended both o page later whole.
    ap (λ xs. (front ++ last ∷ []) ++ xs) later.page_is ∙ pages_join sets after limit front last o page.page_is ∙ sym whole.page_is
