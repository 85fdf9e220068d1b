use Rattle.std.proofs.Common.{ap, ◌∙◌}
use Rattle.fact_formulas.specs.Numbered.{Numbered}
use Rattle.fact_formulas.specs.Facts.{linked_from}
use Rattle.flattener.proofs.numbers.Numbers.linked_from.Goals as goal

pub returns : goal.returns
returns c = c.at.ensures ∙ c.self.invariant.1 (c.args.side.component, c.args.side.point, c.args.side.outward) ∙ ap (λ (numbered : Numbered). linked_from c.args.side numbered.assembly.links) c.self.view_is
