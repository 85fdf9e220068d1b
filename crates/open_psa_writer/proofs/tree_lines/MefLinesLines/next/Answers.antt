use Rattle.std.proofs.Common.{ap, ◌∙◌, sym}
use Rattle.open_psa_writer.specs.inner.TreeMef.{text_left}
use Rattle.open_psa_writer.proofs.tree_lines.MefLinesLines.next.Goals as goal

pub returns-in_ok-put_front-in-Start-clause-line : goal.returns-in_ok-put_front-in-Start-clause-line
returns-in_ok-put_front-in-Start-clause-line c = λ more.
    sym c.self.view_is
    ∙ ap (λ place. text_left c.self.inside.system c.self.inside.tree c.self.inside.rates place) c.in-Start.is
    ∙ c.in_ok-put_front-in-Start.ensures.line c.self.inside.rates
