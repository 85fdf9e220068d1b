use Rattle.std.proofs.Common.{subst}
use Rattle.phases.specs.Phases.{Passes}
use Rattle.fta_run.specs.Due.{refusals_in}
use Rattle.fta_run.proofs.answering.refusals.Goals as goal

pub returns : goal.returns
returns c = subst (λ texts. Passes (refusals_in c.args.profile c.args.root.now c.args.names.now texts) c.in_ok-text.text.items) c.items.ensures.items (record { passed = c.in_ok-text.ensures })
