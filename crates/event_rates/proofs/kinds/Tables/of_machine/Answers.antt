use Rattle.std.proofs.Common.{ap, ◌∙◌}
use Rattle.error_models.specs.Below.{machine_of}
use Rattle.instantiator.specs.Whole.{effective_in}
use Rattle.event_rates.specs.inner.Tables.{fitting_in}
use Rattle.event_rates.proofs.TableLaws.{fitting-of}
use Rattle.event_rates.proofs.kinds.Tables.of_machine.Goals as goal

pub returns : goal.returns
returns c =
    let its = c.args.self.now in
    c.fitting_in.ensures ∙ ap (fitting_in c.args.names.now) c.machine_table.ensures
    ∙ fitting-of its.profile c.args.names.now (machine_of its.instance.packages (effective_in its.instance c.args.component))
