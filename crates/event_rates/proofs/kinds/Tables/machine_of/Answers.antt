use Rattle.std.proofs.Common.{ap, ◌∙◌}
use Rattle.error_models.specs.Below.{machine_of}
use Rattle.instantiator.specs.Whole.{effective_in}
use Rattle.event_rates.specs.inner.Listed.{associations_in}
use Rattle.event_rates.proofs.TableLaws.{associations-of}
use Rattle.event_rates.proofs.kinds.Tables.machine_of.Goals as goal

pub returns : goal.returns
returns c =
    let its = c.args.self.now in
    ap associations_in c.machine_table.ensures ∙ associations-of its.profile (machine_of its.instance.packages (effective_in its.instance c.args.component))
