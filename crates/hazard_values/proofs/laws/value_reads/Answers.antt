use Rattle.hazard_values.proofs.ValueLaws.{value-reads}
use Rattle.hazard_values.proofs.laws.value_reads.Goals as goal

pub returns : goal.returns
returns c = value-reads
