use Rattle.hazard_values.proofs.ValueLaws.{list-reads}
use Rattle.hazard_values.proofs.laws.list_reads.Goals as goal

pub returns : goal.returns
returns c = list-reads
