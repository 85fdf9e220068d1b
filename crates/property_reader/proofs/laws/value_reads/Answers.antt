use Rattle.property_reader.proofs.FieldLaws.{value-reads}
use Rattle.property_reader.proofs.laws.value_reads.Goals as goal

pub returns : goal.returns
returns c = value-reads
