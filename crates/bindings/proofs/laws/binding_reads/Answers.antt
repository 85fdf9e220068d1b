use Rattle.bindings.proofs.Reading.{binding-reads}
use Rattle.bindings.proofs.laws.binding_reads.Goals as goal

pub returns : goal.returns
returns c = binding-reads
