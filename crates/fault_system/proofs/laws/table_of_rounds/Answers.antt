use Rattle.fault_system.proofs.RoundLaws.{table-rounds, rounds-fit}
use Rattle.fault_system.proofs.laws.table_of_rounds.Goals as goal

pub returns : goal.returns
returns c = λ system events times. (table-rounds system events times, rounds-fit system events times)
