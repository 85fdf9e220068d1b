use Rattle.fault_system.proofs.Untouched.{changed_table as law, checked_changed}
use Rattle.fault_system.proofs.laws.checked_table.Goals as goal

pub returns : goal.returns
returns c = λ system event old new changes table checked. law system event old new table (checked_changed system event old new changes checked)
