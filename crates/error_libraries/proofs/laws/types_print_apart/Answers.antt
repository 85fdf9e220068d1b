use Rattle.error_libraries.proofs.PrintedLaws.{print-apart}
use Rattle.error_libraries.proofs.laws.types_print_apart.Goals as goal

pub returns : goal.returns
returns c = print-apart
