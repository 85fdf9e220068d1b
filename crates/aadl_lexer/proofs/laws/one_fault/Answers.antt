use Rattle.aadl_lexer.proofs.Single.{list_or_fault, one_fault}
use Rattle.aadl_lexer.proofs.laws.one_fault.Goals as goal

pub returns : goal.returns
returns c = record { none = list_or_fault; one = one_fault }
