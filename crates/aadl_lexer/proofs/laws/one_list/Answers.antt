use Rattle.aadl_lexer.proofs.Single.{one_list}
use Rattle.aadl_lexer.proofs.laws.one_list.Goals as goal

pub returns : goal.returns
returns c = one_list
