use Rattle.galileo_reader.proofs.WrittenSets.{listing-again, name-again}
use Rattle.galileo_reader.proofs.WrittenTruth.{text-holds}
use Rattle.galileo_reader.proofs.laws.written_tree.Goals as goal

pub returns-clause-truth : goal.returns-clause-truth
returns-clause-truth c = text-holds

pub returns-clause-listing : goal.returns-clause-listing
returns-clause-listing c = λ system target tree rates most sets is_system names is. listing-again system is_system names target tree is rates most sets

pub returns-clause-names : goal.returns-clause-names
returns-clause-names c = λ system target tree rates place is_system names is. name-again system is_system names target tree is rates place
