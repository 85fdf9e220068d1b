use Rattle.grammar_rules.proofs.Texts.{reads_once}
use Rattle.aadl_parser.specs.Packages.{file_units}
use Rattle.aadl_parser.proofs.text.one_file.Goals as goal

pub returns : goal.returns
returns c = λ file tokens value other r s. (reads_once file file_units tokens value other _ _ r s).0
