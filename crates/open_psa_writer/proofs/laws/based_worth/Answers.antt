use Rattle.std.proofs.Common.{codes, filter}
use Rattle.aadl_syntax.specs.Form.{is_hexadecimal}
use Rattle.open_psa_writer.specs.Mef.{Figures}
use Rattle.open_psa_writer.proofs.BasedWorth.{filter-all, worth-is}
use Rattle.open_psa_writer.proofs.laws.based_worth.Goals as goal

pub returns : goal.returns
returns c = λ base text. worth-is base (Figures (codes "0")) (filter is_hexadecimal text) (filter-all is_hexadecimal text)
