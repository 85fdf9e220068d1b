use Rattle.std.proofs.Common.{◌∙◌, Bool, List, ap, sym}
use Rattle.std.proofs.lemmas.Bool.{false≢true}
use Rattle.fault_system.specs.Truth.{member}
use Rattle.fault_system.proofs.NumberSets.{member-replicate}
use Rattle.fmea_rows.proofs.passing.Passed.none.Goals as goal

pub returns : goal.returns
returns c = λ system effects event h. absurd (false≢true (sym (ap (λ (bs : List Bool). member bs event) c.in_ok-new.ensures ∙ member-replicate c.args.events event) ∙ h))
