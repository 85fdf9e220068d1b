use Rattle.std.proofs.Common.{sym, ◌∙◌}
use Rattle.aadl_parser.proofs.TwoNames.{some_names}
use Rattle.aadl_parser.proofs.aliases.last_alias.Goals as goal

pub returns-in_default : goal.returns-in_default
returns-in_default c = absurd (some_names c.in_ok-names.ensures (sym c.items.ensures.items ∙ (rw c.in_default.is at c.in_ok-name.ensures)))
