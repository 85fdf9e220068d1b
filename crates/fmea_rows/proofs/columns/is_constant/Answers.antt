use Rattle.std.proofs.Common.{◌∙◌, sym}
use Rattle.fault_system.specs.Truth.{member}
use Rattle.fmea_rows.proofs.ColumnLaws.{constant-made}
use Rattle.fmea_rows.proofs.columns.is_constant.Goals as goal

pub returns-in-Some : goal.returns-in-Some
returns-in-Some c = λ yes.
    constant-made c.args.system.now c.args.number c.in-Some.fact.now (member c.args.no_event.now) (member c.args.no_fact.now) (sym c.in-Some.ensures) c.requires.no_event c.requires.no_fact (sym c.is_true.ensures ∙ yes)
