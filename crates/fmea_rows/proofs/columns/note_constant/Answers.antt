use Rattle.fmea_rows.proofs.ColumnLaws.{constant-put}
use Rattle.fmea_rows.proofs.columns.note_constant.Goals as goal

pub returns-then-is_constant-clause-constant : goal.returns-then-is_constant-clause-constant
returns-then-is_constant-clause-constant c =
    constant-put c.args.system.now c.args.number c.args.constant.now c.put.new.self c.requires.constant (c.is_constant.ensures c.if-is_constant.true) c.put.ensures
