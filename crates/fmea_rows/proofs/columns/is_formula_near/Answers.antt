use Rattle.std.proofs.Common.{◌∙◌, sym}
use Rattle.fault_system.specs.Truth.{member}
use Rattle.fault_system.specs.Rounds.{time_of}
use Rattle.fmea_rows.proofs.ColumnLaws.{around-late}
use Rattle.fmea_rows.proofs.columns.is_formula_near.Goals as goal

pub returns : goal.returns
returns c = λ yes.
    around-late (time_of c.args.facts.now) (time_of c.args.events.now) c.args.distance c.args.count (member c.args.ends.now.all) (member c.args.ends.now.no_fact) c.args.formula.now c.requires.all c.requires.none
    (sym c.is_true.ensures ∙ c.if-is_true.false) (c.is_around-2.ensures yes)
