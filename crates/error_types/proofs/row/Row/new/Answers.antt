use Rattle.std.proofs.Common.{ap, ◌∙◌}
use Rattle.error_types.specs.inner.Words.{bits_of}
use Rattle.error_types.proofs.RowLaws.{empty-words}
use Rattle.error_types.proofs.row.Row.new.Goals as goal

pub returns : goal.returns
returns c = ap (bits_of c.args.count) c.in_ok-zeros.ensures ∙ empty-words c.args.count _
