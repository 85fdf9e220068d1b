use Rattle.std.proofs.Common.{◌∙◌, arith}
use Rattle.std.proofs.lemmas.List.{get_or_default}
use Rattle.fmea_samples.proofs.names.lacks.Goals as goal

pub returns : goal.returns
returns c = λ yes has. c.loop-other.invariant has.0 (omega (arith, has.1)) (get_or_default c.args.name.now has.0 0 c.args.byte has.1 ∙ has.2)
