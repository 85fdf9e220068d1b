use Rattle.std.proofs.Common.{refl, subst}
use Rattle.plain_values.specs.inner.Stops.{StopsFor}
use Rattle.backward_slice.specs.Slices.{HasLargeSlice}
use Rattle.requirement_lines.proofs.judging.slice_for.Goals as goal

pub returns-in-Err-Refused-clause-large : goal.returns-in-Err-Refused-clause-large
returns-in-Err-Refused-clause-large c = (subst (StopsFor (HasLargeSlice c.args.system.now c.args.target)) c.in-Err-Refused.field-0-is c.in-Err-Refused.ensures, refl)
