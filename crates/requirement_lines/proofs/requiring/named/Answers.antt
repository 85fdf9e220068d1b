use Rattle.std.proofs.Common.{subst}
use Rattle.requirement_names.specs.inner.Wrong.{IsFault}
use Rattle.requirement_lines.proofs.requiring.named.Goals as goal

pub returns-in-Err-Wrong-clause-wrong : goal.returns-in-Err-Wrong-clause-wrong
returns-in-Err-Wrong-clause-wrong c = subst (IsFault c.args.system.now c.args.all.now) c.in-Err-Wrong.field-0-is c.in-Err-Wrong.ensures.fault
