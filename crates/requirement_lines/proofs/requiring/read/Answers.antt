use Rattle.std.proofs.Common.{subst}
use Rattle.requirements.specs.inner.Faults.{IsFault}
use Rattle.requirements.specs.Requirements.{requirements_of}
use Rattle.requirement_lines.proofs.requiring.read.Goals as goal

pub returns-in-Err-Wrong-clause-wrong : goal.returns-in-Err-Wrong-clause-wrong
returns-in-Err-Wrong-clause-wrong c = subst (IsFault (requirements_of c.args.text.now)) c.in-Err-Wrong.field-0-is c.in-Err-Wrong.ensures.wrong
