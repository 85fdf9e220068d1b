use Rattle.requirement_lines.proofs.Exits.{misread-refused}
use Rattle.requirement_lines.proofs.requiring.require.Goals as goal

pub returns-in-Ok-clause-told : goal.returns-in-Ok-clause-told
returns-in-Ok-clause-told c = c.told_of.ensures.told c.args.text.now c.in-Ok.ensures.read

pub returns-in-Ok-clause-refused : goal.returns-in-Ok-clause-refused
returns-in-Ok-clause-refused c = c.told_of.ensures.refused c.args.text.now c.in-Ok.ensures.read

pub returns-in-Err-clause-refused : goal.returns-in-Err-clause-refused
returns-in-Err-clause-refused c = misread-refused c.args.system.now c.args.rates.now c.args.text.now c.in-Err.fault c.in-Err.ensures.wrong
