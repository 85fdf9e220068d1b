use Rattle.requirement_lines.proofs.Exits.{lines-refused, lines-told, stopped-refused}
use Rattle.requirement_lines.proofs.requiring.told_named.Goals as goal

pub returns-in-Ok-clause-told : goal.returns-in-Ok-clause-told
returns-in-Ok-clause-told c = λ text says.
    lines-told c.args.system.now c.args.rates.now text c.args.form c.args.named.now c.in-Ok.judgements c.items.result.now c.told_lines.result says c.in-Ok.ensures.judged c.items.ensures.items c.told_lines.ensures.text c.told_lines.ensures.met

pub returns-in-Ok-clause-refused : goal.returns-in-Ok-clause-refused
returns-in-Ok-clause-refused c = λ text says. lines-refused c.args.system.now c.args.rates.now text c.told_lines.result c.told_lines.ensures.memory

pub returns-in-Err-clause-refused : goal.returns-in-Err-clause-refused
returns-in-Err-clause-refused c = λ text says. stopped-refused c.args.system.now c.args.rates.now text c.args.named.now c.in-Err.fault says c.in-Err.ensures.unjudged
