use Rattle.std.proofs.Common.{sym, subst}
use Rattle.std.specs.List.{AllByRecursion}
use Rattle.requirement_names.specs.inner.Named.{AreNamed, FitsModel}
use Rattle.requirement_lines.proofs.Exits.{misnamed-refused}
use Rattle.requirement_lines.proofs.requiring.told_of.Goals as goal

pub told_named-requires : goal.told_named-requires
told_named-requires c =
    let system = c.args.system.now in
    subst (AllByRecursion (FitsModel system)) (sym c.items.ensures.items) (c.named_fit.ensures system c.args.all.now c.in-Ok.named c.in-Ok.ensures.named)

pub returns-in-Ok-clause-told : goal.returns-in-Ok-clause-told
returns-in-Ok-clause-told c = λ text read.
    c.told_named.ensures.told text (record { all = c.args.all.now; read = read; are_named = subst (AreNamed c.args.system.now c.args.all.now) (sym c.items.ensures.items) c.in-Ok.ensures.named })

pub returns-in-Ok-clause-refused : goal.returns-in-Ok-clause-refused
returns-in-Ok-clause-refused c = λ text read.
    c.told_named.ensures.refused text (record { all = c.args.all.now; read = read; are_named = subst (AreNamed c.args.system.now c.args.all.now) (sym c.items.ensures.items) c.in-Ok.ensures.named })

pub returns-in-Err-clause-refused : goal.returns-in-Err-clause-refused
returns-in-Err-clause-refused c = λ text read. misnamed-refused c.args.system.now c.args.rates.now text c.args.all.now c.in-Err.fault read c.in-Err.ensures.wrong
