use Rattle.std.proofs.Common.{sym, subst}
use Rattle.std.specs.List.{AllByRecursion}
use Rattle.fault_system.specs.CutSets.{IsEventSet}
use Rattle.requirement_names.specs.inner.Named.{FitsSets}
use Rattle.forbidden_sets.proofs.Firsts.{mixed-found, order-found, possible-found, said-found}
use Rattle.forbidden_sets.proofs.forbidden.first_forbidden.Goals as goal

pub small_other-requires-clause-sets : goal.small_other-requires-clause-sets
small_other-requires-clause-sets c =
    let system = c.args.judged.now.system.now in
    subst (AllByRecursion (IsEventSet system)) (sym c.items-parts.ensures.items) (subst (FitsSets system) c.in-Order.is c.requires.sets)

pub returns-in-Order-clause-first : goal.returns-in-Order-clause-first
returns-in-Order-clause-first c =
    order-found c.args.judged.now.system.now c.args.judged.now.slice.now.target c.args.sentence.now _ _ _ c.small_other.result c.in-Order.is c.items-parts.ensures.items c.small_other.ensures.first

pub first_inside-requires-clause-group : goal.first_inside-requires-clause-group
first_inside-requires-clause-group c =
    let system = c.args.judged.now.system.now in
    subst (IsEventSet system) (sym c.items-members.ensures.items) (subst (FitsSets system) c.in-Mixed.is c.requires.sets)

pub returns-in-Mixed-clause-first : goal.returns-in-Mixed-clause-first
returns-in-Mixed-clause-first c =
    mixed-found c.args.judged.now.system.now c.args.judged.now.slice.now.target c.args.sentence.now _ _ _ c.first_inside.result c.in-Mixed.is c.items-members.ensures.items c.first_inside.ensures.first

pub returns-in-Without-clause-first : goal.returns-in-Without-clause-first
returns-in-Without-clause-first c =
    said-found c.args.judged.now.system.now c.args.judged.now.slice.now.target c.args.sentence.now _ c.first_with.result c.in-Without.is c.first_with.ensures.first

pub returns-in-Possible-clause-first : goal.returns-in-Possible-clause-first
returns-in-Possible-clause-first c = possible-found c.args.judged.now.system.now c.args.judged.now.slice.now.target c.args.sentence.now c.in-Possible.is

pub returns-in-Never-clause-first : goal.returns-in-Never-clause-first
returns-in-Never-clause-first c =
    said-found c.args.judged.now.system.now c.args.judged.now.slice.now.target c.args.sentence.now _ c.first_of_all.result c.in-Never.is c.first_of_all.ensures.first
