use Rattle.std.proofs.Common.{inl, refl, subst}
use Rattle.round_gates.specs.inner.Targets.{HasNoTree}
use Rattle.round_gates.proofs.Growing.{constantly}
use Rattle.system_answers.proofs.trees.tree_of.Goals as goal

pub returns-in-Ok-clause-tree : goal.returns-in-Ok-clause-tree
returns-in-Ok-clause-tree c = record { passed = c.in-Ok.ensures.target }

pub returns-in-Err-Constant-clause-tree : goal.returns-in-Err-Constant-clause-tree
returns-in-Err-Constant-clause-tree c =
    let system = c.args.system.now in
    let target = c.args.part.now.target in
    let always = c.in-Err-Constant.always in
    inl (record { stopped = inl (always, (constantly system target always).0 (subst (HasNoTree system target) c.in-Err-Constant.field-0-is c.in-Err-Constant.ensures.none), refl) })
