use Rattle.std.proofs.Common.{subst, sym}
use Rattle.std.specs.HashMap.{get}
use Rattle.instantiator.specs.inner.Tables.{KnowsSteps, same_step}
use Rattle.instantiator.specs.inner.Whole.{ParentsComeFirst, PathsDiffer}
use Rattle.instantiator.proofs.InstanceLaws.{made-behind, made-differ, made-instance}
use Rattle.instantiator.proofs.instance.Instance.of.Goals as goal

pub numbers_of-requires-clause-differ : goal.numbers_of-requires-clause-differ
numbers_of-requires-clause-differ c =
    subst PathsDiffer (sym c.items.ensures.items) (made-differ c.args.index.now c.args.root c.new-draft.result c.add_all.new.draft c.root-one.result c.new-draft.ensures c.root-one.ensures c.in_ok-add_all.ensures.grown)

pub numbers_of-requires-clause-behind : goal.numbers_of-requires-clause-behind
numbers_of-requires-clause-behind c =
    subst ParentsComeFirst (sym c.items.ensures.items) (made-behind c.args.index.now c.args.root c.new-draft.result c.add_all.new.draft c.root-one.result c.new-draft.ensures c.root-one.ensures c.in_ok-add_all.ensures.grown)

pub invariant_of-result : goal.invariant_of-result
invariant_of-result c =
    made-instance c.args.index.now c.args.root c.new-draft.result c.add_all.new.draft c.root-one.result c.new-draft.ensures c.root-one.ensures c.in_ok-add_all.ensures.grown (get same_step c.in_ok-numbers.numbers)
    (subst (λ components. KnowsSteps components (get same_step c.in_ok-numbers.numbers)) c.items.ensures.items c.in_ok-numbers.ensures)
