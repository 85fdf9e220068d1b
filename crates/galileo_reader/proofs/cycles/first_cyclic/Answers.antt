use Rattle.std.proofs.Common.{List, MatchOption, length, subst}
use Rattle.dependency_blocks.specs.inner.Blocks.{AreAllBlocks}
use Rattle.galileo_reader.specs.inner.Cycles.{HasOwn, NoneHasOwn}
use Rattle.galileo_reader.specs.declared.tree.NamedGate.{NamedGate}
use Rattle.galileo_reader.proofs.CycleLaws.{cyclic-found}
use Rattle.galileo_reader.proofs.cycles.first_cyclic.Goals as goal

pub returns : goal.returns
returns c =
    cyclic-found c.args.tree.now c.requires c.in_ok-blocks.blocks (subst (λ s. AreAllBlocks s c.in_ok-blocks.blocks) c.in_ok-system.ensures.system c.in_ok-blocks.ensures) _
    (subst (λ (gates : List NamedGate). MatchOption c.first_with_own.result (NoneHasOwn c.in_ok-blocks.blocks gates (length gates)) (λ n. HasOwn c.in_ok-blocks.blocks gates n × NoneHasOwn c.in_ok-blocks.blocks gates n)) c.items.ensures.items c.first_with_own.ensures)
