use Rattle.std.proofs.Common.{sym, subst}
use Rattle.std.proofs.lemmas.Result.{IfOk-weaker}
use Rattle.dependency_blocks.specs.Blocks.{IsBlocks}
use Rattle.dependency_blocks.proofs.Ranked.{found_blocks}
use Rattle.dependency_blocks.proofs.finding.blocks_by_reach.Goals as goal

pub returns : goal.returns
returns c =
    let table = c.in_ok-numbers.ensures in
    IfOk-weaker c.of.result _ _
    (λ blocks is. subst (IsBlocks c.args.system.now c.args.facts.now) (sym is)
    (found_blocks c.args.system.now c.facts-count.result c.args.facts.now c.in_ok-reaches.reaches.items c.as_slice.result.now c.in_ok-ranks.ranks.items c.as_slice-2.result.now c.in_ok-numbers.numbers.items
    c.requires.causes c.requires.ranged
    c.facts-count.ensures.count c.facts-count.type_inv c.as_slice.ensures.value c.in_ok-ranks.ensures c.as_slice-2.ensures.value c.in_ok-reaches.ensures table.table table.exact))
    c.of.ensures
