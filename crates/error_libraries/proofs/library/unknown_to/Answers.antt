use Rattle.std.proofs.Common.{◌++◌, ap, ◌∙◌}
use Rattle.noted_refusals.specs.inner.Noted.{Noted, nothing_noted}
use Rattle.noted_refusals.proofs.Laws.{noting-first}
use Rattle.noted_refusals.proofs.Loops.{noting-end, noting-more}
use Rattle.error_libraries.specs.Libraries.{unknown_libraries, unknown_to}
use Rattle.error_libraries.proofs.library.unknown_to.Goals as goal

pub loop-block-preserved : goal.loop-block-preserved
loop-block-preserved c =
    noting-more c.args.blocks.now c.loop-block.block-index c.block-item.result c.loop-block-test.true c.block-item.is (λ block. unknown_libraries c.args.index.now c.args.home block.uses ++ unknown_libraries c.args.index.now c.args.home block.extends) c.loop-block.refusals _ _
    c.note_block.ensures c.loop-block.invariant

pub returns : goal.returns
returns c =
    let blocks = c.args.blocks.now in
    let whole =
    noting-end blocks c.loop-block.block-index (λ block. unknown_libraries c.args.index.now c.args.home block.uses ++ unknown_libraries c.args.index.now c.args.home block.extends) c.loop-block.refusals _ c.loop-block-test.false c.loop-block.invariant in
    c.first.ensures ∙ ap (λ (noted : Noted). noted.first) whole ∙ noting-first (nothing_noted 0) (unknown_to c.args.index.now c.args.home blocks)
