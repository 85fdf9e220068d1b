use Rattle.std.proofs.Common.{ap, cond, sym, [], ◌++◌, ◌∷◌, ◌∙◌}
use Rattle.package_index.proofs.Loops.{numbered-more}
use Rattle.uneven_parts.specs.Quiet.{declared_side, is_declared}
use Rattle.uneven_parts.proofs.quiet.declared_sides.Goals as goal

pub loop-number-preserved : goal.loop-number-preserved
loop-number-preserved c =
    let points = c.args.points.now in
    let i = c.loop-number.number in
    let point = c.index-points-number.result in
    c.in_ok-push_if.ensures
    ∙ (λ j. c.loop-number.invariant j ++ cond ((c.is_declared.ensures ∙ ap is_declared c.side.ensures) j) (i ∷ []) [])
    ∙ sym (numbered-more declared_side points i point c.loop-number-test.true c.index-points-number.is)
