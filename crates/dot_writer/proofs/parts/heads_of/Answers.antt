use Rattle.std.proofs.Common.{map, ap, ◌∙◌}
use Rattle.dot_writer.specs.TreePicture.{head_at}
use Rattle.dot_writer.proofs.Heads.{next-round}
use Rattle.dot_writer.proofs.parts.heads_of.Goals as goal

pub loop-round-preserved : goal.loop-round-preserved
loop-round-preserved c =
    next-round c.args.usages.now c.loop-round.heads c.in_ok-heads-2.heads c.loop-round._round c.loop-round.invariant
    (c.in_ok-heads-2.ensures ∙ ap (λ all. map (head_at all) all) c.items.ensures.items)
