use Rattle.std.proofs.Common.{codes}
use Rattle.dot_writer.specs.Shown.{shown}
use Rattle.dot_writer.proofs.Joined.{joined-three}
use Rattle.dot_writer.proofs.leaves.push_tooltip.Goals as goal

pub returns : goal.returns
returns c =
    joined-three c.args.line.now.items c.extend_from_slice.new.self.items c.push_shown.new.line.items c.push.new.self.items
    (codes " [tooltip=\"") (shown c.args.name.now) (codes "\"")
    c.in_ok-extend_from_slice.ensures.items c.in_ok-push_shown.ensures c.in_ok-push.ensures.items
