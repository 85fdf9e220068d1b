use Rattle.galileo_writer.specs.TreeText.{rate_of}
use Rattle.dot_writer.specs.Picture.{event_form, event_look, leaf_edge, leaf_head}
use Rattle.dot_writer.proofs.Joined.{joined-four}
use Rattle.dot_writer.proofs.leaves.push_event_line.Goals as goal

pub returns : goal.returns
returns c =
    let rate = rate_of c.args.rates.now c.args.number in
    joined-four c.args.line.now.items c.push_leaf_head.new.line.items c.push_event_form.new.line.items c.push_event_look.new.line.items c.push_leaf_edge.new.line.items
    (leaf_head 101 c.args.position c.args.place c.args.name.now) (event_form c.args.name.now rate) (event_look c.args.name.now rate) (leaf_edge 101 c.args.position c.args.place)
    c.in_ok-push_leaf_head.ensures c.in_ok-push_event_form.ensures c.in_ok-push_event_look.ensures c.in_ok-push_leaf_edge.ensures
