use Rattle.std.proofs.Common.{codes, ◌++◌}
use Rattle.galileo_writer.specs.TreeText.{rate_of}
use Rattle.dot_writer.specs.Words.{words_of}
use Rattle.dot_writer.specs.Picture.{rate_words}
use Rattle.dot_writer.proofs.Joined.{joined, joined-four}
use Rattle.dot_writer.proofs.leaves.push_event_look.Goals as goal

pub returns : goal.returns
returns c =
    let words = words_of c.args.name.now in
    let rate = rate_words (rate_of c.args.rates.now c.args.number) in
    let between = codes "<br/><font point-size=\"8\">" in
    let last = codes "</font>>" in
    joined-four c.args.line.now.items c.extend_from_slice.new.self.items c.push_words.new.line.items c.extend_from_slice-2.new.self.items c.extend_from_slice-3.new.self.items
    (codes ",label=<") words between (rate ++ last)
    c.in_ok-extend_from_slice.ensures.items c.in_ok-push_words.ensures c.in_ok-extend_from_slice-2.ensures.items
    (joined c.extend_from_slice-2.new.self.items c.push_rate.new.line.items c.extend_from_slice-3.new.self.items rate last c.in_ok-push_rate.ensures c.in_ok-extend_from_slice-3.ensures.items)
