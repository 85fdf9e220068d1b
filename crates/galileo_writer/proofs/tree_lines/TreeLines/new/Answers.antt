use Rattle.std.proofs.Common.{sym}
use Rattle.galileo_writer.specs.Galileo.{top_text}
use Rattle.galileo_writer.specs.TreeText.{event_line, gate_line, name_at}
use Rattle.galileo_writer.proofs.Soundness.{text-sound}
use Rattle.galileo_writer.proofs.TextTruth.{target-text, text-truth}
use Rattle.galileo_writer.proofs.TreeLeft.{parts-text}
use Rattle.galileo_writer.proofs.tree_lines.TreeLines.new.Goals as goal

pub returns-clause-text : goal.returns-clause-text
returns-clause-text c =
    let system = c.args.system in
    let tree = c.args.tree in
    sym (parts-text (top_text (name_at system tree.gates tree.top)) (gate_line system tree.gates) (event_line system c.args.rates) tree.gates tree.events)

pub returns-clause-sound : goal.returns-clause-sound
returns-clause-sound c = text-sound c.args.system c.events-events.ensures.system c.requires.names c.args.tree c.requires.made c.args.rates

pub returns-clause-truth : goal.returns-clause-truth
returns-clause-truth c = text-truth c.args.system c.events-events.ensures.system c.requires.names c.args.tree c.requires.made c.args.rates c.requires.rates

pub returns-clause-target : goal.returns-clause-target
returns-clause-target c = λ target events is. target-text c.args.system target c.args.tree c.args.rates events c.events-events.ensures.system c.requires.names c.requires.rates is
