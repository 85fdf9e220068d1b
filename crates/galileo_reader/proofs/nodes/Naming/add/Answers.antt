use Rattle.std.proofs.Common.{refl}
use Rattle.galileo_reader.proofs.NodeLaws.{adds-event, adds-gate, adds-top}
use Rattle.galileo_reader.proofs.nodes.Naming.add.Goals as goal

pub returns-in-Top : goal.returns-in-Top
returns-in-Top c = adds-top c.args.line.now c.in-Top.field-0 c.in-Top.field-1 _ c.args.self.now _ c.in-Top.is refl refl refl refl refl

pub returns-in_ok-before-in-Gate : goal.returns-in_ok-before-in-Gate
returns-in_ok-before-in-Gate c =
    adds-gate c.args.line.now c.in-Gate.name _ c.args.self.now _ c.items.result c.items.ensures.items c.in_ok-before-in-Gate.before c.in_ok-before-in-Gate.ensures.old c.is_none.ensures
    c.in-Gate.field-1 c.in-Gate.field-2 c.in-Gate.field-3 c.in-Gate.is (λ key. c.in_ok-before-in-Gate.ensures.updates.0 key) refl refl refl

pub returns-in_ok-before-in-Event : goal.returns-in_ok-before-in-Event
returns-in_ok-before-in-Event c =
    adds-event c.args.line.now c.in-Event.name _ c.args.self.now _ c.items-in-Event.result c.items-in-Event.ensures.items c.in_ok-before-in-Event.before c.in_ok-before-in-Event.ensures.old c.is_none-in-Event.ensures
    c.in-Event.field-1 c.in-Event.is (λ key. c.in_ok-before-in-Event.ensures.updates.0 key) refl refl refl
