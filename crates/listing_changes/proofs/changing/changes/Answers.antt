use Rattle.listing_changes.proofs.Sided.{all-told, ask-still, can-ask, can-tell}
use Rattle.listing_changes.proofs.changing.changes.Goals as goal

pub tell_lacking-requires-clause-here : goal.tell_lacking-requires-clause-here
tell_lacking-requires-clause-here c =
    let side = c.args.older.now in can-tell side.system.now side.part.now.target c.args.max_order c.in_ok-before.before c.in_ok-before.ensures.system c.in_ok-before.ensures.cuts

pub tell_lacking-requires-clause-there : goal.tell_lacking-requires-clause-there
tell_lacking-requires-clause-there c =
    let side = c.args.newer.now in can-ask side.system.now side.part.now.target c.args.max_order c.in_ok-after.after c.in_ok-after.ensures.system c.in_ok-after.ensures.cuts

pub tell_lacking-requires-2-clause-here : goal.tell_lacking-requires-2-clause-here
tell_lacking-requires-2-clause-here c =
    let side = c.args.newer.now in can-tell side.system.now side.part.now.target c.args.max_order c.in_ok-after.after c.in_ok-after.ensures.system c.in_ok-after.ensures.cuts

pub tell_lacking-requires-2-clause-there : goal.tell_lacking-requires-2-clause-there
tell_lacking-requires-2-clause-there c =
    let side = c.args.older.now in
    let before = c.in_ok-before.before in
    let first = c.tell_lacking.ensures in
    ask-still before c.tell_lacking.new.here first.system first.store first.sets (can-ask side.system.now side.part.now.target c.args.max_order before c.in_ok-before.ensures.system c.in_ok-before.ensures.cuts)

pub returns : goal.returns
returns c =
    let older = c.args.older.now in
    let newer = c.args.newer.now in
    let first = c.tell_lacking.ensures in
    all-told older.system.now newer.system.now older.part.now.target newer.part.now.target c.args.max_order c.in_ok-before.before c.in_ok-after.after c.tell_lacking.new.here c.new-told.result.text.items c.tell_lacking.new.told.text.items
    c.tell_lacking-2.new.told.text.items c.push_end.new.text.items c.new-told.result.count c.tell_lacking.new.told.count c.tell_lacking-2.new.told.count c.in_ok-before.ensures.system c.in_ok-after.ensures.system c.in_ok-before.ensures.cuts
    c.in_ok-after.ensures.cuts first.system first.store first.sets c.new-told.ensures.text c.new-told.ensures.count c.in_ok-tell_lacking.ensures.text c.in_ok-tell_lacking.ensures.count c.in_ok-tell_lacking-2.ensures.text
    c.in_ok-tell_lacking-2.ensures.count c.in_ok-push_end.ensures
