use Rattle.std.proofs.Common.{◌∙◌, ◌<◌, ◌≢◌, ◌+◌, length, sym, arith, rules}
use Rattle.std.proofs.lemmas.Result.{on_ok_weaker}
use Rattle.fault_system.specs.inner.CutSets.{is_minimal}
use Rattle.fault_system.proofs.Elements.{popped}
use Rattle.plain_values.proofs.Rising.{rises-as, rises-higher, rises-push}
use Rattle.plain_listing.proofs.Trying.{found-both}
use Rattle.plain_listing.proofs.+list_with.Goals as goal

pub list_if_minimal-requires : goal.list_if_minimal-requires
list_if_minimal-requires t c = rises-as 0 _ _ _ c.as_slice.ensures.value (rises-higher 0 _ _ _ c.requires.next c.requires.chosen)

pub list_with-requires : goal.list_with-requires
list_with-requires t c =
    let apart : c.args.next ≢ length c.args.asked.now.system.now.events = λ e. c.if-next-events.false (e ∙ sym c.events.ensures.count) in
    let below : c.args.next < length c.args.asked.now.system.now.events = omega (arith, c.requires.next) in
    (search rules, (rises-as 0 (c.args.next + 1) _ _ c.in_ok-push.ensures.items (rises-push 0 c.args.next _ (omega arith) c.requires.chosen), omega arith))

pub list_with-requires-2 : goal.list_with-requires-2
list_with-requires-2 t c =
    let apart : c.args.next ≢ length c.args.asked.now.system.now.events = λ e. c.if-next-events.false (e ∙ sym c.events.ensures.count) in
    let below : c.args.next < length c.args.asked.now.system.now.events = omega (arith, c.requires.next) in
    let same = popped c.args.chosen.now.items _ _ _ c.args.next _ c.in_ok-push.ensures.items c.in_ok-list_with.ensures.chosen c.list_with.new.chosen.ok.0 c.pop.ensures.rest in
    (omega arith, (rises-as 0 (c.args.next + 1) _ _ same (rises-higher 0 c.args.next (c.args.next + 1) _ (omega arith) c.requires.chosen), omega arith))

pub returns-clause-listed : goal.returns-clause-listed
returns-clause-listed t c =
    let apart : c.args.next ≢ length c.args.asked.now.system.now.events = λ e. c.if-next-events.false (e ∙ sym c.events.ensures.count) in
    let below : c.args.next < length c.args.asked.now.system.now.events = omega (arith, c.requires.next) in
    let same = popped c.args.chosen.now.items _ _ _ c.args.next _ c.in_ok-push.ensures.items c.in_ok-list_with.ensures.chosen c.list_with.new.chosen.ok.0 c.pop.ensures.rest in
    on_ok_weaker c.list_with-2.result
    (found-both (is_minimal c.args.asked.now.system.now c.args.asked.now.target) c.args.chosen.now.items _ _ c.args.more c.args.next (length c.args.asked.now.system.now.events) _ _ _ c.if-more-eq0.false below c.in_ok-push.ensures.items same c.in_ok-list_with.ensures.listed)
    c.list_with-2.ensures.listed
