use Rattle.std.proofs.Common.{length, le_refl}
use Rattle.std.specs.List.{between}
use Rattle.std.proofs.lemmas.Slice.{between_to_end}
use Rattle.cutset_lister.proofs.Scans.{scan-not, scan-past, scan-takes}
use Rattle.cutset_lister.proofs.tokens.take_event.Goals as goal

pub returns-then-place-text : goal.returns-then-place-text
returns-then-place-text c = scan-past c.args.system.now c.args.text.now c.args.set.now.items c.args.number c.args.place c.requires.scanned c.if-place-text.true

pub returns-then-not-is_next : goal.returns-then-not-is_next
returns-then-not-is_next c =
    scan-not c.args.system.now c.args.text.now c.args.set.now.items c.args.number c.args.place (between c.args.place (length c.args.text.now) c.args.text.now) c.requires.scanned c.if-place-text.false
    (between_to_end c.args.text.now c.args.place (length c.args.text.now) (le_refl (length c.args.text.now))) (λ next. (rw c.if-not-is_next.true at c.is_next.ensures) (rw c.event_name-name.ensures next))

pub returns : goal.returns
returns c =
    scan-takes c.args.system.now c.args.text.now c.args.set.now.items c.push.new.self.items c.args.number c.args.place (between c.args.place (length c.args.text.now) c.args.text.now) c.event_name-name.result.now
    c.events-events.ensures.system c.requires.names c.requires.scanned c.requires.event c.if-place-text.false (between_to_end c.args.text.now c.args.place (length c.args.text.now) (le_refl (length c.args.text.now)))
    c.event_name-name.ensures (rw c.if-not-is_next.false at c.is_next.ensures) c.in_ok-push.ensures.items
