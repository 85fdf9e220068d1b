use Rattle.std.proofs.Common.{get_or, sym, subst, take}
use Rattle.std.proofs.lemmas.List.{take_more}
use Rattle.zdd_families.proofs.Ways.{Keeps_trans}
use Rattle.order_bounds.specs.inner.Many.{AreAlone}
use Rattle.order_bounds.proofs.Alone.{alone_more}
use Rattle.order_bounds.proofs.many.alone.Goals as goal

pub loop-event-preserved : goal.loop-event-preserved
loop-event-preserved c =
    let events = c.args.events.now in
    let i = c.loop-event.event-index in
    let before = c.loop-event.invariant in
    record {
      kept = Keeps_trans _ _ _ before.kept c.single.ensures.kept;
      alone = subst (λ front. AreAlone c.single.new.store front c.push.new.self.items) (sym (take_more events i 0 c.loop-event-test.true))
          (alone_more c.loop-event.store c.single.new.store (take i events) c.loop-event.ids.items c.push.new.self.items (get_or events i 0) c.in_ok-id.id c.single.ensures.kept before.alone c.in_ok-id.ensures.found c.in_ok-id.ensures.family c.in_ok-push.ensures.items);
    }
