use Rattle.std.proofs.Common.{Err, ◌∙◌, ap, arith, sym, subst}
use Rattle.std.proofs.lemmas.Result.{err_from_is_err_and}
use Rattle.cutset_lister.specs.inner.Walks.{sets_left}
use Rattle.cutset_writer.specs.inner.Lengths.{most_line}
use Rattle.cutset_writer.specs.inner.Pages.{HasRoom, next_more}
use Rattle.cutset_writer.proofs.PageTexts.{page_ended, page_stopped, page_went_on, room_later}
use Rattle.cutset_writer.proofs.page.write_sets.Goals as goal

pub returns-in_err-write_next : goal.returns-in_err-write_next
returns-in_err-write_next g c = λ last named.
    let p = err_from_is_err_and c.from_residual.result c.from_residual.ensures.1 in
    page_stopped c.args.source.now.form c.args.source.now.system.now _ last c.args.source.now.limit _ (g.S.Sink.seen c.args.sink.now) (g.S.Sink.seen c.loop-room.sink) (g.S.Sink.seen c.write_next.new.sink) _ _ _ c.from_residual.result c.in_err-write_next.field-0.0 (p.1 ∙ ap Err p.2) (c.loop-room.invariant.5 last named) c.in_err-write_next.ensures.wrote

pub returns : goal.returns
returns g c = λ last named.
    page_ended c.args.source.now.form c.args.source.now.system.now _ last c.args.source.now.limit _ (g.S.Sink.seen c.args.sink.now) (g.S.Sink.seen c.loop-room.sink) (g.S.Sink.seen c.write_next.new.sink) _ _ _ _ (c.loop-room.invariant.5 last named) c.in_ok-write_next.ensures.goes c.if-branch.false c.in_ok-write_next.ensures.wrote.0 c.in_ok-write_next.ensures.wrote.1

pub loop-room-preserved : goal.loop-room-preserved
loop-room-preserved g c =
    let system = c.args.source.now.system.now in
    let next = c.in_ok-write_next.ensures in
    let left = sets_left c.args.source.now.store.now c.loop-room.writer.listing in (
      next.same.started,
      subst (HasRoom system (most_line system)) (sym next.left) (room_later system (most_line system) left c.loop-room.invariant.1),
      omega (arith, c.loop-room.invariant.2, next.wide),
      next.open,
      next.key ∙ c.loop-room.invariant.4,
      λ last named.
          let names = next.named c.if-branch.true ∙ ap (λ key. next_more key system left) c.loop-room.invariant.4 in
          page_went_on c.args.source.now.form system _ last c.args.source.now.limit _ (g.S.Sink.seen c.args.sink.now) (g.S.Sink.seen c.loop-room.sink) (g.S.Sink.seen c.write_next.new.sink) _ _ _ _ _ _ _ (c.loop-room.invariant.5 last named) next.goes c.if-branch.true next.wrote.0 next.wrote.1 next.left c.one_less-room.ensures names,
    )
