use Rattle.std.proofs.Common.{sym, subst}
use Rattle.cutset_lister.specs.inner.Walks.{sets_left}
use Rattle.cutset_writer.specs.declared.page.PageWriter.{PageWriter}
use Rattle.cutset_writer.specs.inner.Pages.{HasRoom}
use Rattle.cutset_writer.proofs.PageTexts.{room-filtered}
use Rattle.cutset_writer.specs.inner.Lengths.{most_line}
use Rattle.fault_system.specs.Listings.{is_before}
use Rattle.cutset_writer.proofs.page.write_on_ledger.Goals.{in-Some, in_default}
use Rattle.cutset_writer.proofs.page.write_on_ledger.Goals as goal

pub write_sets-requires-clause-room : goal.write_sets-requires-clause-room
write_sets-requires-clause-room g c =
    let system = c.args.source.now.system.now in
    let store = c.args.source.now.store.now in
    let Room = HasRoom system (most_line system) in
    elim c.match-after.branch [
      | in-Some w ↦ subst (λ (writer : PageWriter). Room (sets_left store writer.listing)) (sym w.writer-is) (subst Room (sym w.seek.ensures.left) (room-filtered system (most_line system) (is_before w.in-Some.set.now) _ c.requires.ready.room))
      | in_default w ↦ subst (λ (writer : PageWriter). Room (sets_left store writer.listing)) (sym w.writer-is) (subst Room (sym c.requires.ready.left) c.requires.ready.room)
    ]
