use Rattle.std.proofs.Common.{◌≡◌, ◌≤◌, List, Option, ℕ, length}
use Rattle.std.specs.Prelude.{vec_capacity}
use Rattle.cutset_lister.specs.inner.Walks.{IsStarted, sets_left}
use Rattle.cutset_writer.specs.inner.Lengths.{most_line}
use Rattle.cutset_writer.specs.inner.Pages.{HasRoom, IsOpenMark, key_of, more_text}
use Rattle.cutset_writer.specs.inner.Steps.{IsWritten}
use Rattle.cutset_writer.specs.Text.{more_line}
use Rattle.cutset_writer.proofs.page.write_sets.Given as goal

abbrev pub invariant-loop-room : goal.invariant-loop-room
invariant-loop-room g l = IsStarted l.source.store.now l.writer.listing
    × HasRoom l.source.system.now (most_line l.source.system.now) (sets_left l.source.store.now l.writer.listing)
    × (most_line l.source.system.now ≤ vec_capacity l.writer.line)
    × IsOpenMark l.source.system.now l.mark
    × (key_of l.mark ≡ key_of l.fn.mark)
    × ((last : Option (List ℕ)) → more_text l.fn.mark ≡ more_line (key_of l.fn.mark) l.source.system.now last
    → IsWritten l.source.form l.source.system.now (key_of l.fn.mark) last l.source.limit (sets_left l.source.store.now l.fn.writer.listing) (g.S.Sink.seen l.fn.sink) (g.S.Sink.seen l.sink) (more_text l.mark) l.room (sets_left l.source.store.now l.writer.listing))

abbrev pub decreases-loop-room : goal.decreases-loop-room
decreases-loop-room g l = length (sets_left l.source.store.now l.writer.listing)
