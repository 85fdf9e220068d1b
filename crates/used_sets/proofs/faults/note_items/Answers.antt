use Rattle.std.proofs.Common.{◌≡◌, ◌+◌, ◌||◌, take, sym, ap, ◌∙◌}
use Rattle.noted_refusals.specs.inner.Noted.{noting}
use Rattle.package_index.proofs.Loops.{any-more}
use Rattle.noted_refusals.proofs.Loops.{noting-more}
use Rattle.used_sets.specs.Used.{item_refusals, use_clause, uses_clause}
use Rattle.used_sets.proofs.MarkLaws.{marked-same, marked-then}
use Rattle.used_sets.proofs.faults.note_items.Goals as goal

pub loop-item-preserved : goal.loop-item-preserved
loop-item-preserved g c =
    let sets = g.T.HasSets.sets in
    let items = c.args.items.now in
    let i = c.loop-item.item-index in
    let one = c.item-item.result in
    let table = c.args.reading.now.types in
    let kept : c.loop-item.reading.types ≡ table = c.loop-item.invariant.kept in
    record {
      kept = c.in_ok-note_item.ensures.kept ∙ kept;
      marks = marked-same c.args.marks.now c.note_item.new.marks (λ number. use_clause sets (take i items) number || uses_clause sets number one) (use_clause sets (take (i + 1) items))
          (marked-then c.args.marks.now c.loop-item.marks c.note_item.new.marks (use_clause sets (take i items)) (λ number. uses_clause sets number one) c.loop-item.invariant.marks c.in_ok-note_item.ensures.marks)
          (λ number. sym (any-more items i one c.loop-item-test.true c.item-item.is (uses_clause sets number)));
      first = noting-more items i one c.loop-item-test.true c.item-item.is (item_refusals sets table c.args.scopes.now) c.loop-item.reading.refusals _ _
          (c.in_ok-note_item.ensures.noted ∙ ap (λ types. noting c.loop-item.reading.refusals (item_refusals sets types c.args.scopes.now one)) kept) c.loop-item.invariant.first;
    }
