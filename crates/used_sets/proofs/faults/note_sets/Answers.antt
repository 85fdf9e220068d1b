use Rattle.std.proofs.Common.{◌≡◌, flat_map, option_copied, sym, ap, ◌∙◌}
use Rattle.std.proofs.lemmas.List.Folds.{flat_map-map}
use Rattle.noted_refusals.specs.inner.Noted.{noting}
use Rattle.noted_refusals.proofs.Loops.{noting-end, noting-more}
use Rattle.used_sets.specs.Used.{set_fault}
use Rattle.used_sets.proofs.faults.note_sets.Goals as goal

pub loop-set-preserved : goal.loop-set-preserved
loop-set-preserved c =
    let scope = option_copied c.args.scope in
    let table = c.args.reading.now.types in
    let kept : c.loop-set.reading.types ≡ table = c.loop-set.invariant.kept in
    record {
      kept = c.in_ok-note_set.ensures.kept ∙ kept;
      first = noting-more c.sets-set-items.result.now c.loop-set.set-index c.set-item.result c.loop-set-test.true c.set-item.is (λ set. set_fault table scope set.now) c.loop-set.reading.refusals _ _
          (c.in_ok-note_set.ensures.noted ∙ ap (λ types. noting c.loop-set.reading.refusals (set_fault types scope c.set-item.result.now)) kept) c.loop-set.invariant.first;
    }

pub returns-clause-noted : goal.returns-clause-noted
returns-clause-noted c =
    let scope = option_copied c.args.scope in
    let table = c.args.reading.now.types in
    let sets = c.sets-set-items.result.now in
    noting-end sets c.loop-set.set-index (λ set. set_fault table scope set.now) c.loop-set.reading.refusals _ c.loop-set-test.false c.loop-set.invariant.first
    ∙ ap (λ all. noting c.args.reading.now.refusals all) (sym (flat_map-map (set_fault table scope) (λ set. set.now) sets) ∙ ap (flat_map (set_fault table scope)) c.sets-set-items.ensures)
