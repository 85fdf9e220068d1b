use Rattle.std.proofs.Common.{◌≡◌, ◌≤◌, ◌+◌, ◌-◌, ◌<◌, ◌++◌, ℕ, List, length, get_or, drop, replicate, map, ap, ◌∙◌, sym, subst, arith}
use Rattle.std.proofs.lemmas.List.{get_or_default, length-drop, length-map}
use Rattle.zdd_store.specs.inner.Family.{Family, covers}
use Rattle.zdd_store.specs.inner.Store.{family_of}
use Rattle.zdd_store.specs.declared.id.Id.{Id}
use Rattle.zdd_families.specs.inner.Rows.{IsRow, IsRun, IsNextRow}
use Rattle.zdd_families.specs.declared.choice.Run.{Run}
use Rattle.zdd_families.proofs.Ways.{Keeps_trans}
use Rattle.zdd_families.proofs.Tables.{minimal_kept, next_minimal, row_next, row_kept, drop_run}
use Rattle.zdd_families.proofs.choice.fill_row.Goals as goal

pub loop-at-preserved : goal.loop-at-preserved
loop-at-preserved c =
    let zero : Id = record { position = 0 } in
    let run : Run = c.in_ok-last.last in
    let is_run : IsRun c.loop-at.store c.run_before.new.store c.args.parts.now c.loop-at.at run = c.in_ok-last.ensures.ends in
    let few : run.times ≤ c.loop-at.at = is_run.within in
    let first : ℕ = c.loop-at.at - run.times in
    let old : Id = get_or c.args.parts.now first zero in
    let families : List Family = map (family_of c.args.store.now) c.args.parts.now in
    let within : c.loop-at.at ≤ length c.args.parts.now = c.loop-at.invariant.within in
    let before : first < c.loop-at.at = omega (arith, is_run.some) in
    let times : c.loop-at.at - first ≡ run.times = omega arith in
    let reached : first + (c.loop-at.at - first) ≡ c.loop-at.at = omega arith in
    let whole : drop first families ≡ replicate (c.loop-at.at - first) (family_of c.args.store.now old) ++ drop c.loop-at.at families =
    drop_run (family_of c.args.store.now) c.args.parts.now old (c.loop-at.at - first) first (omega arith)
    (λ i d h k. is_run.same i d h (omega arith) ∙ get_or_default c.args.parts.now first d zero (omega arith))
    ∙ ap (λ n. replicate (c.loop-at.at - first) (family_of c.args.store.now old) ++ drop n families) reached in
    let left : length (drop c.loop-at.at families) ≡ length c.args.parts.now - c.loop-at.at =
    length-drop c.loop-at.at families ∙ ap (λ n. n - c.loop-at.at) (length-map c.args.parts.now (family_of c.args.store.now)) in
    let made : IsNextRow c.args.most c.run_before.new.store c.next_row.new.store run.part (c.loop-at.at - first) c.max-low.result c.min-high.result c.loop-at.row c.next_row.new.row =
    subst (λ (n : ℕ). IsNextRow c.args.most c.run_before.new.store c.next_row.new.store run.part n c.max-low.result c.min-high.result c.loop-at.row c.next_row.new.row) (sym times) c.in_ok-next_row.ensures.next in
    let old_is : family_of c.loop-at.store old ≡ family_of c.args.store.now old = c.loop-at.invariant.kept.same old.position (c.requires.parts_in first zero (omega arith)) in
    record {
      within = omega arith;
      long = made.long ∙ c.loop-at.invariant.long;
      minimal = next_minimal c.args.most c.run_before.new.store c.next_row.new.store run.part (c.loop-at.at - first) c.max-low.result c.min-high.result c.loop-at.row c.next_row.new.row c.next_row.ensures.kept
          (λ k d h. minimal_kept c.loop-at.store c.run_before.new.store _ c.run_before.ensures.kept (c.loop-at.invariant.minimal k d h)) made;
      row = subst (λ f. IsRow (c.args.k - first) c.args.most c.next_row.new.store f c.next_row.new.row) (sym whole)
          (row_next c.args.most c.run_before.new.store c.next_row.new.store (drop c.loop-at.at families) (family_of c.args.store.now old) run.part c.args.k first c.loop-at.at c.max-low.result c.min-high.result c.loop-at.row c.next_row.new.row
          before (omega (arith, c.max-low.ensures, c.saturating_sub.ensures)) (omega (arith, left, c.min-high.ensures)) c.loop-at.invariant.long
          (λ set. is_run.covering zero set ∙ ap (λ f. covers f set) old_is) made c.next_row.ensures.kept
          (row_kept c.args.most (c.args.k - c.loop-at.at) c.loop-at.store c.run_before.new.store (drop c.loop-at.at families) c.loop-at.row c.run_before.ensures.kept c.loop-at.invariant.row));
      kept = Keeps_trans _ _ _ (Keeps_trans _ _ _ c.loop-at.invariant.kept c.run_before.ensures.kept) c.next_row.ensures.kept;
    }
