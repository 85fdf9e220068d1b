use Rattle.std.proofs.Common.{ℕ, ◌+◌, ◌≡◌, ◌<◌, ◌||◌, [], cond, false, length, slice_index_or, sym, ap, ◌∙◌, subst, arith}
use Rattle.noted_refusals.specs.inner.Noted.{noting}
use Rattle.component_extension.specs.Items.{Clause}
use Rattle.error_libraries.specs.Libraries.{unknown_libraries}
use Rattle.plain_values.specs.Numbered.{numbered_from}
use Rattle.noted_refusals.proofs.Laws.{noted-two}
use Rattle.used_sets.specs.Used.{effective_refusals, is_used, uses_fault}
use Rattle.used_sets.proofs.MarkLaws.{numbered-same}
use Rattle.used_sets.proofs.faults.note_with.Goals as goal

pub returns-clause-noted : goal.returns-clause-noted
returns-clause-noted c =
    let table = c.args.reading.now.types in
    let effective = c.args.effective.now in
    let kept : c.note_effective.new.reading.types ≡ table = c.in_ok-note_effective.ensures.kept in
    let marked = c.in_ok-note_effective.ensures.marks in
    let told = λ (number : ℕ). slice_index_or c.note_effective.new.marks number false in
    let same : (number : ℕ) (clause : Clause) → number < 0 + length effective.clauses → uses_fault table told number clause ≡ uses_fault table (is_used effective) number clause =
    λ number clause within.
    let here : number < length c.args.marks.now = subst (λ n. number < n) (sym c.requires.long) (omega (arith, within)) in
    ap (λ b. cond b (unknown_libraries table.packages clause.«package» clause.item.uses) []) (marked.marked number here ∙ ap (λ b. b || is_used effective number) (c.requires.none number)) in
    noted-two c.args.reading.now.refusals c.note_effective.new.reading.refusals c.note_uses.new.refusals (effective_refusals table c.args.scopes.now effective) (numbered_from (uses_fault table (is_used effective)) 0 effective.clauses)
    c.in_ok-note_effective.ensures.noted
    (c.note_uses.ensures ∙ (λ i. noting c.note_effective.new.reading.refusals (numbered_from (uses_fault (kept i) told) 0 (c.items.ensures.items i))) ∙ ap (λ all. noting c.note_effective.new.reading.refusals all) (numbered-same (uses_fault table told) (uses_fault table (is_used effective)) 0 effective.clauses same))
