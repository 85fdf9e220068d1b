use Rattle.std.proofs.Common.{◌≡◌, [], cond, false, slice_index_or, ap, ◌∙◌}
use Rattle.noted_refusals.specs.inner.Noted.{noting}
use Rattle.error_libraries.specs.Libraries.{unknown_libraries}
use Rattle.used_sets.specs.Used.{uses_fault}
use Rattle.used_sets.proofs.MarkLaws.{numbered-noting}
use Rattle.used_sets.proofs.faults.note_uses.Goals as goal

pub loop-number-preserved : goal.loop-number-preserved
loop-number-preserved c =
    let table = c.args.types.now in
    let one = c.index-clauses-number.result in
    let i = c.loop-number.number in
    let home : c.package.result ≡ one.«package» = c.package.ensures in
    let uses : c.items-uses.result.now ≡ one.item.uses = c.items-uses.ensures.items ∙ ap (λ clause. clause.uses) c.item.ensures in
    numbered-noting (uses_fault table (λ number. slice_index_or c.args.marks.now number false)) c.args.clauses.now i one c.loop-number.refusals _ _ c.loop-number-test.true c.index-clauses-number.is
    (c.note_unknown_if.ensures ∙ (λ k. noting c.loop-number.refusals (cond (c.is_marked.ensures k) (unknown_libraries table.packages (home k) (uses k)) []))) c.loop-number.invariant
