use Rattle.std.proofs.Common.{◌||◌, map, take, ap, sym, ◌∙◌, arith}
use Rattle.std.specs.List.{list_any}
use Rattle.fault_system.specs.Truth.{member, truth}
use Rattle.fault_system.specs.Rounds.{no_event, only}
use Rattle.system_review.proofs.Beginning.{any-of, or-assoc, part-false, part-more, tried-all}
use Rattle.system_review.proofs.single.+singles.Goals as goal

pub mark_single_of-loop-part-preserved : goal.mark_single_of-loop-part-preserved
mark_single_of-loop-part-preserved t c =
    let facts = member c.args.facts.now in
    let parts = c.args.parts.now in
    let i = c.loop-part.part-index in
    let was = c.loop-part.invariant in
    record {
      size = c.mark_single.ensures.size ∙ was.size;
      marks = λ none m low.
          c.mark_single.ensures.marks (part-false (truth no_event facts) parts i c.part-item.result c.loop-part-test.true c.part-item.is none) m (omega (arith, low, was.size))
          ∙ ap (λ b. b || truth (only m) facts c.part-item.result) (was.marks none m low)
          ∙ or-assoc (member c.args.marks.now m) (list_any (λ part. part) (map (truth (only m) facts) (take i parts))) (truth (only m) facts c.part-item.result)
          ∙ ap (λ b. member c.args.marks.now m || b) (sym (part-more (truth (only m) facts) parts i c.part-item.result c.loop-part-test.true c.part-item.is));
    }

pub mark_single-returns-in-Or-clause-marks : goal.mark_single-returns-in-Or-clause-marks
mark_single-returns-in-Or-clause-marks t c lacks m low =
    let facts = member c.args.facts.now in
    c.mark_single_of.ensures.marks (any-of no_event facts c.args.formula.now c.in-Or.parts c.items.result.now c.in-Or.is c.items.ensures.items ∙ lacks) m low
    ∙ ap (λ b. member c.args.marks.now m || b) (any-of (only m) facts c.args.formula.now c.in-Or.parts c.items.result.now c.in-Or.is c.items.ensures.items)

pub mark_single-returns-in-And-clause-marks : goal.mark_single-returns-in-And-clause-marks
mark_single-returns-in-And-clause-marks t c lacks m low =
    c.mark_tried.ensures.marks m low ∙ ap (λ b. member c.args.marks.now m || b) (tried-all (member c.args.facts.now) m c.args.formula.now lacks)
