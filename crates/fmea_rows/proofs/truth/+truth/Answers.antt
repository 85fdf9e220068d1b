use Rattle.std.proofs.Common.{◌≤◌, length, refl, slice_range, take, sym, ◌∙◌, arith}
use Rattle.fault_system.specs.Truth.{member, truth}
use Rattle.fault_system.specs.Rounds.{time_of}
use Rattle.fault_system.specs.inner.Rounds.{within}
use Rattle.fmea_rows.proofs.AnyLaws.{any-before, any-within, none-first, none-within}
use Rattle.fmea_rows.proofs.truth.+truth.Goals as goal

pub is_any-returns-then-is_true : goal.is_any-returns-then-is_true
is_any-returns-then-is_true t c =
    sym (any-within (truth (member c.args.run.now.only.now) (within (time_of c.args.run.now.times.now) c.args.most)) c.min-begin.result (length c.args.parts.now) c.args.parts.now c.loop-part.part-index c.part-item.result c.loop-part-test.true c.part-item.is (sym c.is_true.ensures ∙ c.if-is_true.true))

pub is_any-returns-then-is_true-2 : goal.is_any-returns-then-is_true-2
is_any-returns-then-is_true-2 t c =
    sym (any-before (truth (member c.args.run.now.only.now) (within (time_of c.args.run.now.times.now) c.args.most)) c.min-begin.result c.args.parts.now c.loop-part-2.part-index c.part-item-in-loop-part-2.result c.loop-part-2-test.true c.part-item-in-loop-part-2.is (sym c.is_true-in-loop-part-2.ensures ∙ c.if-is_true-2.true))

pub is_any-loop-part-2-init : goal.is_any-loop-part-2-init
is_any-loop-part-2-init t c =
    let all : length (slice_range c.args.parts.now c.min-begin.result (length c.args.parts.now)) ≤ c.loop-part.part-index = omega (arith, c.loop-part-test.false) in
    (none-first (truth (member c.args.run.now.only.now) (within (time_of c.args.run.now.times.now) c.args.most)) (slice_range c.args.parts.now c.min-begin.result (length c.args.parts.now)) c.loop-part.part-index all c.loop-part.invariant, refl)

pub is_any-returns : goal.is_any-returns
is_any-returns t c =
    let all : length (take c.min-begin.result c.args.parts.now) ≤ c.loop-part-2.part-index = omega (arith, c.loop-part-2-test.false) in
    sym (none-within (truth (member c.args.run.now.only.now) (within (time_of c.args.run.now.times.now) c.args.most)) c.min-begin.result c.args.parts.now c.loop-part-2.invariant.0
    (none-first (truth (member c.args.run.now.only.now) (within (time_of c.args.run.now.times.now) c.args.most)) (take c.min-begin.result c.args.parts.now) c.loop-part-2.part-index all c.loop-part-2.invariant.1))
