use Rattle.std.proofs.Common.{◌≡◌, ◌+◌, ◌≤◌, false, length, map, drop, take, slice_range}
use Rattle.std.specs.List.{list_all, list_any}
use Rattle.fault_system.specs.Truth.{count_true, member, truth}
use Rattle.fault_system.specs.Rounds.{time_of}
use Rattle.fault_system.specs.inner.Rounds.{within}
use Rattle.fmea_rows.proofs.truth.+truth.Given as goal

abbrev pub invariant-are_all-loop-part : goal.invariant-are_all-loop-part
invariant-are_all-loop-part l =
    list_all (λ part. part) (map (truth (member l.run.only.now) (within (time_of l.run.times.now) l.most)) (drop l.part-index l.parts))
    ≡ list_all (λ part. part) (map (truth (member l.run.only.now) (within (time_of l.run.times.now) l.most)) l.parts)

abbrev pub invariant-are_true-loop-part : goal.invariant-are_true-loop-part
invariant-are_true-loop-part l =
    (l.count ≤ l.part-index) × (l.count + count_true (map (truth (member l.run.only.now) (within (time_of l.run.times.now) l.most)) (drop l.part-index l.parts)) ≡ count_true (map (truth (member l.run.only.now) (within (time_of l.run.times.now) l.most)) l.parts))

abbrev pub invariant-is_any-loop-part : goal.invariant-is_any-loop-part
invariant-is_any-loop-part l =
    list_any (λ part. part) (map (truth (member l.run.only.now) (within (time_of l.run.times.now) l.most)) (take l.part-index (slice_range l.parts l.begin (length l.parts)))) ≡ false

abbrev pub invariant-is_any-loop-part-2 : goal.invariant-is_any-loop-part-2
invariant-is_any-loop-part-2 l =
    (list_any (λ part. part) (map (truth (member l.run.only.now) (within (time_of l.run.times.now) l.most)) (slice_range l.parts l.begin (length l.parts))) ≡ false)
    × (list_any (λ part. part) (map (truth (member l.run.only.now) (within (time_of l.run.times.now) l.most)) (take l.part-index (take l.begin l.parts))) ≡ false)
