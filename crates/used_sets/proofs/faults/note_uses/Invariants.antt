use Rattle.std.proofs.Common.{◌≡◌, false, drop, slice_index_or}
use Rattle.noted_refusals.specs.inner.Noted.{noting}
use Rattle.plain_values.specs.Numbered.{numbered_from}
use Rattle.used_sets.specs.Used.{uses_fault}
use Rattle.used_sets.proofs.faults.note_uses.Given as goal

abbrev pub invariant-loop-number : goal.invariant-loop-number
invariant-loop-number l =
    noting l.refusals (numbered_from (uses_fault l.types (λ number. slice_index_or l.marks number false)) l.number (drop l.number l.clauses)) ≡ noting l.fn.refusals (numbered_from (uses_fault l.types (λ number. slice_index_or l.marks number false)) 0 l.clauses)
