use Rattle.std.proofs.Common.{◌≡◌, false, filter, slice_index_or}
use Rattle.plain_values.specs.Numbered.{numbers_below}
use Rattle.model_facts.proofs.universe.marked.Given as goal

abbrev pub invariant-loop-number : goal.invariant-loop-number
invariant-loop-number l = l.numbers ≡ filter (λ number. slice_index_or l.marks number false) (numbers_below l.number)
