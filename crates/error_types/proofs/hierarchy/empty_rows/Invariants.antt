use Rattle.std.proofs.Common.{◌≡◌, false, map, replicate}
use Rattle.plain_values.specs.Numbered.{numbers_below}
use Rattle.error_types.proofs.hierarchy.empty_rows.Given as goal

abbrev pub invariant-loop : goal.invariant-loop
invariant-loop l = l.rows.items ≡ map (λ _. replicate l.count false) (numbers_below l.counter)
