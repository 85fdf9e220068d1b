use Rattle.std.proofs.Common.{◌≡◌, ◌++◌, filter, take}
use Rattle.hazard_records.specs.Meaning.{ends_with, name_at}
use Rattle.hazard_records.proofs.meaning.add_those.Given as goal

abbrev pub invariant-loop-number : goal.invariant-loop-number
invariant-loop-number l = l.numbers ≡ l.fn.numbers ++ filter (λ number. ends_with l.end (name_at l.facts number)) (take l.number-index l.all)
