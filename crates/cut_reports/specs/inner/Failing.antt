-- A report that fails as it is told.
use Rattle.std.specs.Prelude.{ℕ, Bool, List, Option, None, nat_eq, if◌then◌else◌}
use Rattle.std.specs.List.{list_any}
use Rattle.fta_outside.specs.inner.Memory.{one_more}

-- A report for tests: the numbers of the calls that fail, how many calls there were, how many of them failed, and for how many
-- events it was begun.
pub record Failing : Type 0 where
  pub failing : List ℕ
  pub calls : ℕ
  pub failed : ℕ
  pub begun : Option ℕ

-- A call fails exactly if its number is listed.
abbrev pub call_fails : Failing → Bool
call_fails report = list_any (λ call. nat_eq call report.calls) report.failing

-- the report after a call, which leaves it begun for so many events if it does not fail
abbrev pub after_call : Failing → Option ℕ → Failing
after_call report begun = record report { calls = one_more report.calls; failed = if call_fails report then one_more report.failed else report.failed; begun = if call_fails report then None else begun }
