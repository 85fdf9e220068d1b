use Rattle.std.proofs.Common.{ℕ, ◌≤◌, List, length, sym, subst, arith}
use Rattle.std.proofs.lemmas.List.{take_all}
use Rattle.fault_system.specs.Truth.{Has, set_of}
use Rattle.fmea_rows.proofs.passing.are_timed.Goals as goal

pub returns : goal.returns
returns c =
    let all : length c.args.facts.now ≤ c.loop-fact.fact-index = omega arith in
    λ yes n h. c.loop-fact.invariant n (subst (λ (xs : List ℕ). Has (set_of xs) n) (sym (take_all c.loop-fact.fact-index c.args.facts.now all)) h)
