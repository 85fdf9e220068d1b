use Rattle.std.proofs.Common.{ℕ, ◌+◌, ◌*◌, ◌^◌, ◌≤◌}
use Rattle.decimals.specs.Decimals.{parts}
use Rattle.exponentials.specs.inner.Terms.{AreTerms}
use Rattle.exponentials.specs.inner.Widths.{IsNarrow, AreNarrowTerms}
use Rattle.exponentials.proofs.series.Terms.many.Given as goal

abbrev pub invariant-loop-index : goal.invariant-loop-index
invariant-loop-index l =
    record {
      terms : AreTerms l.whole l.x l.index l.terms;
      narrow : (places units : ℕ) → l.count ≤ 22 → IsNarrow l.whole places units l.x → parts l.x.low ≤ 10 ^ l.whole → 22 * (places + 18) ≤ l.whole → AreNarrowTerms l.whole places units l.index l.terms;
    }
