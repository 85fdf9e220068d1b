use Rattle.std.proofs.Common.{ℕ, ◌≡◌, refl, subst, arith}
use Rattle.exponentials.specs.inner.Terms.{AreTerms}
use Rattle.exponentials.specs.inner.Widths.{AreNarrowTerms}
use Rattle.exponentials.proofs.series.Terms.many.Goals as goal

pub loop-index-init : goal.loop-index-init
loop-index-init c = record { terms = c.first-terms.ensures.terms c.args.x; narrow = λ places units few narrow small room. c.first-terms.ensures.narrow places units }

pub loop-index-preserved : goal.loop-index-preserved
loop-index-preserved c =
    record {
      terms = c.next-terms.ensures.terms c.loop-index.index refl c.loop-index.invariant.terms;
      narrow = λ places units few narrow small room.
          c.next-terms.ensures.narrow c.loop-index.index places units refl (omega (arith, c.loop-index-test.true, few)) narrow small room (c.loop-index.invariant.narrow places units few narrow small room);
    }

pub returns-clause-terms : goal.returns-clause-terms
returns-clause-terms c =
    let all : c.loop-index.index ≡ c.args.count = omega (arith, c.loop-index-test.false, c.loop-index.auto.index-end) in
    subst (λ (n : ℕ). AreTerms c.args.whole c.args.x n c.loop-index.terms) all c.loop-index.invariant.terms

pub returns-clause-narrow : goal.returns-clause-narrow
returns-clause-narrow c places units few narrow small room =
    let all : c.loop-index.index ≡ c.args.count = omega (arith, c.loop-index-test.false, c.loop-index.auto.index-end) in
    subst (λ (n : ℕ). AreNarrowTerms c.args.whole places units n c.loop-index.terms) all (c.loop-index.invariant.narrow places units few narrow small room)
