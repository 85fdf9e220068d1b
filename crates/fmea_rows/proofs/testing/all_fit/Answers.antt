use Rattle.std.proofs.Common.{ℕ, ◌≤◌, List, length, sym, subst, ⊎_elim, arith}
use Rattle.std.proofs.lemmas.List.{take_all}
use Rattle.fault_system.specs.Truth.{Has, set_of}
use Rattle.fmea_rows.specs.inner.Tables.{Fits, tested_of}
use Rattle.fmea_rows.proofs.TestLaws.{among-more}
use Rattle.fmea_rows.proofs.testing.all_fit.Goals as goal

pub loop-fact-preserved : goal.loop-fact-preserved
loop-fact-preserved c = record {
  tested = c.fits_once.ensures.tested;
  fit = λ n h. ⊎_elim (λ was. c.loop-fact.invariant.fit n was)
      (λ same. subst (Fits (tested_of c.args.run.now)) same (c.fits_once.ensures.fits c.if-not-fits_once.false))
      (among-more c.args.facts.now c.loop-fact.fact-index 0 n c.loop-fact-test.true h);
}

pub returns-clause-fit : goal.returns-clause-fit
returns-clause-fit c =
    let all : length c.args.facts.now ≤ c.loop-fact.fact-index = omega arith in
    λ yes n h. c.loop-fact.invariant.fit n (subst (λ (xs : List ℕ). Has (set_of xs) n) (sym (take_all c.loop-fact.fact-index c.args.facts.now all)) h)
