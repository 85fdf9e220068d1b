use Rattle.std.proofs.Common.{◌≤◌, List, length, sym, subst, ⊎_elim, arith}
use Rattle.std.proofs.lemmas.List.{take_all}
use Rattle.fault_system.specs.Truth.{Has, set_of}
use Rattle.fmea_rows.specs.inner.Tables.{FitsAround, facts_of, tested_of}
use Rattle.fmea_rows.specs.declared.change.Change.{Change}
use Rattle.fmea_rows.proofs.TestLaws.{among-changes}
use Rattle.fmea_rows.proofs.testing.fit_around.Goals as goal

pub loop-change-preserved : goal.loop-change-preserved
loop-change-preserved c =
    let d : Change = record { fact = 0; time = 0 } in
    record {
      tested = c.fits_with_users.ensures.tested;
      fit = λ g h. ⊎_elim (λ was. c.loop-change.invariant.fit g was)
          (λ same. subst (FitsAround (tested_of c.args.run.now) c.args.users.now) same (c.fits_with_users.ensures.fit c.if-not-fits_with_users.false))
          (among-changes c.args.changes.now c.loop-change.change-index d g c.loop-change-test.true h);
    }

pub returns-clause-fit : goal.returns-clause-fit
returns-clause-fit c =
    let all : length c.args.changes.now ≤ c.loop-change.change-index = omega arith in
    λ yes g h. c.loop-change.invariant.fit g (subst (λ (cs : List Change). Has (set_of (facts_of cs)) g) (sym (take_all c.loop-change.change-index c.args.changes.now all)) h)
