use Rattle.std.proofs.Common.{ℕ, ◌-◌, ◌≡◌, ◌≤◌, List, ◌∙◌, ap, sym, subst, arith}
use Rattle.fault_system.specs.Truth.{member, truth}
use Rattle.fault_system.specs.Rounds.{time_of}
use Rattle.fault_system.specs.inner.Rounds.{within}
use Rattle.fault_system.proofs.Fitting.{fits_none, fits_first, fits_later}
use Rattle.fmea_rows.proofs.truth.fits_time.Goals as goal

pub returns-then-time-eq0 : goal.returns-then-time-eq0
returns-then-time-eq0 c = (fits_none (member c.args.run.now.only.now) (time_of c.args.run.now.times.now) c.args.formula.now (time_of c.args.run.now.times.now c.args.number) 4294967295 c.is_true.result
    (subst (λ (times : List ℕ). (n : ℕ) → time_of times n ≤ 4294967295) c.requires (λ n. omega (arith, c.type_inv.times n)))
    (ap (λ (times : List ℕ). time_of times c.args.number) (sym c.requires) ∙ sym c.time_at-time.ensures ∙ c.if-time-eq0.true) c.is_true.ensures).0

pub returns-then-time-eq1 : goal.returns-then-time-eq1
returns-then-time-eq1 c = (fits_first (member c.args.run.now.only.now) (time_of c.args.run.now.times.now) c.args.formula.now (time_of c.args.run.now.times.now c.args.number) c.is_true-comes.result
    (is c.time_at-time.ensures ∙ c.if-time-eq1.true)
    (c.is_true-comes.ensures ∙ ap (λ (r : ℕ). truth (member c.args.run.now.only.now) (within (time_of c.args.run.now.times.now) (r - 1)) c.args.formula.now) (sym (is c.time_at-time.ensures)))).0 where
      is : c.time_at-time.result ≡ time_of c.args.times.now c.args.number → time_of c.args.run.now.times.now c.args.number ≡ c.time_at-time.result
      is e = ap (λ (times : List ℕ). time_of times c.args.number) (sym c.requires) ∙ sym e

pub returns-then-comes : goal.returns-then-comes
returns-then-comes c = (fits_later (member c.args.run.now.only.now) (time_of c.args.run.now.times.now) c.args.formula.now (time_of c.args.run.now.times.now c.args.number) c.is_true-then-comes.result
    (λ e. c.if-time-eq0.false (sym (is c.time_at-time.ensures) ∙ e)) (λ e. c.if-time-eq1.false (sym (is c.time_at-time.ensures) ∙ e))
    (at 1 ∙ sym c.is_true-comes.ensures ∙ c.if-comes.true) (c.is_true-then-comes.ensures ∙ sym (at 2))).0 where
      is : c.time_at-time.result ≡ time_of c.args.times.now c.args.number → time_of c.args.run.now.times.now c.args.number ≡ c.time_at-time.result
      is e = ap (λ (times : List ℕ). time_of times c.args.number) (sym c.requires) ∙ sym e

      at : (k : ℕ) → truth (member c.args.run.now.only.now) (within (time_of c.args.run.now.times.now) (time_of c.args.run.now.times.now c.args.number - k)) c.args.formula.now ≡ truth (member c.args.run.now.only.now) (within (time_of c.args.run.now.times.now) (c.time_at-time.result - k)) c.args.formula.now
      at k = ap (λ (r : ℕ). truth (member c.args.run.now.only.now) (within (time_of c.args.run.now.times.now) (r - k)) c.args.formula.now) (is c.time_at-time.ensures)
