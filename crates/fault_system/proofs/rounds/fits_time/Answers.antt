use Rattle.std.proofs.Common.{◌∙◌, sym, arith}
use Rattle.fault_system.specs.Rounds.{time_of}
use Rattle.fault_system.proofs.Fitting.{fits_none, fits_first, fits_later}
use Rattle.fault_system.proofs.rounds.fits_time.Goals as goal

pub returns-then-time-eq0 : goal.returns-then-time-eq0
returns-then-time-eq0 c = fits_none _ (time_of c.args.times.now) _ _ 4294967295 _ (λ n. omega (arith, c.type_inv.times n)) c.if-time-eq0.true c.is_true_within.ensures

pub returns-then-time-eq1 : goal.returns-then-time-eq1
returns-then-time-eq1 c = fits_first _ _ _ _ _ c.if-time-eq1.true c.is_true_within-comes.ensures

pub returns-then-comes : goal.returns-then-comes
returns-then-comes c = fits_later _ _ _ _ _ c.if-time-eq0.false c.if-time-eq1.false (sym c.is_true_within-comes.ensures ∙ c.if-comes.true) c.is_true_within-then-comes.ensures
