use Rattle.std.proofs.Common.{◌-◌, arith}
use Rattle.decimals.proofs.Sums.{aligned_exact, no_other, sum_cut, sum_full, short_sum, places_sum}
use Rattle.decimals.proofs.aligned.sum_from.Goals as goal

pub returns-then-high-eq0-clause-value : goal.returns-then-high-eq0-clause-value
returns-then-high-eq0-clause-value c =
    let a = c.args.high in
    let b = c.args.low in
    aligned_exact c.args.side _ b.mantissa b.exponent b.short (no_other a.mantissa a.exponent b.mantissa b.exponent c.if-high-eq0.true)

pub returns-then-low-eq0-clause-value : goal.returns-then-low-eq0-clause-value
returns-then-low-eq0-clause-value c =
    let a = c.args.high in
    let b = c.args.low in
    let e = no_other b.mantissa b.exponent a.mantissa a.exponent c.if-low-eq0.true in
    aligned_exact c.args.side _ a.mantissa a.exponent a.short (omega arith)

pub returns-clause-value : goal.returns-clause-value
returns-clause-value c =
    let a = c.args.high in
    let b = c.args.low in
    let t = c.min-lift.result in
    let r = c.cut-rest in
    let g = a.exponent - b.exponent in
    rw c.power.ensures record {
      short = short_sum a.mantissa t r.result a.short (omega (arith, c.min-lift.ensures)) (omega (arith, r.ensures.few, b.short));
      cut = sum_cut c.args.side a.mantissa a.exponent b.mantissa b.exponent t g r.result (omega (arith, c.requires)) (omega (arith, c.min-lift.ensures)) r.ensures.cut;
      full = sum_full c.args.side a.mantissa a.exponent b.mantissa b.exponent t g r.result (omega (arith, c.requires)) (omega (arith, c.min-lift.ensures)) (omega (arith, c.if-high-eq0.false)) r.ensures.cut;
    }

pub returns-then-high-eq0-clause-places : goal.returns-then-high-eq0-clause-places
returns-then-high-eq0-clause-places c whole places first second = second

pub returns-then-low-eq0-clause-places : goal.returns-then-low-eq0-clause-places
returns-then-low-eq0-clause-places c whole places first second = first

pub returns-clause-places : goal.returns-clause-places
returns-clause-places c whole places first second =
    places_sum whole places c.args.high.exponent c.args.low.mantissa c.args.low.exponent c.min-lift.result _ (omega (arith, c.if-low-eq0.false)) (omega (arith, c.requires, c.min-lift.ensures)) second
