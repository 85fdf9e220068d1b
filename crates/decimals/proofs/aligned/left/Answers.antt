use Rattle.std.proofs.Common.{◌-◌, ◌+◌, ◌*◌, ◌^◌, ◌≡◌, ◌≤◌, ap, arith}
use Rattle.decimals.specs.inner.Decimals.{IsCut, opposite}
use Rattle.decimals.proofs.Sums.{aligned_exact, few_zeros, left_fits, left_cut, left_full}
use Rattle.decimals.proofs.aligned.left.Goals as goal

pub returns-then-taken-eq0-clause-value : goal.returns-then-taken-eq0-clause-value
returns-then-taken-eq0-clause-value c =
    let a = c.args.taken in
    let e : a.mantissa * 10 ^ a.exponent ≡ 0 * 10 ^ a.exponent = ap (λ t. t * 10 ^ a.exponent) c.if-taken-eq0.true in
    aligned_exact c.args.side _ 1 c.args.whole (omega arith) (omega arith)

pub overflow_sub-gap : goal.overflow_sub-gap
overflow_sub-gap c = few_zeros c.args.taken.mantissa c.args.taken.exponent c.args.whole (omega (arith, c.if-taken-eq0.false)) c.requires

pub overflow_sub-result : goal.overflow_sub-result
overflow_sub-result c =
    let a = c.args.taken in
    let w = c.args.whole in
    let le : a.exponent ≤ w = few_zeros a.mantissa a.exponent w (omega (arith, c.if-taken-eq0.false)) c.requires in
    rw c.wide_power.ensures.value
    (left_fits c.opposite.result a.mantissa c.cut-part.result a.exponent w (w - a.exponent) c.min-lift.result (omega arith) (omega (arith, c.min-lift.ensures)) c.requires
    (omega (arith, c.cut-part.ensures.few, a.short)) c.cut-part.ensures.cut)

pub returns-clause-value : goal.returns-clause-value
returns-clause-value c =
    let a = c.args.taken in
    let w = c.args.whole in
    let g = w - a.exponent in
    let t = c.min-lift.result in
    let p = c.cut-part.result in
    let n = c.wide_power.result - p in
    let le : a.exponent ≤ w = few_zeros a.mantissa a.exponent w (omega (arith, c.if-taken-eq0.false)) c.requires in
    let few : p ≤ 1000000000000000000 = omega (arith, c.cut-part.ensures.few, a.short) in
    let lift = c.min-lift.ensures in
    let fits = left_fits c.opposite.result a.mantissa p a.exponent w g t (omega arith) lift c.requires few c.cut-part.ensures.cut in
    let np : n + p ≡ 10 ^ t = omega (arith, c.wide_power.ensures.value) in
    let cut : IsCut (opposite c.args.side) a.mantissa p (10 ^ (g - t)) = rw c.opposite.ensures at c.cut-part.ensures.cut in
    record {
      short = omega (arith, c.wide_power.ensures.most);
      cut = left_cut c.args.side a.mantissa p a.exponent w g t n (omega arith) (omega arith) c.requires np cut;
      full = left_full (opposite c.args.side) a.mantissa p a.exponent w g t n (omega arith) lift few np cut;
    }

pub returns-clause-places : goal.returns-clause-places
returns-clause-places c = omega (arith, c.min-lift.ensures)
