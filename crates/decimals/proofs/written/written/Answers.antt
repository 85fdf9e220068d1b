use Rattle.std.proofs.Common.{ℕ, ◌-◌, ◌*◌, ◌^◌, ◌≡◌, ◌≤◌, refl, sym, ap, arith}
use Rattle.decimals.proofs.Powers.{ten_pos, ten_sum}
use Rattle.decimals.proofs.Cuts.{cut_same, cut_exact, cut_times}
use Rattle.decimals.proofs.written.written.Goals as goal

-- digits with places behind the point, at a whole that has room for them
exact : (digits places whole : ℕ) → places ≤ whole → digits * 10 ^ (whole - places) * 10 ^ places ≡ digits * 10 ^ whole
exact digits places whole fit =
    let h : digits * 10 ^ whole ≡ digits * (10 ^ (whole - places) * 10 ^ places) = ap (λ k. digits * k) (ten_sum whole (whole - places) places (omega arith)) in
    omega arith

pub returns-then-places-whole-clause-cut : goal.returns-then-places-whole-clause-cut
returns-then-places-whole-clause-cut c =
    cut_exact c.args.side (c.args.digits * 10 ^ c.args.whole) (c.args.digits * 10 ^ (c.args.whole - c.args.places)) (10 ^ c.args.places) (ten_pos c.args.places)
    (sym (exact c.args.digits c.args.places c.args.whole c.if-places-whole.true))

pub returns-then-places-whole-clause-exact : goal.returns-then-places-whole-clause-exact
returns-then-places-whole-clause-exact c fit = exact c.args.digits c.args.places c.args.whole fit

pub returns-clause-cut : goal.returns-clause-cut
returns-clause-cut c =
    let k = c.args.places - c.args.whole in
    let e = ten_sum c.args.places k c.args.whole (omega (arith, c.if-places-whole.false)) in
    cut_same c.args.side refl (omega arith) (sym e) (cut_times c.args.side c.args.digits c.cut.result (10 ^ k) (10 ^ c.args.whole) (ten_pos c.args.whole) c.cut.ensures.cut)
