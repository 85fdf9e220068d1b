use Rattle.std.proofs.Common.{ℕ, ◌-◌, ◌*◌, ◌^◌, ◌≡◌, ◌≤◌, refl, sym, ap, arith}
use Rattle.decimals.proofs.Powers.{ten_pos, ten_sum, great_power}
use Rattle.decimals.proofs.Cuts.{cut_same, cut_exact, cut_little, cut_times}
use Rattle.decimals.proofs.read.placed.Goals as goal

lower_power : (m r l : ℕ) → l ≤ r → m * 10 ^ (r - l) * 10 ^ l ≡ m * 10 ^ r
lower_power m r l less =
    let h : m * 10 ^ r ≡ m * (10 ^ (r - l) * 10 ^ l) = ap (λ k. m * k) (ten_sum r (r - l) l (omega arith)) in
    omega arith

pub returns-then-mantissa-eq0-clause-cut : goal.returns-then-mantissa-eq0-clause-cut
returns-then-mantissa-eq0-clause-cut c =
    let e : c.args.mantissa * 10 ^ c.args.raised ≡ 0 * 10 ^ c.args.raised = ap (λ t. t * 10 ^ c.args.raised) c.if-mantissa-eq0.true in
    cut_exact c.args.side (c.args.mantissa * 10 ^ c.args.raised) 0 (10 ^ c.args.lowered) (ten_pos c.args.lowered) (omega arith)

pub returns-then-lowered-raised-clause-cut : goal.returns-then-lowered-raised-clause-cut
returns-then-lowered-raised-clause-cut c =
    let l = c.args.lowered in
    let r = c.args.raised in
    let m = c.args.mantissa in
    cut_exact c.args.side (m * 10 ^ r) (m * 10 ^ (r - l)) (10 ^ l) (ten_pos l) (sym (lower_power m r l c.if-lowered-raised.true))

pub returns-then-lowered-raised-clause-exact : goal.returns-then-lowered-raised-clause-exact
returns-then-lowered-raised-clause-exact c less = lower_power c.args.mantissa c.args.raised c.args.lowered less

pub returns-then-count-gt18-clause-cut : goal.returns-then-count-gt18-clause-cut
returns-then-count-gt18-clause-cut c =
    let l = c.args.lowered in
    let r = c.args.raised in
    let m = c.args.mantissa in
    let g = great_power (l - r) (omega (arith, c.if-count-gt18.true)) in
    let little = cut_little c.args.side m (10 ^ (l - r)) (omega (arith, c.if-mantissa-eq0.false)) (omega (arith, c.requires)) in
    cut_same c.args.side refl (omega (arith, c.least.ensures)) (sym (ten_sum l (l - r) r (omega (arith, c.if-lowered-raised.false))))
    (cut_times c.args.side m _ (10 ^ (l - r)) (10 ^ r) (ten_pos r) little)

pub returns-clause-cut : goal.returns-clause-cut
returns-clause-cut c =
    let l = c.args.lowered in
    let r = c.args.raised in
    cut_same c.args.side refl (omega arith) (sym (ten_sum l (l - r) r (omega (arith, c.if-lowered-raised.false))))
    (cut_times c.args.side c.args.mantissa c.cut.result (10 ^ (l - r)) (10 ^ r) (ten_pos r) c.cut.ensures.cut)
