use Rattle.std.proofs.Common.{◌+◌, ◌-◌, ◌^◌, ◌≡◌, min, ap, subst, arith}
use Rattle.decimals.specs.Decimals.{parts, AreNear}
use Rattle.decimals.proofs.Nearness.{near_same, near_then, near_plus, more_places}
use Rattle.exponentials.proofs.series.without_low.Goals as goal

pub returns-clause-near : goal.returns-clause-near
returns-clause-near c part added =
    let s = 10 ^ c.args.whole in
    let t = parts c.args.taken in
    let a = parts c.args.added in
    let r = parts c.rest_down.result in
    let same : parts c.within.result ≡ t = omega (arith, c.within.ensures.value) in
    let rest : AreNear 1 (s - t) r = subst (λ k. AreNear 1 (s - k) r) same c.rest_down.ensures.near in
    near_then 1 1 (s - t + a) (r + a) (parts c.plus_down.result) (near_plus 1 (s - t) r a a rest (near_same 1 a)) (c.plus_down.ensures.near (omega (arith, c.rest_down.ensures.down)))

pub returns-clause-places : goal.returns-clause-places
returns-clause-places c places few have =
    c.plus_down.ensures.places places (more_places c.args.whole 36 places c.rest_down.result.mantissa c.rest_down.result.exponent few c.rest_down.ensures.places) have
