use Rattle.std.proofs.Common.{◌+◌, ◌-◌, ◌^◌, ◌≡◌, min, ap, subst, arith}
use Rattle.decimals.specs.Decimals.{parts, AreNear}
use Rattle.decimals.proofs.Nearness.{near_same, near_then, near_plus, more_places}
use Rattle.exponentials.proofs.series.without_high.Goals as goal

pub returns-clause-near : goal.returns-clause-near
returns-clause-near c part =
    let s = 10 ^ c.args.whole in
    let t = parts c.args.taken in
    let a = parts c.args.added in
    let r = parts c.rest_up.result in
    let same : parts c.within.result ≡ t = omega (arith, c.within.ensures.value) in
    let rest : AreNear 1 r (s - t) = subst (λ k. AreNear 1 r (s - k)) same c.rest_up.ensures.near in
    near_then 1 1 (parts c.plus_up.result) (r + a) (s - t + a) c.plus_up.ensures.near (near_plus 1 r (s - t) a a rest (near_same 1 a))

pub returns-clause-places : goal.returns-clause-places
returns-clause-places c places few have =
    c.plus_up.ensures.places places (more_places c.args.whole 36 places c.rest_up.result.mantissa c.rest_up.result.exponent few c.rest_up.ensures.places) have
