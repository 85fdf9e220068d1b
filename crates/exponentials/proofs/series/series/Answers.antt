use Rattle.std.proofs.Common.{ℕ, ◌+◌, ◌-◌, ◌*◌, ◌^◌, ◌≤◌, ◌≡◌, refl, sym, ap, subst, arith}
use Rattle.std.proofs.Math.Nat.{mul-le-mul, le_of_mul-le-mul_left}
use Rattle.decimals.specs.Decimals.{parts, AreNear, HasPlaces}
use Rattle.decimals.proofs.Nearness.{near_more, more_places}
use Rattle.exponentials.specs.declared.span.Span.{Span}
use Rattle.exponentials.proofs.Summing.{least_chance, most_chance}
use Rattle.exponentials.proofs.Narrowing.{ten_pos, little, gap_near, sum_part, series_near, product_order, without_order}
use Rattle.exponentials.proofs.series.series.Goals as goal

pub returns-clause-low : goal.returns-clause-low
returns-clause-low c a b d m some within chance =
    least_chance c.args.whole a b d m c.args.x c.many-odd.result (parts c.without_low.result) (parts c.times_down.result) some c.requires within chance c.many-odd.ensures.terms c.without_low.ensures.low
    c.times_down.ensures.down

pub returns-clause-high : goal.returns-clause-high
returns-clause-high c a b d m some within chance =
    most_chance c.args.whole a b d m c.args.x c.next-even.result (parts c.without_high.result) (parts c.times_up.result) some c.requires within chance (c.next-even.ensures.terms 21 refl c.many-odd.ensures.terms)
    c.without_high.ensures.high c.times_up.ensures.up

pub returns-clause-narrow : goal.returns-clause-narrow
returns-clause-narrow c places units some x room =
    let w = c.args.whole in
    let s = 10 ^ w in
    let small : parts c.args.x.low ≤ s = omega (arith, x.order, c.requires) in
    let odd = c.many-odd.result in
    let even = c.next-even.result in
    let before = c.many-odd.ensures.narrow places units (omega arith) x small (omega arith) in
    let after = c.next-even.ensures.narrow 21 places units refl (omega arith) x small (omega arith) before in
    let times = 22 * (units + 52) in
    let one : 1 ≤ times = omega arith in
    let few : times ≤ 1000000000000000 = omega arith in
    let first = near_more (21 * (units + 52)) times (parts odd.latest.high) (parts odd.latest.low) (omega arith) before.latest.near in
    let top : 4 * (parts odd.latest.low + parts odd.other.low) ≤ 3 * s = omega (arith, before.few) in
    let gap = gap_near s times (parts odd.latest.low) (parts odd.latest.high) (parts odd.other.low) (parts even.latest.low) (parts even.latest.high) (parts even.term.low) one few first after.latest.near
    c.next-even.ensures.sum.low top (little (parts even.term.low) s after.small) in
    let part = sum_part s times (parts odd.latest.low) (parts odd.latest.high) (parts odd.other.low) one few first top in
    let same : parts even.other.low ≡ parts odd.latest.low = ap (λ (k : Span). parts k.low) c.next-even.ensures.other in
    let high : AreNear 2 (parts c.without_high.result) (s - parts odd.latest.low + parts even.latest.high) =
    subst (λ k. AreNear 2 (parts c.without_high.result) (s - k + parts even.latest.high)) same (c.without_high.ensures.near (omega (arith, same, top))) in
    let low = c.without_low.ensures.near part (omega arith) in
    let low_places : HasPlaces w (22 * (places + 18)) c.without_low.result =
    c.without_low.ensures.places (22 * (places + 18)) (omega arith) (more_places w (21 * (places + 18)) (22 * (places + 18)) odd.other.low.mantissa odd.other.low.exponent (omega arith) before.other.low_places) in
    let high_places : HasPlaces w (22 * (places + 18)) c.without_high.result = c.without_high.ensures.places (22 * (places + 18)) (omega arith) after.latest.high_places in
    let within : parts c.args.x.low * parts c.without_low.result ≤ s * (2 * s) = mul-le-mul small (omega (arith, c.without_low.ensures.low, part)) in
    let count : units + times * 15 + 6 ≡ 331 * units + 17166 = omega arith in
    let all : places + 22 * (places + 18) ≡ 23 * places + 396 = omega arith in
    let part_low : parts odd.other.low + parts odd.term.low ≤ parts odd.latest.high = before.odd 10 refl in
    let below : parts c.without_low.result ≤ s = omega (arith, c.without_low.ensures.low, part) in
    let sum = c.next-even.ensures.sum in
    let wide : parts c.without_low.result ≤ parts c.without_high.result =
    without_order s (parts odd.latest.low) (parts odd.latest.high) (parts odd.other.low) (parts odd.other.high) (parts even.term.high) (parts even.latest.high) (parts even.other.low) (parts c.without_low.result) (parts c.without_high.result)
    before.latest.order before.other.order (omega arith) part below same sum.high c.without_low.ensures.low c.without_high.ensures.high in
    let square : parts c.args.x.low * parts c.without_low.result ≤ s * s = mul-le-mul small below in
    record {
      order = le_of_mul-le-mul_left {k = s}
          (product_order s (parts c.args.x.high) (parts c.without_high.result) (parts c.args.x.low) (parts c.without_low.result) (parts c.times_up.result) (parts c.times_down.result) x.order wide square
          c.times_down.ensures.down c.times_up.ensures.up) (ten_pos w);
      low_places = subst (λ k. HasPlaces w k c.times_down.result) all (c.times_down.ensures.places places (22 * (places + 18)) x.low_places low_places (omega arith));
      high_places = subst (λ k. HasPlaces w k c.times_up.result) all (c.times_up.ensures.places places (22 * (places + 18)) x.high_places high_places (omega arith));
      near = subst (λ k. AreNear k (parts c.times_up.result) (parts c.times_down.result)) count
          (series_near s units (times * 15) (parts c.args.x.high) (parts c.args.x.low) (parts c.without_high.result) (parts c.without_low.result) (s - parts odd.latest.low + parts even.latest.high)
          (s - parts odd.latest.high + parts odd.other.low) (parts c.times_up.result) (parts c.times_down.result) (ten_pos w)
          (c.times_up.ensures.near places (22 * (places + 18)) x.high_places high_places (omega arith)) x.near high gap low
          (c.times_down.ensures.near places (22 * (places + 18)) x.low_places low_places (omega arith) (omega arith)));
    }
