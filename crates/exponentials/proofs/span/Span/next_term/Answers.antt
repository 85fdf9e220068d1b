use Rattle.std.proofs.Common.{ℕ, ◌+◌, ◌*◌, ◌^◌, ◌≤◌, min, arith}
use Rattle.std.proofs.Math.Nat.{mul-le-mul, mul-le-mul_left}
use Rattle.decimals.specs.Decimals.{parts}
use Rattle.exponentials.proofs.Narrowing.{ten_pos, term_near, term_order}
use Rattle.exponentials.proofs.span.Span.next_term.Goals as goal

low : (s q r c p : ℕ) → s * q ≤ p → r * c ≤ q → s * (r * c) ≤ p
low s q r c p first second = let h : s * (r * c) ≤ s * q = mul-le-mul_left s second in omega arith

high : (s q r c p : ℕ) → min (s * s) p ≤ s * q → q ≤ r * c → min (s * s) p ≤ s * (r * c)
high s q r c p first second = let h : s * q ≤ s * (r * c) = mul-le-mul_left s second in omega arith

pub returns-clause-next : goal.returns-clause-next
returns-clause-next c =
    record {
      low = low _ _ _ c.args.count _ c.times_down.ensures.down c.over_down.ensures.down;
      high = high _ _ _ c.args.count _ c.times_up.ensures.up c.over_up.ensures.up;
    }

pub returns-clause-narrow : goal.returns-clause-narrow
returns-clause-narrow c p q i j term x part small few fit =
    let w = c.args.whole in
    let down = c.times_down.ensures.places p q term.low_places x.low_places (omega arith) in
    let up = c.times_up.ensures.places p q term.high_places x.high_places (omega arith) in
    let within : parts c.args.self.low * parts c.args.x.low ≤ 10 ^ w * 10 ^ w = mul-le-mul part small in
    record {
      low_places = c.over_down.ensures.places w (p + q) down;
      high_places = c.over_up.ensures.places w (p + q) up;
      order = term_order (10 ^ w) c.args.count (parts c.args.self.high) (parts c.args.x.high) (parts c.args.self.low) (parts c.args.x.low) (parts c.over_up.result) (parts c.over_down.result) (ten_pos w)
          c.requires term.order x.order within (low _ _ _ c.args.count _ c.times_down.ensures.down c.over_down.ensures.down) (high _ _ _ c.args.count _ c.times_up.ensures.up c.over_up.ensures.up);
      near = term_near (10 ^ w) c.args.count i j (parts c.args.self.high) (parts c.args.x.high) (parts c.args.self.low) (parts c.args.x.low)
          (parts c.times_up.result) (parts c.over_up.result) (parts c.times_down.result) (parts c.over_down.result) (ten_pos w) c.requires
          (c.over_up.ensures.near w (p + q) up fit) (c.times_up.ensures.near p q term.high_places x.high_places (omega arith)) term.near x.near
          (c.times_down.ensures.near p q term.low_places x.low_places (omega arith) (omega arith)) (c.over_down.ensures.near w (p + q) down fit few);
    }
