use Rattle.std.proofs.Common.{ℕ, ◌≤◌, ◌≡◌, ◌^◌, subst, arith}
use Rattle.exponentials.specs.inner.Spans.{IsAbove}
use Rattle.exponentials.proofs.Squares.{first_above, first_below, squared_above, squared_below}
use Rattle.exponentials.proofs.halving.squared.Goals as goal

pub loop-time-init : goal.loop-time-init
loop-time-init c = record { low = λ n d le above. first_above c.args.whole n d c.args.number above; high = λ n d le below. first_below c.args.whole n d c.args.number below }

pub loop-time-preserved : goal.loop-time-preserved
loop-time-preserved c =
    record {
      low = λ n d le above. squared_above c.args.whole n d c.loop-time._time c.loop-time.power c.times-power.result c.times-power.ensures (c.loop-time.invariant.low n d le above);
      high = λ n d le below. squared_below c.args.whole n d c.loop-time._time c.loop-time.power c.times-power.result le c.times-power.ensures (c.loop-time.invariant.high n d le below);
    }

pub returns-clause-low : goal.returns-clause-low
returns-clause-low c =
    let all : c.loop-time._time ≡ c.args.times = omega (arith, c.loop-time-test.false, c.loop-time.auto._time-end) in
    subst (λ (k : ℕ). (n d : ℕ) → n ≤ d → IsAbove c.args.whole n d c.args.number → IsAbove c.args.whole (n ^ (2 ^ k)) (d ^ (2 ^ k)) c.loop-time.power) all c.loop-time.invariant.low
