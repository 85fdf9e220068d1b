use Rattle.std.proofs.Common.{◌^◌, ◌*◌, ◌+◌, ◌<◌, ◌≤◌, arith}
use Rattle.std.proofs.Math.Nat.{one-le-pow}
use Rattle.decimals.specs.Decimals.{parts}
use Rattle.probabilities.proofs.OneStep.{sum_down}
use Rattle.probabilities.proofs.Nearness.{below_near, product_within, sum_within}
use Rattle.probabilities.proofs.steps.lower_step.Goals as goal

pub returns-clause-down : goal.returns-clause-down
returns-clause-down c =
    let x = c.times_down-without in
    let y = c.times_down-with in
    sum_down (10 ^ c.args.whole) (parts c.args.rate.low_not * parts c.args.lo) (parts c.args.rate.low * parts c.args.hi) (parts x.result) (parts y.result) (parts c.plus_down.result) x.ensures.down y.ensures.down c.plus_down.ensures.down

pub returns-clause-near : goal.returns-clause-near
returns-clause-near c p q absent present first second fit whole low high =
    let s = 10 ^ c.args.whole in
    let one = one-le-pow c.args.whole 10 (omega arith) in
    let some : 0 < 10 ^ c.args.whole = omega arith in
    let x = c.times_down-without in
    let y = c.times_down-with in
    let n = parts c.args.rate.low_not in
    let l = parts c.args.rate.low in
    let a = parts c.args.lo in
    let b = parts c.args.hi in
    let nl : n ≤ s = omega arith in
    let ll : l ≤ s = omega arith in
    let sum = sum_within s n l a b (parts x.result) (parts y.result) some whole low high x.ensures.down y.ensures.down in
    record {
      within = omega (arith, c.plus_down.ensures.down);
      few = c.plus_down.ensures.places (p + q) (x.ensures.places p q absent first fit) (y.ensures.places p q present second fit);
      near = below_near s (n * a) (l * b) (parts x.result) (parts y.result) (parts c.plus_down.result)
          (x.ensures.near p q absent first fit (product_within s n a nl low)) (y.ensures.near p q present second fit (product_within s l b ll high)) (c.plus_down.ensures.near (omega (arith, sum)));
    }
