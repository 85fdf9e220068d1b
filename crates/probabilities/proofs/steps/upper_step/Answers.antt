use Rattle.std.proofs.Common.{◌^◌, ◌*◌, ◌+◌, arith}
use Rattle.decimals.specs.Decimals.{parts}
use Rattle.probabilities.proofs.OneStep.{sum_up, sum_within_up}
use Rattle.probabilities.proofs.Nearness.{above_near, within_near}
use Rattle.probabilities.proofs.steps.upper_step.Goals as goal

pub returns-clause-most : goal.returns-clause-most
returns-clause-most c = omega (arith, c.within.ensures.value)

pub returns-clause-up : goal.returns-clause-up
returns-clause-up c =
    let x = c.times_up-without in
    let y = c.times_up-with in
    let s = 10 ^ c.args.whole in
    let a = parts c.args.rate.high_not * parts c.args.lo in
    let b = parts c.args.rate.high * parts c.args.hi in
    sum_within_up s (a + b) (parts c.plus_up.result) (parts c.within.result)
    (sum_up s a b (parts x.result) (parts y.result) (parts c.plus_up.result) x.ensures.up y.ensures.up c.plus_up.ensures.up) c.within.ensures.value

pub returns-clause-near : goal.returns-clause-near
returns-clause-near c p q absent present first second fit =
    let x = c.times_up-without in
    let y = c.times_up-with in
    let s = 10 ^ c.args.whole in
    let a = parts c.args.rate.high_not * parts c.args.lo in
    let b = parts c.args.rate.high * parts c.args.hi in
    record {
      few = c.within.ensures.places (p + q) (c.plus_up.ensures.places (p + q) (x.ensures.places p q absent first fit) (y.ensures.places p q present second fit));
      near = within_near s (a + b) (parts c.plus_up.result) (parts c.within.result)
          (above_near s a b (parts x.result) (parts y.result) (parts c.plus_up.result) (x.ensures.near p q absent first fit) (y.ensures.near p q present second fit) c.plus_up.ensures.near)
          c.within.ensures.value;
    }
