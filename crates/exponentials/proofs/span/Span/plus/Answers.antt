use Rattle.std.proofs.Common.{◌+◌, ◌*◌, ◌^◌, arith}
use Rattle.decimals.specs.Decimals.{parts}
use Rattle.exponentials.proofs.Narrowing.{sum_near, sum_order}
use Rattle.exponentials.proofs.span.Span.plus.Goals as goal

pub returns-clause-narrow : goal.returns-clause-narrow
returns-clause-narrow c p i one other within =
    record {
      low_places = c.plus_down.ensures.places p one.low_places other.low_places;
      high_places = c.plus_up.ensures.places p one.high_places other.high_places;
      order = sum_order (10 ^ c.args.whole) (parts c.args.self.high) (parts c.args.other.high) (parts c.args.self.low) (parts c.args.other.low) (parts c.plus_up.result) (parts c.plus_down.result)
          one.order other.order within c.plus_up.ensures.up c.plus_down.ensures.down;
      near = sum_near i (parts c.args.self.high) (parts c.args.other.high) (parts c.args.self.low) (parts c.args.other.low) (parts c.plus_up.result) (parts c.plus_down.result)
          c.plus_up.ensures.near one.near other.near (c.plus_down.ensures.near (omega (arith, within)));
    }
