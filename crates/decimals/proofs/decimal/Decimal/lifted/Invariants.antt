use Rattle.std.proofs.Common.{◌≡◌, ◌≤◌, ◌+◌}
use Rattle.decimals.specs.Decimals.{parts}
use Rattle.decimals.proofs.EqualParts.{IsLifting}
use Rattle.decimals.proofs.decimal.Decimal.lifted.Given as goal

abbrev pub invariant-loop-step : goal.invariant-loop-step
invariant-loop-step l =
    record {
      same : parts l.lifted ≡ parts l.fn.self;
      room : l.fn.self.exponent ≤ l.lifted.exponent + l._step;
      none : l.fn.self.mantissa ≡ 0 → l.lifted.mantissa ≡ 0;
      full : 18 ≤ l.fn.self.exponent → IsLifting l._step l.fn.self.mantissa l.lifted.mantissa;
    }
