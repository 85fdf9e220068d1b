use Rattle.std.proofs.Common.{◌^◌}
use Rattle.decimals.specs.Decimals.{parts}
use Rattle.exponentials.proofs.Numbers.{held_low, held_high, rest_low, rest_high}
use Rattle.exponentials.proofs.span.Span.rest.Goals as goal

pub returns-clause-low : goal.returns-clause-low
returns-clause-low c n d le below =
    let s = 10 ^ c.args.whole in
    rest_low s n d (parts c.within.result) (parts c.rest_down.result) (rw c.within.ensures.value (held_high s (parts c.args.self.high) n d below le)) c.rest_down.ensures.down le

pub returns-clause-high : goal.returns-clause-high
returns-clause-high c n d le above =
    let s = 10 ^ c.args.whole in
    rest_high s n d (parts c.within-2.result) (parts c.rest_up.result) (rw c.within-2.ensures.value (held_low s (parts c.args.self.low) n d above)) c.rest_up.ensures.up le
