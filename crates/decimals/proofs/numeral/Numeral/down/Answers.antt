use Rattle.std.proofs.Common.{refl, arith}
use Rattle.decimals.proofs.ReadBounds.{if_some, down_read, exact_read, near_down, places_read, great_read}
use Rattle.decimals.proofs.numeral.Numeral.down.Goals as goal

pub returns-clause-down : goal.returns-clause-down
returns-clause-down c number is = if_some c.placed.result (λ y cut. down_read number c.args.self c.args.whole y is cut.0) c.placed.ensures.cut

pub returns-clause-exact : goal.returns-clause-exact
returns-clause-exact c number is few fit =
    if_some c.placed.result (λ y same. exact_read number c.args.self c.args.whole c.args.self.figures.mantissa y is few (λ all. refl) same) (c.placed.ensures.exact (omega (arith, fit, is.raised, is.lowered)))

pub returns-clause-near : goal.returns-clause-near
returns-clause-near c number is fit =
    if_some c.placed.result (λ y same. near_down number c.args.self c.args.whole y is same) (c.placed.ensures.exact (omega (arith, fit, is.raised, is.lowered)))

pub returns-clause-none : goal.returns-clause-none
returns-clause-none c number k is none few = great_read number c.args.self c.args.whole k 4294967296 is (c.placed.ensures.none none) few (c.placed.ensures.great none)

pub returns-clause-places : goal.returns-clause-places
returns-clause-places c number is fit =
    if_some c.placed.result (λ y places. places_read number c.args.self c.args.whole y is places) (c.placed.ensures.places (omega (arith, fit, is.raised, is.lowered)))
