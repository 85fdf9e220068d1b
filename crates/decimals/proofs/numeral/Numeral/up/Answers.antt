use Rattle.std.proofs.Common.{arith}
use Rattle.decimals.proofs.ReadBounds.{if_some, up_read, exact_read, near_up, some_digits, places_read, great_read}
use Rattle.decimals.proofs.numeral.Numeral.up.Goals as goal

pub returns-clause-up : goal.returns-clause-up
returns-clause-up c number is =
    if_some c.placed.result (λ y cut. up_read number c.args.self c.args.whole c.above.result y is (c.above.ensures.least number.digits is.figures) cut.0) c.placed.ensures.cut

pub returns-clause-exact : goal.returns-clause-exact
returns-clause-exact c number is few fit =
    if_some c.placed.result (λ y same. exact_read number c.args.self c.args.whole c.above.result y is few c.above.ensures.kept same) (c.placed.ensures.exact (omega (arith, fit, is.raised, is.lowered)))

pub returns-clause-near : goal.returns-clause-near
returns-clause-near c number is fit =
    if_some c.placed.result (λ y same. near_up number c.args.self c.args.whole c.above.result y is c.above.ensures.few c.above.ensures.kept same) (c.placed.ensures.exact (omega (arith, fit, is.raised, is.lowered)))

pub returns-clause-none : goal.returns-clause-none
returns-clause-none c number k is none few =
    great_read number c.args.self c.args.whole k 4294967296 is (some_digits number.digits c.above.result c.args.self.figures is.figures c.above.ensures.kept (c.placed.ensures.none none)) few (c.placed.ensures.great none)

pub returns-clause-places : goal.returns-clause-places
returns-clause-places c number is fit =
    if_some c.placed.result (λ y places. places_read number c.args.self c.args.whole y is places) (c.placed.ensures.places (omega (arith, fit, is.raised, is.lowered)))
