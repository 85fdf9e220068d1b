use Rattle.std.proofs.Common.{◌∙◌, sym, refl, arith}
use Rattle.target_orders.proofs.BoundLaws.{tally-times}
use Rattle.target_orders.proofs.bounds.of_some.Goals as goal

pub returns-then-is_apart : goal.returns-then-is_apart
returns-then-is_apart c places set count is many =
    tally-times places set c.args.tally (record { low = c.product_of.result; from = c.args.tally.bound.from; to = c.args.tally.bound.to }) c.args.least count c.product_of.ensures refl refl (sym c.is_apart.ensures ∙ c.if-is_apart.true) many is

pub returns : goal.returns
returns c places set count is many = is.some (omega (arith, many, c.requires))
