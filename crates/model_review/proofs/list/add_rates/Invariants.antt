use Rattle.std.proofs.Common.{◌≡◌, ◌++◌, map, take}
use Rattle.model_review.specs.declared.finding.Finding.TheVariants.{StrayRate}
use Rattle.model_review.proofs.list.add_rates.Given as goal

abbrev pub invariant-loop-rate : goal.invariant-loop-rate
invariant-loop-rate l = l.found ≡ l.fn.found ++ map StrayRate (take l.rate-index l.rates)
