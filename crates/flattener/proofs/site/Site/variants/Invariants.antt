use Rattle.std.proofs.Common.{◌≡◌, map, take}
use Rattle.fact_formulas.specs.Formulas.{in_variant}
use Rattle.flattener.proofs.site.Site.variants.Given as goal

abbrev pub invariant-loop-state : goal.invariant-loop-state
invariant-loop-state l = l.parts ≡ map (in_variant l.self) (take l.state-index l.states)
