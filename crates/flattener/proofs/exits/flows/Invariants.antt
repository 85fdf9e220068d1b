use Rattle.std.proofs.Common.{◌≡◌, map, take}
use Rattle.fact_formulas.specs.Formulas.{all_flow_formulas}
use Rattle.flattener.specs.inner.Tables.{flow_seen}
use Rattle.flattener.proofs.exits.flows.Given as goal

abbrev pub invariant-loop-place : goal.invariant-loop-place
invariant-loop-place l = l.formulas ≡ all_flow_formulas l.site l.number (map flow_seen (take l.place-index l.flows))
