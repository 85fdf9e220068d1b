use Rattle.std.proofs.Common.{◌≡◌, drop, take}
use Rattle.noted_refusals.specs.inner.Noted.{noting}
use Rattle.error_behavior.specs.Behavior.{clause_emissions, clause_outgoing_refusals}
use Rattle.error_behavior.proofs.behavior.emissions_of.Given as goal

abbrev pub invariant-loop-condition : goal.invariant-loop-condition
invariant-loop-condition l = record {
  kept : l.reading.types ≡ l.fn.reading.types;
  emissions : l.emissions ≡ clause_emissions l.fn.reading.types l.words l.texts (take l.condition-index l.outgoing);
  first : noting l.reading.refusals (clause_outgoing_refusals l.fn.reading.types l.words l.texts (drop l.condition-index l.outgoing)) ≡ noting l.fn.reading.refusals (clause_outgoing_refusals l.fn.reading.types l.words l.texts l.outgoing);
}
