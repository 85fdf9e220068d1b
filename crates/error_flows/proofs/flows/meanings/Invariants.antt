use Rattle.std.proofs.Common.{◌≡◌, drop, take}
use Rattle.noted_refusals.specs.inner.Noted.{noting}
use Rattle.error_flows.specs.Flows.{refusals_of_flows, meanings, taken}
use Rattle.error_flows.proofs.flows.meanings.Given as goal

abbrev pub invariant-loop-flow : goal.invariant-loop-flow
invariant-loop-flow l = record {
  kept : l.reading.types ≡ l.fn.reading.types;
  flows : l.found.meanings ≡ meanings l.fn.reading.types l.points l.states l.scopes (take l.flow-index l.flows);
  sinks : l.found.sinks ≡ taken l.fn.reading.types l.points l.states l.scopes (take l.flow-index l.flows);
  first : noting l.reading.refusals (refusals_of_flows l.fn.reading.types l.points l.states l.scopes (drop l.flow-index l.flows)) ≡ noting l.fn.reading.refusals (refusals_of_flows l.fn.reading.types l.points l.states l.scopes l.flows);
}
