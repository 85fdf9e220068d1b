use Rattle.round_gates.proofs.GateFormulas.{kind-events, kind-occurs, kind-range, kind-truth}
use Rattle.round_gates.proofs.laws.gate_formulas.Goals as goal

pub returns-clause-truth : goal.returns-clause-truth
returns-clause-truth c = λ events facts gate. kind-truth events facts gate.kind gate.inputs

pub returns-clause-gates : goal.returns-clause-gates
returns-clause-gates c = λ n gate. kind-occurs n gate.kind gate.inputs

pub returns-clause-events : goal.returns-clause-events
returns-clause-events c = λ n gate. kind-events n gate.kind gate.inputs

pub returns-clause-range : goal.returns-clause-range
returns-clause-range c = λ gates events gate. kind-range gates events gate.kind gate.inputs
