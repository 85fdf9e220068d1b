use Rattle.std.proofs.Common.{◌++◌, codes, decimal}
use Rattle.galileo_writer.specs.TreeText.{gate_name}
use Rattle.open_psa_writer.specs.Mef.{formula_text, label_text}
use Rattle.open_psa_writer.specs.TreeMef.{gate_number, whole_formula}
use Rattle.open_psa_writer.proofs.Pieces.{before, before-three}
use Rattle.open_psa_writer.proofs.gates.push_gate.Goals as goal

pub returns : goal.returns
returns c =
    let label = label_text (gate_name c.args.system.now c.args.gate.now) in
    let formula = formula_text (whole_formula c.args.top (gate_number c.args.top c.args.at) c.args.gate.now.kind c.args.gate.now.inputs) in
    let back = codes "</define-gate>\n" in
    before-three c.args.line.now.items (codes "<define-gate name=\"g") (decimal (gate_number c.args.top c.args.at)) (codes "\">\n") (label ++ (formula ++ back)) c.in_ok-push_gate_head.ensures
    (before c.push_gate_head.new.line.items label (formula ++ back) c.in_ok-push_gate_label.ensures
    (before c.push_gate_label.new.line.items formula back c.in_ok-push_gate_formula.ensures c.in_ok-extend_from_slice.ensures.items))
