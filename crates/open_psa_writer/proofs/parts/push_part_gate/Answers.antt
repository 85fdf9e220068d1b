use Rattle.std.proofs.Common.{◌++◌, codes, ap, ◌∙◌}
use Rattle.round_gates.specs.declared.tree.Input.{Input}
use Rattle.open_psa_writer.specs.Mef.{Part, formula_text, name_text}
use Rattle.open_psa_writer.specs.TreeMef.{numbered, part_formula}
use Rattle.open_psa_writer.proofs.Pieces.{before, before-three}
use Rattle.open_psa_writer.proofs.parts.push_part_gate.Goals as goal

pub returns : goal.returns
returns c =
    let front = codes "<define-gate name=\"g" in
    let name = name_text (Part c.args.number c.args.needed c.args.among) in
    let formula = λ (first : Input). formula_text (part_formula c.args.number (numbered c.args.top first) c.args.needed c.args.among) in
    let back = codes "</define-gate>\n" in
    before-three c.args.line.now.items front name (codes "\">\n") (formula c.first_of-first.result ++ back) c.in_ok-push_part_head.ensures
    (before c.push_part_head.new.line.items (formula c.first_of-first.result) back c.in_ok-push_part_formula.ensures c.in_ok-extend_from_slice.ensures.items)
    ∙ ap (λ (first : Input). c.args.line.now.items ++ (front ++ (name ++ (codes "\">\n" ++ (formula first ++ back))))) c.first_of-first.ensures
