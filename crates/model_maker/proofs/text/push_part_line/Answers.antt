use Rattle.std.proofs.Common.{◌++◌, ◌∙◌, append_assoc}
use Rattle.std.specs.Prelude.{codes, decimal}
use Rattle.model_maker.proofs.text.push_part_line.Goals as goal

pub returns : goal.returns
returns c =
    let before = c.args.text.now.items in
    let letter = c.args.letter.now in
    let number = decimal c.args.k in
    let rest = codes ": device part;\n" in
    let digits = c.as_bytes-number.ensures.value ∙ c.format.ensures.text in
    c.in_ok-extend_from_slice-3.ensures.items
    ∙ (λ i. (c.in_ok-extend_from_slice-2.ensures.items ∙ (λ j. c.in_ok-extend_from_slice.ensures.items j ++ digits j)) i ++ rest)
    ∙ append_assoc (before ++ letter) number rest ∙ append_assoc before letter (number ++ rest)
