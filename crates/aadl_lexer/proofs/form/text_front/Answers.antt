use Rattle.std.proofs.Common.{ap, sym, ◌∙◌}
use Rattle.std.proofs.lemmas.List.{take_rest}
use Rattle.aadl_lexer.specs.inner.Scan.{text_rest_len}
use Rattle.aadl_lexer.proofs.Fronts.{front_text, stuck_text}
use Rattle.aadl_lexer.proofs.form.text_front.Goals as goal

pub returns-in-Some-clause-ok : goal.returns-in-Some-clause-ok
returns-in-Some-clause-ok c = front_text c.args.annexes c.args.text.now c.in-Some.len c.requires.some c.requires.quote (ap text_rest_len (sym (take_rest c.args.text.now 1)) ∙ sym c.in-Some.ensures.value)

pub returns-in-None-clause-err : goal.returns-in-None-clause-err
returns-in-None-clause-err c = stuck_text c.args.annexes c.args.text.now c.requires.some c.requires.quote (ap text_rest_len (sym (take_rest c.args.text.now 1)) ∙ sym c.in-None.ensures.value)
