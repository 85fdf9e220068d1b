use Rattle.std.proofs.Common.{◌+◌, ℕ, Some, ap, subst, sym, ◌∙◌}
use Rattle.std.proofs.lemmas.List.{take_rest}
use Rattle.aadl_syntax.specs.declared.token.TokenKind.TheVariants.{Word, Number}
use Rattle.aadl_lexer.specs.inner.Scan.{word_rest_len, IsFront}
use Rattle.aadl_lexer.proofs.Fronts.{front_blank, front_word, front_number}
use Rattle.aadl_lexer.proofs.form.front_of.Goals as goal

pub returns-then-is_letter-clause-ok : goal.returns-then-is_letter-clause-ok
returns-then-is_letter-clause-ok c =
    let counted = c.word_rest_len-len.ensures.value ∙ ap word_rest_len (take_rest c.args.text.now 1) in
    subst (λ (n : ℕ). IsFront c.args.annexes c.args.text.now (record { kind = Some Word; len = 1 + n })) (sym counted)
    (front_word c.args.annexes c.args.text.now c.requires (sym c.is_letter.ensures ∙ c.if-is_letter.true))

pub returns-then-is_digit-clause-ok : goal.returns-then-is_digit-clause-ok
returns-then-is_digit-clause-ok c =
    subst (λ (n : ℕ). IsFront c.args.annexes c.args.text.now (record { kind = Some Number; len = n })) (sym c.number_len-len.ensures.value)
    (front_number c.args.annexes c.args.text.now c.requires (sym c.is_digit.ensures ∙ c.if-is_digit.true))

pub returns-then-is_blank-clause-ok : goal.returns-then-is_blank-clause-ok
returns-then-is_blank-clause-ok c = front_blank c.args.annexes c.args.text.now c.requires (sym c.is_blank.ensures ∙ c.if-is_blank.true)
