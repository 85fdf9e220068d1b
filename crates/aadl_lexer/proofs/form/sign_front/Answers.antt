use Rattle.std.proofs.Common.{◌+◌, ℕ, None, Some, ap, subst, sym, ◌∙◌, arith}
use Rattle.std.proofs.lemmas.Bool.{both_ways}
use Rattle.std.proofs.lemmas.List.{take_rest}
use Rattle.aadl_syntax.specs.declared.token.TokenKind.TheVariants.{Sign}
use Rattle.aadl_lexer.specs.inner.Scan.{line_len, IsFront}
use Rattle.aadl_lexer.proofs.Fronts.{front_comment, front_annex, front_sign, stuck_byte}
use Rattle.aadl_lexer.proofs.form.sign_front.Goals as goal
use Rattle.aadl_lexer.proofs.form.sign_front.Goals.{else-annexes-via-then-annexes+else-begins_annex, else-annexes-via-else-annexes}

pub returns-then-begins_comment-clause-ok : goal.returns-then-begins_comment-clause-ok
returns-then-begins_comment-clause-ok c =
    let counted = c.line_len-len.ensures.value ∙ ap line_len (take_rest c.args.text.now 2) in
    subst (λ (n : ℕ). IsFront c.args.annexes c.args.text.now (record { kind = None; len = 2 + n })) (sym counted)
    (front_comment c.args.annexes c.args.text.now (sym c.begins_comment.ensures.value ∙ c.if-begins_comment.true))

pub returns-in-0-clause-err : goal.returns-in-0-clause-err
returns-in-0-clause-err c =
    stuck_byte c.args.annexes c.args.text.now c.requires.some c.requires.other (sym c.begins_comment.ensures.value ∙ c.if-begins_comment.false)
    (λ on. elim c.else-annexes.branch [
      | else-annexes-via-then-annexes+else-begins_annex w ↦ sym w.begins_annex.ensures ∙ w.if-begins_annex.false
      | else-annexes-via-else-annexes w ↦ absurd (both_ways _ w.if-annexes.false on)
    ])
    (sym c.sign_len.ensures.value ∙ c.in-0.is)

pub returns-in_default-clause-ok : goal.returns-in_default-clause-ok
returns-in_default-clause-ok c =
    subst (λ (n : ℕ). IsFront c.args.annexes c.args.text.now (record { kind = Some Sign; len = n })) (sym c.sign_len.ensures.value)
    (front_sign c.args.annexes c.args.text.now c.requires.some c.requires.other (sym c.begins_comment.ensures.value ∙ c.if-begins_comment.false)
    (λ on. elim c.else-annexes.branch [
      | else-annexes-via-then-annexes+else-begins_annex w ↦ sym w.begins_annex.ensures ∙ w.if-begins_annex.false
      | else-annexes-via-else-annexes w ↦ absurd (both_ways _ w.if-annexes.false on)
    ])
    (λ z. absurd (omega (arith, z, c.sign_len.ensures.value))))

pub returns-then-begins_annex-clause-ok : goal.returns-then-begins_annex-clause-ok
returns-then-begins_annex-clause-ok c = front_annex c.args.annexes c.args.text.now c.if-annexes.true (sym c.begins_annex.ensures ∙ c.if-begins_annex.true)
