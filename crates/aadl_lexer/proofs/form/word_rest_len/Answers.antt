use Rattle.std.proofs.Common.{arith, sym, ◌∙◌}
use Rattle.std.proofs.lemmas.Bool.{and_left, and_right, ne_eqb}
use Rattle.aadl_lexer.proofs.Words.{word_at_alone, word_at_lined, word_at_end, word_at_stop}
use Rattle.aadl_lexer.proofs.form.word_rest_len.Goals as goal
use Rattle.aadl_lexer.proofs.form.word_rest_len.Goals.{else-text-len-eq95-via-then-text-len-eq95+then-len-text+else-is_letter_or_digit-2, else-text-len-eq95-via-then-text-len-eq95+else-len-text, else-text-len-eq95-via-else-text-len-eq95}

pub loop-len-preserved-then-is_letter_or_digit : goal.loop-len-preserved-then-is_letter_or_digit
loop-len-preserved-then-is_letter_or_digit c = record { within = omega arith; counted = word_at_alone c.args.text.now c.loop-len.len _ c.loop-len-test.true (sym c.is_letter_or_digit.ensures ∙ c.if-is_letter_or_digit.true) c.loop-len.invariant.counted }

pub loop-len-preserved : goal.loop-len-preserved
loop-len-preserved c = record { within = omega arith; counted = word_at_lined c.args.text.now c.loop-len.len _ c.if-len-text.true (sym c.is_letter_or_digit.ensures ∙ c.if-is_letter_or_digit.false) c.if-text-len-eq95.true (sym c.is_letter_or_digit-then-len-text.ensures ∙ c.if-is_letter_or_digit-2.true) c.loop-len.invariant.counted }

pub returns-after-loop-len-clause-value : goal.returns-after-loop-len-clause-value
returns-after-loop-len-clause-value c = word_at_end c.args.text.now c.loop-len.len _ c.loop-len-test.false c.loop-len.invariant.counted

pub returns-else-text-len-eq95-clause-value : goal.returns-else-text-len-eq95-clause-value
returns-else-text-len-eq95-clause-value c = word_at_stop c.args.text.now c.loop-len.len _ c.loop-len-test.true (sym c.is_letter_or_digit.ensures ∙ c.if-is_letter_or_digit.false)
    (λ more. elim c.else-text-len-eq95.branch [
      | else-text-len-eq95-via-then-text-len-eq95+then-len-text+else-is_letter_or_digit-2 w ↦ and_right _ _ (sym w.is_letter_or_digit-then-len-text.ensures ∙ w.if-is_letter_or_digit-2.false)
      | else-text-len-eq95-via-then-text-len-eq95+else-len-text w ↦ absurd (omega (arith, more, w.if-len-text.false))
      | else-text-len-eq95-via-else-text-len-eq95 w ↦ and_left _ _ (ne_eqb _ 95 w.if-text-len-eq95.false)
    ])
    c.loop-len.invariant.counted
