-- Small examples of the forms, by computation.
use Rattle.std.proofs.Common.{[], refl, arith}
use Rattle.std.specs.Prelude.{codes}
use Rattle.aadl_syntax.specs.Form.{IsWord, IsNumber, IsComment}
use Rattle.aadl_lexer.specs.Scan.{digits_len, number_len, tail_len, decimals_len, fraction_len, exponent_len, signed_len, based_len, closed_len}
use Rattle.aadl_lexer.specs.inner.Scan.{word_rest_len, line_len}
use Rattle.aadl_lexer.proofs.Numbers.{number_most}
use Rattle.aadl_lexer.proofs.Words.{word_most, comment_most}

-- one `_` may stand in a word, and two may not
word : IsWord (codes "a_b")
unfolding word_rest_len
word = (word_most 97 (codes "_b") refl).form (λ z. absurd (omega arith))

no_word : IsWord (codes "a__b") → ⊥
unfolding word_rest_len
no_word h = absurd (omega (arith, (word_most 97 (codes "__b") refl).most (codes "a__b") [] refl h))

-- a decimal number with all its parts, a based one, and one that ends before its point
number : IsNumber (codes "1_0.5_e-3")
unfolding digits_len number_len tail_len decimals_len fraction_len exponent_len signed_len based_len
number = (number_most (codes "1_0.5_e-3") (λ z. absurd (omega (arith, z)))).form (λ z. absurd (omega (arith, z)))

based : IsNumber (codes "16#F_f#")
unfolding digits_len number_len tail_len based_len closed_len
based = (number_most (codes "16#F_f#") (λ z. absurd (omega (arith, z)))).form (λ z. absurd (omega (arith, z)))

no_number : IsNumber (codes "1.") → ⊥
unfolding digits_len number_len tail_len decimals_len fraction_len exponent_len signed_len based_len
no_number h = absurd (omega (arith, (number_most (codes "1.") (λ z. absurd (omega (arith, z)))).most (codes "1.") [] refl h))

-- a comment goes up to its line feed
comment : IsComment (codes "-- b")
unfolding line_len
comment = (comment_most (codes " b\na")).form (λ z. absurd (omega arith))
