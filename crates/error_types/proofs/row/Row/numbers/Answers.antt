use Rattle.std.proofs.Common.{◌≡◌, filter, sym, ap, ◌∙◌, arith}
use Rattle.error_types.specs.inner.Rows.{numbers_in}
use Rattle.plain_values.specs.Numbered.{numbers_below}
use Rattle.error_types.specs.inner.Words.{bit_in}
use Rattle.error_types.proofs.RowLaws.{numbers-of}
use Rattle.error_types.proofs.row.Row.numbers.Goals as goal

pub returns : goal.returns
returns c =
    let words = c.self.inside.words.items in
    let all : c.loop-number.number ≡ c.self.inside.count = omega arith in
    c.loop-number.invariant ∙ ap (λ n. filter (bit_in words) (numbers_below n)) all ∙ sym (numbers-of (bit_in words) c.self.inside.count) ∙ ap numbers_in c.self.view_is
