use Rattle.std.proofs.Common.{sym, ap, ◌∙◌}
use Rattle.std.proofs.lemmas.Bool.{le-ltb}
use Rattle.error_types.specs.inner.Rows.{has_bit}
use Rattle.error_types.specs.inner.Words.{bit_in}
use Rattle.error_types.proofs.RowLaws.{bit-past, bit-there}
use Rattle.error_types.proofs.row.Row.has.Goals as goal

pub returns-then-number-self : goal.returns-then-number-self
returns-then-number-self c =
    c.has_bit.ensures ∙ ap (λ words. bit_in words c.args.number) c.as_slice.ensures.value ∙ sym (bit-there (bit_in c.self.inside.words.items) c.self.inside.count c.args.number c.if-number-self.true)
    ∙ ap (λ row. has_bit row c.args.number) c.self.view_is

pub returns-else-number-self : goal.returns-else-number-self
returns-else-number-self c =
    le-ltb c.args.number c.self.inside.count c.if-number-self.false ∙ sym (bit-past (bit_in c.self.inside.words.items) c.self.inside.count c.args.number c.if-number-self.false)
    ∙ ap (λ row. has_bit row c.args.number) c.self.view_is
