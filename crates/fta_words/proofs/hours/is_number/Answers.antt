use Rattle.std.proofs.Common.{◌≡◌, ◌∙◌, Option, Some, None, is_some, refl, sym}
use Rattle.decimals.specs.Numerals.{Number, number_of}
use Rattle.decimals.specs.declared.numeral.Numeral.{Numeral}
use Rattle.decimals.specs.inner.Figures.{IsReadAs}
use Rattle.fta_words.proofs.hours.is_number.Goals as goal

-- there is a number where one is read
some_read : (number : Option Number) (found : Option Numeral) → IsReadAs number found → is_some found ≡ is_some number
some_read None None is = refl
some_read None (Some x) is = absurd is
some_read (Some number) None is = absurd is
some_read (Some number) (Some x) is = refl

pub returns : goal.returns
returns c = c.is_some.ensures ∙ some_read (number_of c.args.text.now) c.read.result c.read.ensures
