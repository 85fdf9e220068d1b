use Rattle.std.proofs.Common.{ap₂, sym, ◌∙◌}
use Rattle.fta_words.specs.Words.{is_help_of}
use Rattle.fta_words.proofs.ShortForms.{help_short, two_words}
use Rattle.fta_words.proofs.short.short_form.Goals as goal

pub returns-else-not-is_help_of : goal.returns-else-not-is_help_of
returns-else-not-is_help_of c =
    help_short c.args.words.now c.name-item.result c.last-item.result (two_words c.args.words.now c.name-item.result c.last-item.result c.in-len2.len_at_least c.in-len2.len_below c.name-item.is c.last-item.is)
    (sym (ap₂ is_help_of c.items-in-len2.ensures.items c.items-in-len2-2.ensures.items) ∙ sym c.is_help_of.ensures ∙ c.if-not-is_help_of.false)
