use Rattle.std.proofs.Common.{sym, ◌∙◌, refl}
use Rattle.std.proofs.lemmas.Bool.{false≢true}
use Rattle.fta_words.specs.Words.{Attached}
use Rattle.fta_words.specs.Table.{flags_of, valued_of}
use Rattle.fta_words.proofs.Spelled.{kinds_apart, none_attached}
use Rattle.fta_words.proofs.options.value_attached.Goals.{else-has_valued-via-then-has_valued+else-is_plain, else-has_valued-via-else-has_valued}
use Rattle.fta_words.proofs.options.value_attached.Goals as goal

pub returns-then-is_plain : goal.returns-then-is_plain
returns-then-is_plain c =
    record {
      spelling = Attached c.args.value.now;
      words_are = refl;
      allowed = (c.has_valued.ensures.0 c.if-has_valued.true, c.is_plain.ensures.0 c.if-is_plain.true);
    }

pub returns : goal.returns
returns c =
    none_attached (flags_of c.args.kind) (valued_of c.args.kind) (kinds_apart c.args.kind) c.args.name.now c.args.value.now c.args.rest.now c.requires
    (λ has plain. elim c.else-has_valued.branch [
      | else-has_valued-via-then-has_valued+else-is_plain w ↦ false≢true (sym w.if-is_plain.false ∙ w.is_plain.ensures.1 plain)
      | else-has_valued-via-else-has_valued w ↦ false≢true (sym w.if-has_valued.false ∙ c.has_valued.ensures.1 has)
    ])
