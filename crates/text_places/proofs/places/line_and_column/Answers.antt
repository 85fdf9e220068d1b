use Rattle.std.proofs.Common.{◌∙◌, ap, le_refl, length}
use Rattle.std.specs.Prelude.{max}
use Rattle.std.proofs.lemmas.Slice.{between_to_end}
use Rattle.text_places.specs.Places.{first_line}
use Rattle.text_places.proofs.Placed.{Found, its_characters}
use Rattle.text_places.proofs.places.line_and_column.Goals as goal

pub returns-clause-column : goal.returns-clause-column
returns-clause-column c =
    let text = c.args.text.now in
    let before = c.text_before-before.result.now in
    let line = c.first_line-line.result.now in
    let begin = c.line_begin-begin.result in
    let characters = c.in_ok-reached.reached.items in
    let found : Found text c.args.byte before begin line characters = record {
      front = c.text_before-before.ensures;
      begins = c.line_begin-begin.ensures.value;
      within = c.line_begin-begin.ensures.within;
      line_is = c.first_line-line.ensures ∙ ap first_line (between_to_end text begin (length text) (le_refl (length text)));
      characters_are = c.in_ok-reached.ensures;
    } in
    c.column_of.ensures ∙ ap (λ l. max 1 (length l)) (c.as_slice.ensures.value ∙ its_characters text c.args.byte before begin line characters found)
