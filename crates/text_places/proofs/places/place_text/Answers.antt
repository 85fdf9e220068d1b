use Rattle.std.proofs.Common.{◌≡◌, ◌++◌, ◌-◌, ◌+◌, ap, le_refl, codes, decimal, length, map, take, ◌∙◌}
use Rattle.std.specs.Prelude.{max}
use Rattle.std.proofs.lemmas.Slice.{between_to_end}
use Rattle.text_places.specs.Places.{below, first_line}
use Rattle.text_places.proofs.Placed.{Found, placed}
use Rattle.text_places.proofs.places.place_text.Goals as goal

pub returns : goal.returns
returns c =
    let text = c.args.text.now in
    let file = c.args.file.now in
    let before = c.text_before-before.result.now in
    let line = c.first_line-line.result.now in
    let begin = c.line_begin-begin.result in
    let characters = c.in_ok-reached.reached.items in
    let number = decimal (c.feeds_of.result + 1) in
    let at = decimal c.column_of.result in
    let column : c.column_of.result ≡ max 1 (length characters) = c.column_of.ensures ∙ ap (λ l. max 1 (length l)) c.as_slice.ensures.value in
    let found : Found text c.args.byte before begin line characters = record {
      front = c.text_before-before.ensures;
      begins = c.line_begin-begin.ensures.value;
      within = c.line_begin-begin.ensures.within;
      line_is = c.first_line-line.ensures ∙ ap first_line (between_to_end text begin (length text) (le_refl (length text)));
      characters_are = c.in_ok-reached.ensures;
    } in
    c.in_ok-push.ensures.items
    ∙ ap (λ l. l ++ codes "\n") (c.in_ok-push_caret.ensures ∙ ap (λ l. c.push_line.new.text.items ++ (map below (take (max 1 (length l) - 1) l) ++ codes "^")) c.as_slice-2.ensures.value)
    ∙ ap (λ l. l ++ (map below (take (max 1 (length characters) - 1) characters) ++ codes "^") ++ codes "\n") (c.in_ok-push_line.ensures ∙ ap (λ l. l ++ line ++ codes "\n") (c.in_ok-push_numbers.ensures ∙ ap (λ l. l ++ file ++ codes ":" ++ number ++ codes ":" ++ at ++ codes "\n") c.new-place.ensures.items))
    ∙ placed text c.args.byte before begin line characters found file c.feeds_of.result c.column_of.result c.feeds_of.ensures.count column
