use Rattle.std.proofs.Common.{◌≡◌, ◌+◌, List, ℕ, ap, max, subst, ◌∙◌}
use Rattle.text_places.specs.Places.{column, line_number}
use Rattle.text_places.specs.declared.mark.Mark.{Mark}
use Rattle.text_places.proofs.Marked.{column-is, line-is}
use Rattle.text_places.proofs.table.LineTable.at.Goals as goal

pub returns-clause-line : goal.returns-clause-line
returns-clause-line c =
    subst (λ (text : List ℕ). c.mark_to-mark.result.feeds + 1 ≡ line_number text c.args.byte) c.self.view_is
    (line-is c.self.inside.text.now c.args.byte c.min-end.result c.mark_to-mark.result.feeds c.min-end.ensures (ap (λ (mark : Mark). mark.feeds) c.mark_to-mark.ensures.mark))

pub returns-clause-column : goal.returns-clause-column
returns-clause-column c =
    subst (λ (text : List ℕ). c.at_least_one.result ≡ column text c.args.byte) c.self.view_is
    (c.at_least_one.ensures ∙ ap (λ n. max 1 (c.mark_to-mark.result.characters + n)) c.further.ensures.value
    ∙ column-is c.self.inside.text.now c.args.byte c.min-end.result c.mark_to-mark.result.characters c.min-end.ensures (ap (λ (mark : Mark). mark.characters) c.mark_to-mark.ensures.mark))
