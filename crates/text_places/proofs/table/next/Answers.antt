use Rattle.std.proofs.Common.{◌≡◌, ◌≤◌, ap, sym, ◌∙◌, subst, arith}
use Rattle.text_places.specs.declared.mark.Mark.{Mark}
use Rattle.text_places.proofs.Marked.{mark-at, mark-reads}
use Rattle.text_places.proofs.table.next.Goals as goal

pub passed-requires-clause-at : goal.passed-requires-clause-at
passed-requires-clause-at c =
    let text = c.args.text.now in
    let at : c.args.mark.at ≡ c.args.number = ap (λ (mark : Mark). mark.at) c.requires.mark ∙ mark-at text c.args.number (omega (arith, c.requires.within)) in
    omega (arith, at, c.requires.within)

pub passed-requires-clause-feeds : goal.passed-requires-clause-feeds
passed-requires-clause-feeds c = subst (λ (mark : Mark). mark.feeds ≤ mark.at) (sym c.requires.mark) (mark-reads c.args.text.now c.args.number).few_feeds

pub passed-requires-clause-characters : goal.passed-requires-clause-characters
passed-requires-clause-characters c = subst (λ (mark : Mark). mark.characters ≤ mark.at) (sym c.requires.mark) (mark-reads c.args.text.now c.args.number).few_characters
