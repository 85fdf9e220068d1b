-- A model has one review.
use Rattle.std.proofs.Common.{◌≡◌, List, map, ap, sym, ◌∙◌}
use Rattle.model_facts.specs.Assembly.{Assembly}
use Rattle.model_review.specs.Seen.{seen_of}
use Rattle.model_review.proofs.OneText.{one-findings}
use Rattle.finding_places.specs.Lines.{AreLinesOf, review_line}
use Rattle.finding_places.specs.declared.line.ReviewLine.{ReviewLine}

pub one-review : (assembly : Assembly) (a b : List ReviewLine) → AreLinesOf assembly a → AreLinesOf assembly b → a ≡ b
one-review assembly a b one other =
    one.lines_are ∙ ap (map (review_line (seen_of assembly))) (one-findings (seen_of assembly) one.findings other.findings one.told other.told) ∙ sym other.lines_are
