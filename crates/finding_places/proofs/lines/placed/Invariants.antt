use Rattle.std.proofs.Common.{◌≡◌, map, take}
use Rattle.model_review.specs.Lines.{finding_text}
use Rattle.model_review.specs.Seen.{Seen}
use Rattle.finding_places.specs.Lines.{review_line}
use Rattle.finding_places.proofs.lines.placed.Given as goal

abbrev pub invariant-loop-number : goal.invariant-loop-number
invariant-loop-number l =
    (seen : Seen) → seen.numbered ≡ record { assembly = l.places; universe = l.model.universe; facts = l.model.facts; events = l.model.events }
    → l.reviewed.lines ≡ map (finding_text seen) l.reviewed.findings → l.lines ≡ map (review_line seen) (take l.number l.reviewed.findings)
