-- The lines of a review, each with where that stands which it names.
use Rattle.std.specs.Prelude.{◌≡◌, List, map}
use Rattle.model_facts.specs.Assembly.{Assembly}
use Rattle.model_review.specs.Lines.{finding_text}
use Rattle.model_review.specs.Seen.{Seen, seen_of}
use Rattle.model_review.specs.Told.{AreFindings}
use Rattle.model_review.specs.declared.finding.Finding.{Finding}
use Rattle.finding_places.specs.Spots.{finding_spot}
use Rattle.finding_places.specs.declared.line.ReviewLine.{ReviewLine}

-- the line of a finding
abbrev pub review_line : Seen → Finding → ReviewLine
review_line seen finding = record { text = finding_text seen finding; spot = finding_spot seen.numbered finding }

-- These are the lines on exactly what there is to tell of a model, in order.
pub record AreReviewLines (seen : Seen) (lines : List ReviewLine) : Type 0 where
  pub findings : List Finding
  pub told : AreFindings seen findings
  pub lines_are : lines ≡ map (review_line seen) findings

-- These are the lines of the review of a model.
abbrev pub AreLinesOf : Assembly → List ReviewLine → Type 0
AreLinesOf assembly = AreReviewLines (seen_of assembly)
