-- What a review tells of a model.
use Rattle.std.specs.Prelude.{◌≡◌, map}
use Rattle.model_facts.specs.Assembly.{Assembly}
use Rattle.model_review.specs.Lines.{finding_text}
use Rattle.model_review.specs.Seen.{Seen, seen_of}
use Rattle.model_review.specs.Told.{AreFindings}
use Rattle.model_review.specs.declared.reviewing.Reviewed.{Reviewed}

-- Exactly what there is to tell of what is seen is told, and each with its line.
pub record Reviews (seen : Seen) (reviewed : Reviewed) : Type 0 where
  pub told : AreFindings seen reviewed.findings
  pub lines : reviewed.lines ≡ map (finding_text seen) reviewed.findings

-- This is the review of a model.
abbrev pub IsReview : Assembly → Reviewed → Type 0
IsReview assembly = Reviews (seen_of assembly)
