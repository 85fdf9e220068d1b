-- When no line of a review tells anything as hidden.
use Rattle.std.specs.Prelude.{List, map}
use Rattle.model_review.specs.inner.Joined.{HasNoHiddenLine}
use Rattle.finding_places.specs.declared.line.ReviewLine.{ReviewLine}

-- no line tells a source, a path or a link as hidden
abbrev pub HasNoHiddenText : List ReviewLine → Type 0
HasNoHiddenText lines = HasNoHiddenLine (map (λ line. line.text) lines)
