use Rattle.fact_formulas.specs.Flat.{system_of}
use Rattle.model_review.specs.Seen.{seen_of}
use Rattle.review_laws.specs.inner.Silent.{silent_facts}
use Rattle.review_laws.proofs.Silent.{same-without}
use Rattle.review_laws.proofs.SilentLines.{told-silent}
use Rattle.review_laws.proofs.laws.nothing_comes_of_silent_lines.Goals as goal

pub returns : goal.returns
returns c assembly emptied is events n =
    same-without (silent_facts (seen_of assembly)) (system_of assembly) emptied is (told-silent (seen_of assembly)) events n
