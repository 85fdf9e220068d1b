-- A model has one list of findings.
use Rattle.std.proofs.Common.{◌≡◌, ◌++◌, List, length, sym, ◌∙◌}
use Rattle.system_review.specs.Occurring.{IsUnreachedEvent, IsUnusedEvent}
use Rattle.system_review.specs.Single.{IsNoSingleEvent}
use Rattle.system_review.proofs.OneReview.{one-listed, one-loops}
use Rattle.model_review.specs.Findings.{model_findings}
use Rattle.model_review.specs.Seen.{Seen, root_effects}
use Rattle.model_review.specs.Told.{AreFindings, system_findings}
use Rattle.model_review.specs.declared.finding.Finding.{Finding}

-- one list of findings
pub one-findings : (seen : Seen) (a b : List Finding) → AreFindings seen a → AreFindings seen b → a ≡ b
one-findings seen a b (loops, unused, no_single, unreached, told, is) (others, never_used, joined, far, as_told, are) =
    let most = length seen.system.events in
    let same_loops = one-loops seen.system loops others told.loops_are as_told.loops_are in
    let same_unused = one-listed (IsUnusedEvent seen.system) most unused never_used told.unused_are as_told.unused_are in
    let same_no_single = one-listed (IsNoSingleEvent seen.system) most no_single joined told.no_single_are as_told.no_single_are in
    let same_unreached = one-listed (IsUnreachedEvent seen.system (root_effects seen)) most unreached far told.unreached_are as_told.unreached_are in
    is ∙ (λ i. model_findings seen ++ system_findings seen (same_loops i) (same_unused i) (same_no_single i) (same_unreached i)) ∙ sym are
