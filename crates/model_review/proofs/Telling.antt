-- What is told of the loops and the events of a model, once they are found.
use Rattle.std.proofs.Common.{ℕ, ◌≡◌, ◌++◌, List, filter, length, map, ◌∙◌, append_assoc, subst}
use Rattle.fault_system.specs.Systems.{System}
use Rattle.system_review.specs.Listed.{AreAll}
use Rattle.system_review.specs.Loops.{AreLoops}
use Rattle.system_review.specs.Occurring.{IsUnreachedEvent, IsUnusedEvent}
use Rattle.system_review.specs.Single.{IsNoSingleEvent}
use Rattle.system_review.specs.declared.looping.Loop.{Loop}
use Rattle.fact_formulas.specs.Flat.{is_of_root}
use Rattle.model_review.specs.Seen.{Seen, is_error_event, root_effects}
use Rattle.model_review.specs.Told.{IsTold, effect_findings, system_findings}
use Rattle.model_review.specs.declared.finding.Finding.{Finding}
use Rattle.model_review.specs.declared.finding.Finding.TheVariants.{InLoop, NoSingle, UnusedEvent}

module _ (seen : Seen) (loops : List Loop) (unused no_single unreached : List ℕ) where
  -- what is found in these is what is found in the system that is seen
  pub found-told : (system : System) (effects root items : List ℕ) → system ≡ seen.system → effects ≡ seen.effects → root ≡ filter (is_of_root system) effects → items ≡ root
      → AreLoops system loops → AreAll (IsUnusedEvent system) (length system.events) unused → AreAll (IsNoSingleEvent system) (length system.events) no_single
      → AreAll (IsUnreachedEvent system items) (length system.events) unreached
      → IsTold seen loops unused no_single unreached
  found-told system effects root items its are roots same in_loops in_none joined far =
      let all : items ≡ root_effects seen = same ∙ roots ∙ (λ i. filter (is_of_root (its i)) (are i)) in
      let moved : AreAll (IsUnreachedEvent system (root_effects seen)) (length system.events) unreached = subst (λ (effects : List ℕ). AreAll (IsUnreachedEvent system effects) (length system.events) unreached) all far in
      record {
        loops_are = subst (λ (s : System). AreLoops s loops) its in_loops;
        unused_are = subst (λ (s : System). AreAll (IsUnusedEvent s) (length s.events) unused) its in_none;
        no_single_are = subst (λ (s : System). AreAll (IsNoSingleEvent s) (length s.events) no_single) its joined;
        unreached_are = subst (λ (s : System). AreAll (IsUnreachedEvent s (root_effects seen)) (length s.events) unreached) its moved;
      }

  -- what is added in four steps
  pub steps-told : (old first second third new : List Finding) (items : List ℕ) → items ≡ root_effects seen → first ≡ old ++ map InLoop loops → second ≡ first ++ map UnusedEvent (filter (is_error_event seen) unused)
      → third ≡ second ++ map NoSingle no_single → new ≡ third ++ effect_findings seen items unreached → new ≡ old ++ system_findings seen loops unused no_single unreached
  steps-told old first second third new items same one two three four =
      let in_loops : List Finding = map InLoop loops in
      let in_none : List Finding = map UnusedEvent (filter (is_error_event seen) unused) in
      let joined : List Finding = map NoSingle no_single in
      let last : List Finding = effect_findings seen (root_effects seen) unreached in
      four
      ∙ (λ i. three i ++ effect_findings seen (same i) unreached)
      ∙ (λ i. (two i ++ joined) ++ last)
      ∙ (λ i. ((one i ++ in_none) ++ joined) ++ last)
      ∙ append_assoc ((old ++ in_loops) ++ in_none) joined last
      ∙ append_assoc (old ++ in_loops) in_none (joined ++ last)
      ∙ append_assoc old in_loops (in_none ++ (joined ++ last))
