-- What a review tells of the loops and the events of a model.
use Rattle.std.specs.Prelude.{ℕ, ◌≡◌, ◌==◌, Bool, false, cond, nat_eq, List, [], ◌∷◌, ◌++◌, filter, length, map, slice_get}
use Rattle.std.specs.Option.{option_map_or}
use Rattle.fault_system.specs.Systems.{System}
use Rattle.system_review.specs.Listed.{AreAll}
use Rattle.system_review.specs.Loops.{AreLoops}
use Rattle.system_review.specs.Occurring.{IsUnreachedEvent, IsUnusedEvent}
use Rattle.system_review.specs.Single.{IsNoSingleEvent}
use Rattle.system_review.specs.declared.looping.Loop.{Loop}
use Rattle.model_review.specs.Findings.{model_findings, of_components}
use Rattle.model_review.specs.Seen.{Seen, is_error_event, root_effects}
use Rattle.model_review.specs.declared.finding.Finding.{Finding}
use Rattle.model_review.specs.declared.finding.Finding.TheVariants.{InLoop, NoEffect, NoSingle, UnreachedEvents, UnusedEvent}

-- The loops of the system of a model, the events that occur in no formula, those that occur in one and alone make no fact hold, and those that
-- occur in one and on which no effect of the root depends.
pub record IsTold (seen : Seen) (loops : List Loop) (unused no_single unreached : List ℕ) : Type 0 where
  pub loops_are : AreLoops seen.system loops
  pub unused_are : AreAll (IsUnusedEvent seen.system) (length seen.system.events) unused
  pub no_single_are : AreAll (IsNoSingleEvent seen.system) (length seen.system.events) no_single
  pub unreached_are : AreAll (IsUnreachedEvent seen.system (root_effects seen)) (length seen.system.events) unreached

-- whether an event is one of a component
abbrev pub is_event_of : System → ℕ → ℕ → Bool
is_event_of system owner event = option_map_or (λ info. nat_eq info.owner owner) (slice_get system.events event) false

-- events of one component, if there are any
abbrev pub unreached_with : List ℕ → List Finding
unreached_with events = cond (length events == 0) [] (UnreachedEvents events ∷ [])

-- those of some events that are of a component, if there are any
abbrev pub unreached_of : System → List ℕ → ℕ → List Finding
unreached_of system events owner = unreached_with (filter (is_event_of system owner) events)

-- these events, for each component in order
abbrev pub unreached_told : Seen → List ℕ → List Finding
unreached_told seen events = of_components seen (λ owner model. unreached_of seen.system events owner)

-- what is told of these events by the effects of the root: that it has none; or that none depends on them
abbrev pub effect_findings : Seen → List ℕ → List ℕ → List Finding
effect_findings seen effects unreached = cond (length effects == 0) (NoEffect ∷ []) (unreached_told seen unreached)

-- What is told of loops and events, in this order; of the events in no formula the error events alone.
abbrev pub system_findings : Seen → List Loop → List ℕ → List ℕ → List ℕ → List Finding
system_findings seen loops unused no_single unreached =
    map InLoop loops ++ (map UnusedEvent (filter (is_error_event seen) unused) ++ (map NoSingle no_single ++ effect_findings seen (root_effects seen) unreached))

-- Exactly what is told of the loops and the events of a model stands behind what there was.
abbrev pub AddsTold : Seen → List Finding → List Finding → Type 0
AddsTold seen before after =
    (loops : List Loop) × (unused : List ℕ) × (no_single : List ℕ) × (unreached : List ℕ) × IsTold seen loops unused no_single unreached
    × (after ≡ before ++ system_findings seen loops unused no_single unreached)

-- Exactly what is told of a model, in order.
abbrev pub AreFindings : Seen → List Finding → Type 0
AreFindings seen findings = AddsTold seen (model_findings seen) findings
