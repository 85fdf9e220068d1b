-- Worked rows: states of components below, and `others`.
use Rattle.std.proofs.Common.{ℕ, ◌≡◌, true, false, List, [], ◌∷◌, codes, Some, None, refl}
use Rattle.plain_values.specs.declared.refusal.Code.TheVariants.{Others}
use Rattle.plain_values.specs.declared.spot.Spot.{Spot}
use Rattle.plain_values.specs.Refusal.{place_of, refusal}
use Rattle.profiles.specs.declared.profile.Profile.TheVariants.{First, Second}
use Rattle.aadl_syntax.specs.declared.error_model.Composite.{Composite}
use Rattle.propagation_points.specs.States.{Sort}
use Rattle.propagation_points.specs.declared.held.Held.TheVariants as held
use Rattle.error_conditions.specs.Conditions.{always, pair}
use Rattle.error_conditions.specs.declared.cause.Cause.{Cause}
use Rattle.error_conditions.specs.declared.cause.Cause.TheVariants.{All, Any, Event}
use Rattle.composite_states.specs.Below.{state_pair, variant_cause, variant_count}
use Rattle.composite_states.specs.Composites.{others_cause, others_refusals}

spot : Spot
spot = record { file = 0; at = 9 }

abbrev path : List (List ℕ)
path = codes "a" ∷ []

abbrev in_state : ℕ → Cause
in_state = variant_cause path

-- ok, degraded and failed, of which failed has two types
abbrev states : List Sort
states =
    record { name = codes "ok"; first = 0; types = None } ∷ record { name = codes "degraded"; first = 1; types = None }
    ∷ record { name = codes "failed"; first = 2; types = Some (4 ∷ 6 ∷ []) } ∷ []

four-variants : variant_count (Some states) ≡ 4
four-variants = refl

-- not ok is degraded or failed
not-ok : state_pair path 4 (held.One 0) ≡ pair (in_state 0) (Any (in_state 1 ∷ in_state 2 ∷ in_state 3 ∷ []))
not-ok = refl

-- not failed by one of the types is any other variant
not-failed : state_pair path 4 (held.Any (3 ∷ [])) ≡ pair (Any (in_state 3 ∷ [])) (Any (in_state 0 ∷ in_state 1 ∷ in_state 2 ∷ []))
not-failed = refl

-- what has one state is never in another
not-only : state_pair path 1 (held.One 0) ≡ pair (in_state 0) (Any [])
not-only = refl

-- ---- others

first-none : others_cause First (Event 0 ∷ []) ≡ None
first-none = refl

second-all : others_cause Second (Event 0 ∷ Event 1 ∷ []) ≡ Some (All (Event 0 ∷ Event 1 ∷ []))
second-all = refl

-- alone it is always so
second-alone : others_cause Second [] ≡ Some always
second-alone = refl

abbrev others : Composite
others = record { name = None; spot = spot; condition = None; target = record { name = codes "degraded"; spot = spot; set = None } }

first-refuses : others_refusals First states (true ∷ false ∷ false ∷ []) others ≡ refusal Others (place_of spot) ∷ []
first-refuses = refl

first-accepts : others_refusals First states (true ∷ true ∷ false ∷ []) others ≡ []
first-accepts = refl

second-accepts : others_refusals Second states (true ∷ false ∷ false ∷ []) others ≡ []
second-accepts = refl
