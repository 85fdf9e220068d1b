-- Worked rows: the events of a component by both profiles.
use Rattle.std.proofs.Common.{ℕ, ◌≡◌, true, false, List, [], ◌∷◌, codes, map, Some, None, refl}
use Rattle.aadl_syntax.specs.declared.error_model.EventDecl.{EventDecl}
use Rattle.aadl_syntax.specs.declared.error_model.EventKind.{EventKind}
use Rattle.aadl_syntax.specs.declared.error_model.EventKind.TheVariants.{Error, Recover, Repair}
use Rattle.plain_values.specs.declared.refusal.Code.TheVariants.{Recovery}
use Rattle.plain_values.specs.declared.spot.Spot.{Spot}
use Rattle.plain_values.specs.Refusal.{place_of, refusal}
use Rattle.profiles.specs.declared.profile.Profile.{Profile}
use Rattle.profiles.specs.declared.profile.Profile.TheVariants.{First, Second}
use Rattle.error_libraries.specs.Libraries.{Table, table_of}
use Rattle.propagation_points.specs.States.{Variant, all_variants}
use Rattle.error_machines.specs.declared.states.Events.{Events}
use Rattle.error_machines.specs.States.{event_at, event_refusals, keep_event, no_events}
use Rattle.std.specs.Prelude.{fold}

abbrev spot : ℕ → Spot
spot at = record { file = 0; at = at }

abbrev event : List ℕ → EventKind → EventDecl
event name kind = record { name = name; spot = spot 5; kind = kind; set = None }

-- fail and spike, with a recovery between them, and a second fail that repairs
abbrev decls : List EventDecl
decls = event (codes "fail") Error ∷ event (codes "back") Recover ∷ event (codes "spike") Error ∷ event (codes "fail") Repair ∷ []

abbrev table : Profile → Table
table profile = table_of profile []

abbrev kept : Profile → Events
kept profile = fold (keep_event (table profile)) no_events (map (event_at None) decls)

abbrev names : List Variant → List (List ℕ)
names variants = map (λ variant. variant.name) variants

-- by the first profile each name is an event
first-all : names (all_variants (kept First).sorts) ≡ codes "fail" ∷ codes "back" ∷ codes "spike" ∷ []
first-all = refl

first-marks : (kept First).free ≡ false ∷ false ∷ false ∷ []
first-marks = refl

-- by the second what recovers is no basic event, and takes no number
second-two : names (all_variants (kept Second).sorts) ≡ codes "fail" ∷ codes "spike" ∷ []
second-two = refl

second-marks : (kept Second).free ≡ false ∷ true ∷ false ∷ []
second-marks = refl

-- ---- what is refused

first-refuses : event_refusals First (event (codes "back") Recover) ≡ refusal Recovery (place_of (spot 5)) ∷ []
first-refuses = refl

second-accepts : event_refusals Second (event (codes "back") Repair) ≡ []
second-accepts = refl
