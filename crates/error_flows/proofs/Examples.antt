-- Small examples of the definitions, each proved by computing it.
use Rattle.std.proofs.Common.{ℕ, ◌≡◌, true, false, List, [], ◌∷◌, codes, Option, Some, None, refl}
use Rattle.aadl_syntax.specs.declared.core_model.Decl.{Decl}
use Rattle.aadl_syntax.specs.declared.core_model.FeatureKind.TheVariants.{Inward, Outward}
use Rattle.aadl_syntax.specs.declared.error_model.Flow.{Flow}
use Rattle.aadl_syntax.specs.declared.error_model.FlowKind.{FlowKind}
use Rattle.aadl_syntax.specs.declared.error_model.FlowKind.TheVariants.{Source, Sink, Path}
use Rattle.aadl_syntax.specs.declared.error_model.StateRef.{StateRef}
use Rattle.aadl_syntax.specs.declared.error_model.TypeSet.{TypeSet}
use Rattle.plain_values.specs.declared.refusal.Code.TheVariants.{Mapping, NotContained, UnknownPoint, UnknownState}
use Rattle.plain_values.specs.Refusal.{place_of, refusal}
use Rattle.component_extension.specs.declared.effective.Effective.{Effective}
use Rattle.error_libraries.specs.Search.{searched}
use Rattle.error_types.specs.Types.{is_below_in, type_named}
use Rattle.error_types.specs.Walk.{follow}
use Rattle.propagation_points.specs.declared.held.Held.TheVariants.{One, Any}
use Rattle.propagation_points.specs.declared.side.Reach.TheVariants.{Only, Whole}
use Rattle.propagation_points.specs.States.{Sort}
use Rattle.propagation_points.specs.Points.{Point, points_of}
use Rattle.propagation_points.proofs.Sample.{clause_of, device_of, effective_of, feature_of, point_at, propagation_at, set_at, spot, table}
use Rattle.error_flows.specs.declared.meaning.FlowMeaning.TheVariants.{Event, State, Carry, Change}
use Rattle.error_flows.specs.Flows.{all_flow_refusals, flows_of}

abbrev flow_of : List ℕ → FlowKind → Flow
flow_of name kind = record { name = name; spot = spot 0; kind = kind }

abbrev state_at : ℕ → List ℕ → Option TypeSet → StateRef
state_at at name set = record { name = name; spot = spot at; set = set }

-- the set of one type
abbrev only : ℕ → List ℕ → Option TypeSet
only at type = Some (set_at at (type ∷ []))

-- a device with a port in and a port out: what may come in are the type badvalue, and what may go out serviceerror and below
abbrev device_with : List Flow → Decl
device_with flows =
    device_of (codes "x") (feature_of (codes "i") Inward ∷ feature_of (codes "o") Outward ∷ [])
    (clause_of (propagation_at 1 (codes "i" ∷ []) false false (codes "badvalue" ∷ []) ∷ propagation_at 2 (codes "o" ∷ []) false true (codes "serviceerror" ∷ []) ∷ []) [] flows)

abbrev points : List Point
points = points_of table (effective_of (device_with []))

-- the states of its machine, of which the second is declared with two types
abbrev states : List Sort
states = record { name = codes "ok"; first = 0; types = None } ∷ record { name = codes "bad"; first = 1; types = Some (0 ∷ 2 ∷ []) } ∷ []

-- ---- meaning

-- a source, sources in a state, a sink, a path with a set at its end and one without
abbrev flows : List Flow
flows =
    flow_of (codes "s") (Source (point_at 1 (codes "o" ∷ [])) (only 2 (codes "serviceerror")) None)
    ∷ flow_of (codes "v") (Source (point_at 3 (codes "o" ∷ [])) None (Some (state_at 4 (codes "ok") None)))
    ∷ flow_of (codes "w") (Source (point_at 3 (codes "o" ∷ [])) None (Some (state_at 4 (codes "bad") None)))
    ∷ flow_of (codes "x") (Source (point_at 3 (codes "o" ∷ [])) None (Some (state_at 4 (codes "bad") (only 4 (codes "late")))))
    ∷ flow_of (codes "k") (Sink (point_at 5 (codes "i" ∷ [])) None)
    ∷ flow_of (codes "c") (Path (point_at 6 (codes "i" ∷ [])) (only 7 (codes "badvalue")) (point_at 8 (codes "o" ∷ [])) (only 9 (codes "serviceerror")) None)
    ∷ flow_of (codes "p") (Path (point_at 10 (codes "i" ∷ [])) None (point_at 11 (codes "o" ∷ [])) None None) ∷ []

-- the first source is an event of its name, the sink has no meaning; a state that is declared and written without a set is itself,
-- and one with types stands for those that are selected
meanings : flows_of table points states (effective_of (device_with flows))
    ≡ Event (codes "s") (record { point = 1; types = Only (0 ∷ 1 ∷ 2 ∷ []) }) ∷ State (One 0) (record { point = 1; types = Whole })
    ∷ State (Any (1 ∷ 2 ∷ [])) (record { point = 1; types = Whole }) ∷ State (Any (2 ∷ [])) (record { point = 1; types = Whole })
    ∷ Change (record { point = 0; types = Only (3 ∷ []) }) 1 (0 ∷ 1 ∷ 2 ∷ []) ∷ Carry (record { point = 0; types = Whole }) 1 ∷ []
unfolding searched follow type_named is_below_in
meanings = refl

accepted : all_flow_refusals table points states (effective_of (device_with flows)) ≡ []
unfolding searched follow type_named is_below_in
accepted = refl

-- ---- refusals

-- Sources go out, and sinks come in; sinks are tested too.
abbrev wrong_sides : List Flow
wrong_sides =
    flow_of (codes "s") (Source (point_at 1 (codes "i" ∷ [])) None None) ∷ flow_of (codes "k") (Sink (point_at 2 (codes "o" ∷ [])) None)
    ∷ flow_of (codes "p") (Path (point_at 3 (codes "o" ∷ [])) None (point_at 4 (codes "i" ∷ [])) None None) ∷ flow_of (codes "d") (Sink (point_at 5 (codes "i" ∷ codes "i" ∷ [])) None) ∷ []

sides : all_flow_refusals table points states (effective_of (device_with wrong_sides))
    ≡ refusal UnknownPoint (place_of (spot 1)) ∷ refusal UnknownPoint (place_of (spot 2)) ∷ refusal UnknownPoint (place_of (spot 3)) ∷ refusal UnknownPoint (place_of (spot 4))
    ∷ refusal UnknownPoint (place_of (spot 5)) ∷ []
unfolding searched follow type_named is_below_in
sides = refl

-- N10 at each set with a type that is not declared for its side, also of a sink
abbrev wrong_sets : List Flow
wrong_sets =
    flow_of (codes "k") (Sink (point_at 1 (codes "i" ∷ [])) (only 2 (codes "serviceerror")))
    ∷ flow_of (codes "p") (Path (point_at 3 (codes "i" ∷ [])) (only 4 (codes "badvalue")) (point_at 5 (codes "o" ∷ [])) (only 6 (codes "badvalue")) None) ∷ []

sets : all_flow_refusals table points states (effective_of (device_with wrong_sets)) ≡ refusal NotContained (place_of (spot 2)) ∷ refusal NotContained (place_of (spot 6)) ∷ []
unfolding searched follow type_named is_below_in
sets = refl

-- N11 at a state that is none, N10 at a set behind a state that is declared without one, and at a set with a type that the state has
-- not, and P11 at mappings of a path and of a clause
abbrev wrong_rest : List Flow
wrong_rest =
    flow_of (codes "s") (Source (point_at 1 (codes "o" ∷ [])) None (Some (state_at 2 (codes "worse") (only 3 (codes "badvalue")))))
    ∷ flow_of (codes "t") (Source (point_at 1 (codes "o" ∷ [])) None (Some (state_at 2 (codes "ok") (only 8 (codes "badvalue")))))
    ∷ flow_of (codes "u") (Source (point_at 1 (codes "o" ∷ [])) None (Some (state_at 2 (codes "bad") (only 9 (codes "serviceerror")))))
    ∷ flow_of (codes "p") (Path (point_at 4 (codes "i" ∷ [])) None (point_at 5 (codes "o" ∷ [])) None (Some (spot 6))) ∷ []

abbrev with_mappings : Effective
with_mappings = record (effective_of (device_with wrong_rest)) { others = record { associations = []; mappings = spot 7 ∷ []; connection_errors = [] } }

rest : all_flow_refusals table points states with_mappings
    ≡ refusal UnknownState (place_of (spot 2)) ∷ refusal NotContained (place_of (spot 8)) ∷ refusal NotContained (place_of (spot 9)) ∷ refusal Mapping (place_of (spot 6)) ∷ refusal Mapping (place_of (spot 7)) ∷ []
unfolding searched follow type_named is_below_in
rest = refl

-- what is refused has no meaning, or selects what is left; but for the mappings
no_meaning : flows_of table points states with_mappings
    ≡ State (Any []) (record { point = 1; types = Whole }) ∷ State (Any (1 ∷ 2 ∷ [])) (record { point = 1; types = Whole }) ∷ Carry (record { point = 0; types = Whole }) 1 ∷ []
unfolding searched follow type_named is_below_in
no_meaning = refl
