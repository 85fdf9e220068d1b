-- Small examples of the definitions, each proved by computing it.
use Rattle.std.proofs.Common.{ℕ, ◌≡◌, Bool, true, false, List, [], ◌∷◌, codes, Option, Some, None, refl}
use Rattle.aadl_syntax.specs.declared.core_model.Decl.{Decl}
use Rattle.aadl_syntax.specs.declared.core_model.FeatureKind.TheVariants.{Inward, Outward, Both, Access}
use Rattle.aadl_syntax.specs.declared.error_model.Atom.{Atom}
use Rattle.aadl_syntax.specs.declared.error_model.StateRef.{StateRef}
use Rattle.aadl_syntax.specs.declared.error_model.TypeSet.{TypeSet}
use Rattle.plain_values.specs.declared.refusal.Code.TheVariants.{FeatureGroup, NotContained, UnknownPoint, UnknownState, UnknownTrigger}
use Rattle.plain_values.specs.Refusal.{place_of, refusal}
use Rattle.component_extension.specs.declared.effective.Effective.{Effective}
use Rattle.error_libraries.specs.declared.scope.Scope.{Scope}
use Rattle.error_libraries.specs.Search.{searched}
use Rattle.error_types.specs.Types.{is_below_in, type_named}
use Rattle.error_types.specs.Walk.{follow}
use Rattle.propagation_points.specs.declared.held.Held.TheVariants.{Any, One}
use Rattle.propagation_points.specs.declared.side.Reach.TheVariants.{Only, Whole}
use Rattle.propagation_points.specs.declared.side.Side.TheVariants.{Absent, Free, Declared}
use Rattle.propagation_points.specs.Points.{Point, point_refusals, points_of, scopes_of}
use Rattle.propagation_points.specs.States.{Sort, all_variants, keep_sort, selected, state_held, state_refusals}
use Rattle.propagation_points.specs.Uses.{atom_use, point_use, reached, use_refusals}
use Rattle.propagation_points.specs.inner.Uses.{reached_types}
use Rattle.propagation_points.proofs.Sample.{clause_of, device_of, effective_of, feature_of, no_error_at, packages, point_at, propagation_at, set_at, spot, table, user_point_of}

-- ---- points of every kind

-- ports in, out and both ways, and access; own points, one of them with a feature's name; a feature that has a point word as its
-- name; and propagations for words, with a `not` among them
abbrev device : Decl
device =
    device_of (codes "x")
    (feature_of (codes "i") Inward ∷ feature_of (codes "o") Outward ∷ feature_of (codes "b") Both ∷ feature_of (codes "a") Access ∷ feature_of (codes "bindings") Inward ∷ [])
    (clause_of
    (propagation_at 1 (codes "bindings" ∷ []) false false (codes "badvalue" ∷ []) ∷ propagation_at 2 (codes "processor" ∷ []) false true (codes "badvalue" ∷ [])
    ∷ propagation_at 3 (codes "o" ∷ []) false true (codes "serviceerror" ∷ []) ∷ propagation_at 4 (codes "o" ∷ []) true false (codes "badvalue" ∷ [])
    ∷ propagation_at 5 (codes "binding" ∷ []) true true (codes "badvalue" ∷ []) ∷ record (propagation_at 6 (codes "i" ∷ []) false true []) { set = no_error_at 6 } ∷ [])
    (user_point_of (codes "u") ∷ user_point_of (codes "o") ∷ []) [])

abbrev own : Effective
own = effective_of device

-- Features stand first, then own points, of which the one with a feature's name is none, then the words in their order. A `not`
-- declares nothing, and gives a word its point. A set that is declared for a port that goes the other way gives it that side.
abbrev all_points : List Point
all_points =
    record { name = codes "i"; inward = Free; outward = Declared [] } ∷ record { name = codes "o"; inward = Absent; outward = Declared (0 ∷ 1 ∷ 2 ∷ []) }
    ∷ record { name = codes "b"; inward = Free; outward = Free } ∷ record { name = codes "a"; inward = Free; outward = Free } ∷ record { name = codes "bindings"; inward = Declared (3 ∷ []); outward = Absent }
    ∷ record { name = codes "u"; inward = Free; outward = Free } ∷ record { name = codes "processor"; inward = Absent; outward = Declared (3 ∷ []) }
    ∷ record { name = codes "binding"; inward = Absent; outward = Absent } ∷ []

points_of_every_kind : points_of table own ≡ all_points
unfolding searched follow type_named is_below_in
points_of_every_kind = refl

no_refusals : point_refusals table own ≡ []
unfolding searched follow type_named is_below_in
no_refusals = refl

-- ---- propagations that are refused

-- N9 at a point that is not there, also with `not`, and P3 at a dotted one
abbrev wrong : Decl
wrong =
    device_of (codes "y") (feature_of (codes "o") Outward ∷ [])
    (clause_of
    (propagation_at 1 (codes "p" ∷ []) false true (codes "badvalue" ∷ []) ∷ propagation_at 2 (codes "o" ∷ codes "p" ∷ []) false true (codes "badvalue" ∷ [])
    ∷ propagation_at 3 (codes "o" ∷ []) false true (codes "badvalue" ∷ []) ∷ propagation_at 4 (codes "p" ∷ []) true true (codes "badvalue" ∷ []) ∷ []) [] [])

three_refusals : point_refusals table (effective_of wrong) ≡ refusal UnknownPoint (place_of (spot 1)) ∷ refusal FeatureGroup (place_of (spot 2)) ∷ refusal UnknownPoint (place_of (spot 4)) ∷ []
unfolding searched follow type_named is_below_in
three_refusals = refl

-- ---- uses

-- the text of the device's clause
abbrev text : Option Scope
text = Some (record { «package» = 1; libraries = 0 ∷ 1 ∷ [] })

texts : scopes_of packages own.clauses ≡ record { «package» = 1; libraries = 0 ∷ 1 ∷ [] } ∷ []
texts = refl

abbrev only_bad : Option TypeSet
only_bad = Some (set_at 9 (codes "badvalue" ∷ []))

-- without a set the whole side is reached
whole_side : reached table all_points text (point_use (point_at 1 (codes "o" ∷ [])) true None) ≡ Some (record { point = 1; types = Whole })
whole_side = refl

some_types : reached table all_points text (point_use (point_at 1 (codes "processor" ∷ [])) true only_bad) ≡ Some (record { point = 6; types = Only (3 ∷ []) })
unfolding searched follow type_named is_below_in
some_types = refl

some_types_there : use_refusals table all_points text (point_use (point_at 1 (codes "processor" ∷ [])) true only_bad) ≡ []
unfolding searched follow type_named is_below_in
some_types_there = refl

-- N10 at the set, where a type is not declared for the side
outside : use_refusals table all_points text (point_use (point_at 1 (codes "o" ∷ [])) true only_bad) ≡ refusal NotContained (place_of (spot 9)) ∷ []
unfolding searched follow type_named is_below_in
outside = refl

-- a free side has no type outside; types that no declared set of the instance has select nothing there
free_side : use_refusals table all_points text (point_use (point_at 1 (codes "u" ∷ [])) true only_bad) ≡ []
unfolding searched follow type_named is_below_in
free_side = refl

free_types : reached_types (0 ∷ 1 ∷ []) Free (Only (1 ∷ 3 ∷ [])) ≡ 1 ∷ []
free_types = refl

-- N9 where the point has no such side, where there is no such point, and at a dotted name
no_side : use_refusals table all_points text (point_use (point_at 1 (codes "o" ∷ [])) false only_bad) ≡ refusal UnknownPoint (place_of (spot 1)) ∷ []
unfolding searched follow type_named is_below_in
no_side = refl

no_point : use_refusals table all_points text (point_use (point_at 1 (codes "p" ∷ [])) true None) ≡ refusal UnknownPoint (place_of (spot 1)) ∷ []
no_point = refl

dotted : use_refusals table all_points text (point_use (point_at 1 (codes "o" ∷ codes "o" ∷ [])) true None) ≡ refusal UnknownPoint (place_of (spot 1)) ∷ []
dotted = refl

-- N12 at an atom without `in`, and N9 after `in`
abbrev atom_after : Bool → Atom
atom_after inward = record { inward = inward; names = codes "o" ∷ []; spot = spot 1; set = None }

trigger : use_refusals table all_points text (atom_use (atom_after false)) ≡ refusal UnknownTrigger (place_of (spot 1)) ∷ []
trigger = refl

after_in : use_refusals table all_points text (atom_use (atom_after true)) ≡ refusal UnknownPoint (place_of (spot 1)) ∷ []
after_in = refl

nothing_reached : reached table all_points text (point_use (point_at 1 (codes "o" ∷ [])) false None) ≡ None
nothing_reached = refl

-- ---- a source

-- a device whose one port goes out, with a set declared for it
abbrev source : Decl
source = device_of (codes "src") (feature_of (codes "o") Outward ∷ []) (clause_of (propagation_at 1 (codes "o" ∷ []) false true (codes "lost" ∷ codes "badvalue" ∷ []) ∷ []) [] [])

abbrev source_points : List Point
source_points = record { name = codes "o"; inward = Absent; outward = Declared (2 ∷ 3 ∷ []) } ∷ []

-- the alias stands for its type
points_of_source : points_of table (effective_of source) ≡ source_points
unfolding searched follow type_named is_below_in
points_of_source = refl

no_refusals_of_source : point_refusals table (effective_of source) ≡ []
unfolding searched follow type_named is_below_in
no_refusals_of_source = refl

-- ---- states and events

-- ok, bad with the types 0 and 2, and worse; a second one of a name has no meaning
abbrev sorts : List Sort
sorts = record { name = codes "ok"; first = 0; types = None } ∷ record { name = codes "bad"; first = 1; types = Some (0 ∷ 2 ∷ []) } ∷ record { name = codes "worse"; first = 3; types = None } ∷ []

in_order : keep_sort (keep_sort (keep_sort [] (codes "ok") None) (codes "bad") (Some (0 ∷ 2 ∷ []))) (codes "worse") None ≡ sorts
in_order = refl

again : keep_sort sorts (codes "bad") None ≡ sorts
again = refl

-- one variant of what is declared without a set, and one for each type of a set
variants : all_variants sorts
    ≡ record { name = codes "ok"; type = None } ∷ record { name = codes "bad"; type = Some 0 } ∷ record { name = codes "bad"; type = Some 2 } ∷ record { name = codes "worse"; type = None } ∷ []
variants = refl

-- what a name selects: the state itself; all of its types; those of a set; none of a type that it has not
itself : selected 3 None Whole ≡ One 3
itself = refl

all_types : selected 1 (Some (0 ∷ 2 ∷ [])) Whole ≡ Any (1 ∷ 2 ∷ [])
all_types = refl

some_of_them : selected 1 (Some (0 ∷ 2 ∷ [])) (Only (2 ∷ 3 ∷ [])) ≡ Any (2 ∷ [])
some_of_them = refl

none_of_them : selected 3 None (Only (2 ∷ [])) ≡ Any []
none_of_them = refl

abbrev state_at : List ℕ → Option TypeSet → StateRef
state_at name set = record { name = name; spot = spot 1; set = set }

lost_of_bad : state_held table text sorts (state_at (codes "bad") (Some (set_at 9 (codes "lost" ∷ [])))) ≡ Some (Any (2 ∷ []))
unfolding searched follow type_named is_below_in
lost_of_bad = refl

-- N10 at the set of what is declared without one, and at a set with a type that is not declared; N11 alone at an unknown state
no_types : state_refusals table text sorts (state_at (codes "ok") only_bad) ≡ refusal NotContained (place_of (spot 9)) ∷ []
unfolding searched follow type_named is_below_in
no_types = refl

other_type : state_refusals table text sorts (state_at (codes "bad") only_bad) ≡ refusal NotContained (place_of (spot 9)) ∷ []
unfolding searched follow type_named is_below_in
other_type = refl

unknown : state_refusals table text sorts (state_at (codes "best") only_bad) ≡ refusal UnknownState (place_of (spot 1)) ∷ []
unfolding searched follow type_named is_below_in
unknown = refl
