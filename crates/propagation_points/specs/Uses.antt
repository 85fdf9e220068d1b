-- How flows, transitions and conditions name points: on which side, and with which types (EMV2: error flows, conditions).
use Rattle.std.specs.Prelude.{ℕ, Bool, true, false, cond, not, List, [], ◌++◌, Option, Some, None, option_map, option_and_then}
use Rattle.std.specs.List.{list_any}
use Rattle.aadl_syntax.specs.declared.error_model.Atom.{Atom}
use Rattle.aadl_syntax.specs.declared.error_model.PointRef.{PointRef}
use Rattle.aadl_syntax.specs.declared.error_model.TypeSet.{TypeSet}
use Rattle.plain_values.specs.declared.spot.Spot.{Spot}
use Rattle.plain_values.specs.declared.refusal.Code.{Code}
use Rattle.plain_values.specs.declared.refusal.Code.TheVariants.{NotContained, UnknownPoint, UnknownTrigger}
use Rattle.plain_values.specs.declared.refusal.Refusal.{Refusal}
use Rattle.package_index.specs.Names.{only}
use Rattle.plain_values.specs.Refusal.{refused_so}
use Rattle.error_libraries.specs.declared.scope.Scope.{Scope}
use Rattle.error_libraries.specs.Libraries.{Table}
use Rattle.error_libraries.specs.Search.{is_number_in}
use Rattle.propagation_points.specs.declared.side.Reach.{Reach}
use Rattle.propagation_points.specs.declared.side.Reach.TheVariants.{Whole, Only}
use Rattle.propagation_points.specs.declared.side.Side.{Side}
use Rattle.propagation_points.specs.declared.side.Side.TheVariants.{Absent, Free, Declared}
use Rattle.propagation_points.specs.declared.uses.ReachedPoint.{ReachedPoint}
use Rattle.propagation_points.specs.Points.{Point, place_named, point_named, side_of, types_in}

-- ---- types of a side

-- the types that may be at a side, where those of the universe may be at a free one
abbrev pub side_types : List ℕ → Side → List ℕ
side_types universe Absent = []
side_types universe Free = universe
side_types universe (Declared types) = types

-- whether a reach covers a type of its side: all of them, or those alone that are named
abbrev pub covers : Reach → ℕ → Bool
covers Whole number = true
covers (Only types) number = is_number_in types number

-- whether there is no such side
abbrev pub is_absent : Option Side → Bool
is_absent None = true
is_absent (Some Absent) = true
is_absent (Some Free) = false
is_absent (Some (Declared types)) = false

-- the types that are declared for a side, if any are; a free side has none outside
abbrev pub declared_for : Option Side → Option (List ℕ)
declared_for None = None
declared_for (Some Absent) = None
declared_for (Some Free) = None
declared_for (Some (Declared types)) = Some types

-- whether one of the types is outside those that are declared, if any are
abbrev pub is_outside : List ℕ → Option (List ℕ) → Bool
is_outside types None = false
is_outside types (Some declared) = list_any (λ number. not (is_number_in declared number)) types

-- ---- uses

-- A use of a point: its names and where they stand, its direction, the set that stands with it, if one does, and the code of
-- its refusal where the component has no such side.
pub record PointUse : Type 0 where
  pub names : List (List ℕ)
  pub spot : Spot
  pub outward : Bool
  pub set : Option TypeSet
  pub unknown : Code

-- a point that a flow or an outgoing condition names, with the set behind it
abbrev pub point_use : PointRef → Bool → Option TypeSet → PointUse
point_use point outward set = record {
  names = point.names;
  spot = point.spot;
  outward = outward;
  set = set;
  unknown = UnknownPoint;
}

-- a point that a condition names, which is always used inward: without `in` it might have been an event
abbrev pub atom_use : Atom → PointUse
atom_use atom = record {
  names = atom.names;
  spot = atom.spot;
  outward = false;
  set = atom.set;
  unknown = cond atom.inward UnknownPoint UnknownTrigger;
}

-- the place of the point that is used: a dotted name is that of none
abbrev pub used_place : List Point → PointUse → Option ℕ
used_place points used = option_and_then (place_named points) (only used.names)

-- the side that is used, if there is the point
abbrev pub used_side : List Point → PointUse → Option Side
used_side points used = option_map (side_of used.outward) (option_and_then (point_named points) (only used.names))

-- what a set reaches: without one the whole side
abbrev pub reach_of : Table → Option Scope → Option TypeSet → Reach
reach_of table scope None = Whole
reach_of table scope (Some set) = Only (types_in table scope set)

-- The meaning of a use in a text: the place of the point, and the types that are reached there. A use of a side that is not
-- there has none.
abbrev pub reached : Table → List Point → Option Scope → PointUse → Option ReachedPoint
reached table points scope used =
    cond (is_absent (used_side points used)) None (option_map (λ place. record { point = place; types = reach_of table scope used.set }) (used_place points used))

-- ---- refusals

-- N10 at a set with a type outside those that are declared, if any are
abbrev pub set_outside : Table → Option Scope → Option (List ℕ) → Option TypeSet → List Refusal
set_outside table scope declared None = []
set_outside table scope declared (Some set) = refused_so (is_outside (types_in table scope set) declared) NotContained set.spot

-- The refusals of a use: its own where the component has no such point or not that side, which is N9, or N12 at an atom without
-- `in`; and N10.
abbrev pub use_refusals : Table → List Point → Option Scope → PointUse → List Refusal
use_refusals table points scope used =
    refused_so (is_absent (used_side points used)) used.unknown used.spot ++ set_outside table scope (declared_for (used_side points used)) used.set
