-- Where items stand that name points and states.
use Rattle.std.specs.Prelude.{ℕ, List, slice_get, Option}
use Rattle.plain_values.specs.declared.refusal.Refusal.{Refusal}
use Rattle.aadl_syntax.specs.declared.error_model.StateRef.{StateRef}
use Rattle.error_libraries.specs.declared.scope.Scope.{Scope}
use Rattle.error_libraries.specs.Libraries.{Table}
use Rattle.propagation_points.specs.declared.uses.ReachedPoint.{ReachedPoint}
use Rattle.propagation_points.specs.Points.{Point}
use Rattle.propagation_points.specs.declared.held.Held.{Held}
use Rattle.propagation_points.specs.States.{Sort, state_refusals, state_held}
use Rattle.propagation_points.specs.Uses.{PointUse, reached, use_refusals}

-- A setting: the points and the states of the component, and the text in which an item is read.
pub record Setting : Type 0 where
  pub points : List Point
  pub states : List Sort
  pub scope : Option Scope

-- the setting of the items of a clause, which has this number among the texts
abbrev pub clause_setting : List Point → List Sort → List Scope → ℕ → Setting
clause_setting points states scopes number = record { points = points; states = states; scope = slice_get scopes number }

-- what a use of a point reaches in a setting
abbrev pub reached_in : Table → Setting → PointUse → Option ReachedPoint
reached_in table setting used = reached table setting.points setting.scope used

-- the refusals of a use of a point in a setting
abbrev pub refusals_in : Table → Setting → PointUse → List Refusal
refusals_in table setting used = use_refusals table setting.points setting.scope used

-- what a reference to a state selects in a setting
abbrev pub held_in : Table → Setting → StateRef → Option Held
held_in table setting state = state_held table setting.scope setting.states state

-- the refusals of a reference to a state in a setting
abbrev pub state_refusals_in : Table → Setting → StateRef → List Refusal
state_refusals_in table setting state = state_refusals table setting.scope setting.states state
