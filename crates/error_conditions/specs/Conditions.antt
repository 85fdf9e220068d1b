-- What a condition means, from what its named parts mean (EMV2: error conditions): where it may hold, and where it may fail.
use Rattle.std.specs.Prelude.{ℕ, ◌+◌, ◌-◌, Bool, true, false, cond, ◌&&◌, not, nat_eq, List, [], ◌∷◌, ◌++◌, filter, flat_map, length, map, Option, Some, None, option_map}
use Rattle.profiles.specs.declared.profile.Profile.{Profile}
use Rattle.profiles.specs.Profiles.{is_first}
use Rattle.aadl_syntax.specs.declared.error_model.Atom.{Atom}
use Rattle.aadl_syntax.specs.declared.error_model.Condition.{Condition, fold-Condition}
use Rattle.aadl_syntax.specs.declared.error_model.Condition.TheOpen.{Condition-F}
use Rattle.aadl_syntax.specs.declared.error_model.Condition.TheOpen as condition
use Rattle.aadl_syntax.specs.declared.error_model.Term.{Term}
use Rattle.aadl_syntax.specs.declared.error_model.Term.TheVariants.{NoError, One, Product}
use Rattle.aadl_syntax.specs.declared.error_model.TypeSet.{TypeSet}
use Rattle.plain_values.specs.declared.refusal.Code.TheVariants.{NoErrorCondition, OrLess}
use Rattle.plain_values.specs.declared.refusal.Refusal.{Refusal}
use Rattle.plain_values.specs.Refusal.{refused_so}
use Rattle.plain_values.specs.Numbered.{numbers_below}
use Rattle.error_libraries.specs.declared.scope.Scope.{Scope}
use Rattle.error_libraries.specs.Libraries.{Table}
use Rattle.error_libraries.specs.Search.{is_number_in}
use Rattle.error_types.specs.NoError.{has_no_error}
use Rattle.propagation_points.specs.declared.held.Held.{Held}
use Rattle.propagation_points.specs.declared.held.Held.TheVariants as held
use Rattle.propagation_points.specs.declared.side.Reach.{Reach}
use Rattle.propagation_points.specs.declared.side.Reach.TheVariants.{Whole, Only}
use Rattle.propagation_points.specs.declared.uses.ReachedPoint.{ReachedPoint}
use Rattle.propagation_points.specs.Settings.{Setting, reached_in}
use Rattle.propagation_points.specs.Uses.{atom_use}
use Rattle.error_conditions.specs.declared.cause.Cause.{Cause}
use Rattle.error_conditions.specs.declared.cause.Cause.TheVariants.{Point, All, Any, AtLeast}

-- ---- two sides

-- Where a condition may hold, and where it may fail. An error may stay away, so a condition may do both.
pub record Pair : Type 0 where
  pub holds : Cause
  pub fails : Cause

-- what may hold by one cause, and may fail by another
abbrev pub pair : Cause → Cause → Pair
pair holds fails = record { holds = holds; fails = fails }

-- what is always so
abbrev pub always : Cause
always = All []

-- what holds by a cause, and may always fail: an error may stay away
abbrev pub may_fail : Cause → Pair
may_fail cause = pair cause always

-- ---- the condition

-- where each of these may hold
abbrev pub holds_of : List Pair → List Cause
holds_of parts = map (λ part. part.holds) parts

-- where each of these may fail
abbrev pub fails_of : List Pair → List Cause
fails_of parts = map (λ part. part.fails) parts

-- One condition, with the meanings of its parts in their places. Fewer than k of n hold where n + 1 - k or more fail, and at most
-- k hold where n - k or more fail; `-` stops at 0.
abbrev pub pair_step : (Atom → Pair) → Condition-F Pair → Pair
pair_step meaning (condition.Atom atom) = meaning atom
pair_step meaning (condition.All parts) = pair (All (holds_of parts)) (Any (fails_of parts))
pair_step meaning (condition.Any parts) = pair (Any (holds_of parts)) (All (fails_of parts))
pair_step meaning (condition.AtLeast least parts) = pair (AtLeast least (holds_of parts)) (AtLeast (length parts + 1 - least) (fails_of parts))
pair_step meaning (condition.AtMost most parts spot) = pair (AtLeast (length parts - most) (fails_of parts)) (AtLeast (most + 1) (holds_of parts))

-- The meaning of a condition, where its named parts mean this.
abbrev pub pair_of : (Atom → Pair) → Condition → Pair
pair_of meaning = fold-Condition Pair (pair_step meaning)

-- one condition, with the refusals of its parts in their places: by the first profile P5 at the number of an `orless`
abbrev pub refusals_step : Profile → (Atom → List Refusal) → Condition-F (List Refusal) → List Refusal
refusals_step profile faults (condition.Atom atom) = faults atom
refusals_step profile faults (condition.All parts) = flat_map (λ part. part) parts
refusals_step profile faults (condition.Any parts) = flat_map (λ part. part) parts
refusals_step profile faults (condition.AtLeast least parts) = flat_map (λ part. part) parts
refusals_step profile faults (condition.AtMost most parts spot) = refused_so (is_first profile) OrLess spot ++ flat_map (λ part. part) parts

-- the refusals of a condition, where its named parts have these
abbrev pub condition_refusals : Profile → (Atom → List Refusal) → Condition → List Refusal
condition_refusals profile faults = fold-Condition (List Refusal) (refusals_step profile faults)

-- ---- named parts

-- what it means that this is reached; what reaches nothing is never true
abbrev pub point_cause : Option ReachedPoint → Cause
point_cause None = Any []
point_cause (Some reached) = Point reached

-- Whether a name with this set behind it says in a text that no error may be there: by the second profile, where the set has `noerror`.
abbrev pub says_no_error : Table → Option Scope → Option TypeSet → Bool
says_no_error table None set = false
says_no_error table (Some scope) None = false
says_no_error table (Some scope) (Some set) = not (is_first table.profile) && has_no_error table scope set

-- the types of a side that this does not mean; what means none of them leaves the whole side
abbrev pub rest_of : Table → Reach → Reach
rest_of table Whole = Only []
rest_of table (Only types) = cond (nat_eq (length types) 0) Whole (Only (filter (λ number. not (is_number_in types number)) (numbers_below (length table.types))))

-- the same of a point
abbrev pub rest_at : Table → ReachedPoint → ReachedPoint
rest_at table reached = record { point = reached.point; types = rest_of table reached.types }

-- What it means that this is reached, perhaps or no error at all: one of the types comes in, and an error may always stay away. That
-- no error comes in may always be so, and fails where a type comes in that is not meant.
abbrev pub point_pair : Table → Bool → Option ReachedPoint → Pair
point_pair table false reached = may_fail (point_cause reached)
point_pair table true reached = pair always (point_cause (option_map (rest_at table) reached))

-- the meaning of a named part that names a point
abbrev pub point_meaning : Table → Setting → Atom → Pair
point_meaning table setting atom = point_pair table (says_no_error table setting.scope atom.set) (reached_in table setting (atom_use atom))

-- by the first profile P6 at a term `noerror`
abbrev pub no_error_at : Profile → Term → List Refusal
no_error_at profile (NoError spot) = refused_so (is_first profile) NoErrorCondition spot
no_error_at profile (One name) = []
no_error_at profile (Product spot) = []

-- by the first profile P6 at each `noerror` of the set of a named part
abbrev pub no_error_refusals : Profile → Option TypeSet → List Refusal
no_error_refusals profile None = []
no_error_refusals profile (Some set) = flat_map (no_error_at profile) set.terms

-- What a name means that selects this of a state or an event, where one variant means this: it is that one, or one of these.
abbrev pub held_cause : (ℕ → Cause) → Held → Cause
held_cause meaning (held.One number) = meaning number
held_cause meaning (held.Any numbers) = Any (map meaning numbers)
