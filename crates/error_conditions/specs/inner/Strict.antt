-- The strict reading of a condition, in which a named part that is not true is false, and what is lost of it.
use Rattle.std.specs.Prelude.{ℕ, ◌+◌, ◌≡◌, Bool, true, false, ◌&&◌, ◌||◌, List, [], ◌∷◌, length, nat_le, not, if◌then◌else◌}
use Rattle.std.specs.List.{list_all, list_any}
use Rattle.aadl_syntax.specs.declared.error_model.Atom.{Atom}
use Rattle.aadl_syntax.specs.declared.error_model.Condition.{Condition, fold-Condition}
use Rattle.aadl_syntax.specs.declared.error_model.Condition.TheOpen.{Condition-F}
use Rattle.aadl_syntax.specs.declared.error_model.Condition.TheOpen as condition
use Rattle.plain_values.specs.Numbered.{numbers_below}
use Rattle.error_libraries.specs.Libraries.{Table}
use Rattle.propagation_points.specs.declared.side.Reach.TheVariants.{Whole}
use Rattle.propagation_points.specs.declared.uses.ReachedPoint.{ReachedPoint}
use Rattle.propagation_points.specs.Uses.{covers}
use Rattle.error_conditions.specs.Conditions.{Pair}
use Rattle.error_conditions.specs.declared.cause.Cause.{Cause, fold-Cause}
use Rattle.error_conditions.specs.declared.cause.Cause.TheOpen.{Cause-F}
use Rattle.error_conditions.specs.declared.cause.Cause.TheOpen as cause
use Rattle.error_conditions.specs.declared.cause.StateBelow.{StateBelow}

-- how many of these are true, counted by place
abbrev pub count_true : List Bool → ℕ
count_true [] = 0
count_true (b ∷ bs) = if b then count_true bs + 1 else count_true bs

-- ---- the strict reading

-- one condition, with whether each part is true in its place
abbrev pub strict_step : (Atom → Bool) → Condition-F Bool → Bool
strict_step named (condition.Atom atom) = named atom
strict_step named (condition.All parts) = list_all (λ part. part) parts
strict_step named (condition.Any parts) = list_any (λ part. part) parts
strict_step named (condition.AtLeast least parts) = nat_le least (count_true parts)
strict_step named (condition.AtMost most parts spot) = nat_le (count_true parts) most

-- Whether a condition is true in the strict reading, where these named parts are true and the others false.
abbrev pub strict : (Atom → Bool) → Condition → Bool
strict named = fold-Condition Bool (strict_step named)

-- ---- causes

-- What is so: which events of the component, which states of the components below, and what comes in at its points.
pub record World : Type 0 where
  pub events : ℕ → Bool
  pub states : StateBelow → Bool
  pub points : ReachedPoint → Bool

-- one cause, with the truth of each part in its place
abbrev pub truth_step : World → Cause-F Bool → Bool
truth_step world (cause.Event number) = world.events number
truth_step world (cause.State below) = world.states below
truth_step world (cause.Point reached) = world.points reached
truth_step world (cause.All parts) = list_all (λ part. part) parts
truth_step world (cause.Any parts) = list_any (λ part. part) parts
truth_step world (cause.AtLeast least parts) = nat_le least (count_true parts)

-- whether a cause is true
abbrev pub truth : World → Cause → Bool
truth world = fold-Cause Bool (truth_step world)

-- ---- what comes in

-- whether one of the types that are reached at a point comes in, where these types come in at these points
abbrev pub comes_in : Table → (ℕ → ℕ → Bool) → ReachedPoint → Bool
comes_in table comes reached = list_any (λ type. covers reached.types type && comes reached.point type) (numbers_below (length table.types))

-- whether a type comes in there that is not meant
abbrev pub other_comes_in : Table → (ℕ → ℕ → Bool) → ReachedPoint → Bool
other_comes_in table comes reached = list_any (λ type. not (covers reached.types type) && comes reached.point type) (numbers_below (length table.types))

-- Whether a name with `noerror` is true in the strict reading: one of its types comes in, or none at all.
abbrev pub is_quiet : Table → (ℕ → ℕ → Bool) → ReachedPoint → Bool
is_quiet table comes reached = comes_in table comes reached || not (comes_in table comes (record { point = reached.point; types = Whole }))

-- ---- what is not lost

-- The meaning covers what is true or false: where it is true it may hold, and where it is false it may fail.
pub record Covers (world : World) (so : Bool) (meaning : Pair) : Type 0 where
  pub holding : so ≡ true → truth world meaning.holds ≡ true
  pub failing : so ≡ false → truth world meaning.fails ≡ true

-- The meaning tells exactly whether it is true: it may hold where it is true alone, and may fail where it is false alone.
pub record Tells (world : World) (so : Bool) (meaning : Pair) : Type 0 where
  pub holding : truth world meaning.holds ≡ so
  pub failing : truth world meaning.fails ≡ not so
