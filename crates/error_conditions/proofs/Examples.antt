-- Worked rows: where conditions may hold and may fail.
use Rattle.std.proofs.Common.{ℕ, ◌≡◌, Bool, true, false, List, [], ◌∷◌, Option, Some, None, refl}
use Rattle.aadl_syntax.specs.declared.error_model.Atom.{Atom}
use Rattle.aadl_syntax.specs.declared.error_model.Condition.TheOpen as condition
use Rattle.aadl_syntax.specs.declared.error_model.Term.TheVariants.{NoError, Product}
use Rattle.aadl_syntax.specs.declared.error_model.TypeSet.{TypeSet}
use Rattle.plain_values.specs.declared.refusal.Code.TheVariants.{OrLess}
use Rattle.plain_values.specs.declared.spot.Spot.{Spot}
use Rattle.plain_values.specs.Refusal.{place_of, refusal}
use Rattle.profiles.specs.declared.profile.Profile.{Profile}
use Rattle.profiles.specs.declared.profile.Profile.TheVariants.{First, Second}
use Rattle.error_libraries.specs.declared.scope.Scope.{Scope}
use Rattle.error_libraries.specs.Libraries.{Table}
use Rattle.propagation_points.specs.declared.side.Reach.TheVariants.{Only, Whole}
use Rattle.error_conditions.specs.Conditions.{Pair, always, may_fail, no_error_refusals, pair, pair_step, refusals_step, rest_of, says_no_error}
use Rattle.error_conditions.specs.declared.cause.Cause.TheVariants.{All, Any, AtLeast, Event}
use Rattle.error_conditions.specs.inner.Strict.{strict_step}

spot : Spot
spot = record { file = 0; at = 7 }

-- parts that may always fail: events
abbrev one : Pair
one = may_fail (Event 1)

abbrev two : Pair
two = may_fail (Event 2)

-- a part that fails where it does not hold
abbrev three : Pair
three = pair (Event 3) (Event 4)

abbrev named : Atom → Pair
named atom = one

-- ---- the operators

both : pair_step named (condition.All (one ∷ three ∷ [])) ≡ pair (All (Event 1 ∷ Event 3 ∷ [])) (Any (always ∷ Event 4 ∷ []))
both = refl

either : pair_step named (condition.Any (one ∷ three ∷ [])) ≡ pair (Any (Event 1 ∷ Event 3 ∷ [])) (All (always ∷ Event 4 ∷ []))
either = refl

-- two of three fail where two of three fail
most-of-three : pair_step named (condition.AtLeast 2 (one ∷ two ∷ three ∷ [])) ≡ pair (AtLeast 2 (Event 1 ∷ Event 2 ∷ Event 3 ∷ [])) (AtLeast 2 (always ∷ always ∷ Event 4 ∷ []))
most-of-three = refl

-- at most one of two holds where one fails, and fails where both hold
one-at-most : pair_step named (condition.AtMost 1 (two ∷ three ∷ []) spot) ≡ pair (AtLeast 1 (always ∷ Event 4 ∷ [])) (AtLeast 2 (Event 2 ∷ Event 3 ∷ []))
one-at-most = refl

-- none of two
none-at-most : pair_step named (condition.AtMost 0 (two ∷ three ∷ []) spot) ≡ pair (AtLeast 2 (always ∷ Event 4 ∷ [])) (AtLeast 1 (Event 2 ∷ Event 3 ∷ []))
none-at-most = refl

-- at most five of two is always so, and at least five of two never
five-at-most : pair_step named (condition.AtMost 5 (two ∷ three ∷ []) spot) ≡ pair (AtLeast 0 (always ∷ Event 4 ∷ [])) (AtLeast 6 (Event 2 ∷ Event 3 ∷ []))
five-at-most = refl

five-at-least : pair_step named (condition.AtLeast 5 (two ∷ three ∷ [])) ≡ pair (AtLeast 5 (Event 2 ∷ Event 3 ∷ [])) (AtLeast 0 (always ∷ Event 4 ∷ []))
five-at-least = refl

-- ---- the strict reading

strict-most : strict_step (λ atom. true) (condition.AtMost 1 (true ∷ false ∷ []) spot) ≡ true
strict-most = refl

strict-over : strict_step (λ atom. true) (condition.AtMost 1 (true ∷ true ∷ []) spot) ≡ false
strict-over = refl

-- ---- what is refused

first-refuses : refusals_step First (λ atom. []) (condition.AtMost 1 ([] ∷ [] ∷ []) spot) ≡ refusal OrLess (place_of spot) ∷ []
first-refuses = refl

second-accepts : refusals_step Second (λ atom. []) (condition.AtMost 1 ([] ∷ [] ∷ []) spot) ≡ []
second-accepts = refl

-- ---- noerror

abbrev set : TypeSet
set = record { terms = Product spot ∷ NoError spot ∷ []; spot = spot }

abbrev table : Profile → Table
table profile = record { profile = profile; packages = []; libraries = []; types = [] }

abbrev text : Option Scope
text = Some (record { «package» = 0; libraries = [] })

has-it : says_no_error (table Second) text (Some set) ≡ true
has-it = refl

has-none : says_no_error (table Second) text None ≡ false
has-none = refl

first-has-none : says_no_error (table First) text (Some set) ≡ false
first-has-none = refl

-- what means no type leaves the whole side
whole-rest : rest_of (table Second) (Only []) ≡ Whole
whole-rest = refl

second-takes-it : no_error_refusals Second (Some set) ≡ []
second-takes-it = refl
