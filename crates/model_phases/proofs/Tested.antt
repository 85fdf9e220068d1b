-- What a call promises of its refusals, as a phase of tests.
use Rattle.std.proofs.Common.{◌≡◌, ◌≤◌, ◌⊎◌, inl, inr, Contains, List, [], length, Option, Some, None, Result, refl, sym, subst, ◌∙◌, arith}
use Rattle.std.specs.Prelude.{IsErrAnd}
use Rattle.aadl_syntax.specs.declared.core_model.PackageUnit.{PackageUnit}
use Rattle.plain_values.specs.declared.refusal.Refusal.{Refusal}
use Rattle.plain_values.specs.declared.refusal.Stop.{Stop}
use Rattle.plain_values.specs.declared.refusal.Stop.TheVariants as stop
use Rattle.plain_values.proofs.OrderLaws.{first_alone}
use Rattle.plain_values.specs.inner.Stops.{StopsAtFirst, StopsAt}
use Rattle.plain_values.specs.Refusal.{refusal}
use Rattle.phases.specs.inner.Meets.{IsMemory, MeetsBut}
use Rattle.phases.specs.Phases.{Phase, Passes, Stops, chains, tests}
use Rattle.phases.specs.inner.Stopped.{status_of}
use Rattle.phases.specs.declared.status.Status.{Status}
use Rattle.phases.proofs.Steps.{exits, meets_later}
use Rattle.error_libraries.specs.Libraries.{HasTooManyTypes, declared_types, greatest_types, libraries_of}
use Rattle.model_phases.specs.Tests.{IsIt}
use Rattle.model_phases.specs.inner.Tests.{MeetsTests}

-- a group of refusals that stops a call
pub group_stops : (Group : Refusal → Type 0) (why : Stop) → StopsAtFirst Group why → Stops (tests Group) (status_of why) ⊎ IsMemory (status_of why)
group_stops Group (stop.Refused refusal) first = inl (record { stopped = (refusal, first, refl) })
group_stops Group stop.Memory first = inr refl

-- one refusal that stops a call
pub one_stops : (one : Option Refusal) (why : Stop) → StopsAt one why → Stops (tests (IsIt one)) (status_of why) ⊎ IsMemory (status_of why)
one_stops one (stop.Refused refusal) is = inl (record { stopped = (refusal, first_alone (IsIt one) refusal is (λ other also. same other (sym also ∙ is)), refl) }) where
  same : (other : Refusal) → Some other ≡ Some refusal → other ≡ refusal
  same other both = cc
one_stops one stop.Memory is = inr refl

-- none is refused
pub none_passes : (one : Option Refusal) → one ≡ None → Passes (tests (IsIt one)) (tt {0})
none_passes one none = record { passed = λ refusal is. let both : None ≡ Some refusal = sym none ∙ is in cc }

-- a list of refusals is empty
pub empty_passes : (group : List Refusal) → group ≡ [] → Passes (tests (Contains group)) (tt {0})
empty_passes group none = record { passed = λ refusal stands. none_there refusal (subst (λ all. Contains all refusal) none stands) } where
  none_there : (refusal : Refusal) → Contains [] refusal → ⊥
  none_there refusal c = omega (arith, c.1)

-- not too many types are declared
pub types_pass : (packages : List PackageUnit) → length (declared_types (libraries_of packages)) ≤ greatest_types → Passes (tests (HasTooManyTypes packages)) (tt {0})
types_pass packages few = record { passed = λ refusal over. omega (arith, few, over.many) }

-- the exit of a `?`: what came is an end of the tests
pub tests_stop : {T : Type 0} (phase : Phase (Unit {0})) (status : Status) (result : Result T Status) → IsErrAnd result (λ its. its ≡ status) → Stops phase status ⊎ IsMemory status → MeetsTests phase result
tests_stop phase status result is end = exits IsMemory (λ _. tt {0}) phase status result is end

-- a phase is met behind tests that pass
pub behind : {A B : Type 0} (value : B → A) (first : Phase (Unit {0})) (rest : Phase A) (result : Result B Status) → Passes first (tt {0}) → MeetsBut IsMemory value rest result → MeetsBut IsMemory value (chains first (λ _. rest)) result
behind value first rest result before met = meets_later IsMemory value first (λ _. rest) (tt {0}) result (λ s memory. memory) before met
