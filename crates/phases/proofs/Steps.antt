-- How the work of joined phases is put together from that of the parts.
use Rattle.std.proofs.Common.{◌≡◌, ◌⊎◌, inl, inr, Result, Ok, Err, refl}
use Rattle.std.specs.Prelude.{IsErrAnd}
use Rattle.std.proofs.lemmas.Result.{err_from_is_err_and}
use Rattle.plain_values.specs.declared.refusal.Refusal.{Refusal}
use Rattle.phases.specs.Phases.{Phase, yields, tells, chains, computes, Passes, Stops, IsRefusal}
use Rattle.phases.specs.inner.Meets.{IsMemory, MeetsBut}
use Rattle.phases.specs.declared.status.Status.TheVariants.{Refused}
use Rattle.phases.specs.declared.status.Status.{Status}

-- the value that a phase gives passes it
pub given : {A : Type 0} {x : A} → Passes (yields x) x
given {A} {x} = record { passed = refl }

-- a value that passes the first phase, and one that then passes the later one
infixr 6 ◌passes◌
pub ◌passes◌ : {A B : Type 0} {first : Phase A} {later : A → Phase B} {x : A} {y : B} → Passes first x → Passes (later x) y → Passes (chains first later) y
◌passes◌ {A} {B} {first} {later} {x} {y} p q = record { passed = (x, p.passed, q.passed) }

-- a value that passes the first phase, and an end of the later one
infixr 6 ◌beyond◌
pub ◌beyond◌ : {A B X : Type 0} {first : Phase A} {later : A → Phase B} {x : A} {status : Status} → Passes first x → Stops (later x) status ⊎ X → Stops (chains first later) status ⊎ X
◌beyond◌ {A} {B} {X} {first} {later} {x} {status} p (inl s) = inl (record { stopped = inr (x, p.passed, s.stopped) })
◌beyond◌ {A} {B} {X} {first} {later} {x} {status} p (inr e) = inr e

-- an end of the first phase
pub ends : {A B X : Type 0} {first : Phase A} {later : A → Phase B} {status : Status} → Stops first status ⊎ X → Stops (chains first later) status ⊎ X
ends (inl s) = inl (record { stopped = inl s.stopped })
ends (inr e) = inr e

-- the exit of a `?`: what came is an end of the phase
pub exits : {A B : Type 0} (Excuse : Status → Type 0) (value : B → A) (phase : Phase A) (status : Status) (result : Result B Status) → IsErrAnd result (λ its. its ≡ status) → Stops phase status ⊎ Excuse status → MeetsBut Excuse value phase result
exits Excuse value phase status result is end = let p = err_from_is_err_and result is in rw (p.1, p.2) end

-- a later phase is met after a first one that passes; want of memory is excused
pub meets_later : {A B C : Type 0} (Excuse : Status → Type 0) (value : C → B) (first : Phase A) (later : A → Phase B) (x : A) (result : Result C Status) → ((s : Status) → IsMemory s → Excuse s) → Passes first x → MeetsBut IsMemory value (later x) result → MeetsBut Excuse value (chains first later) result
meets_later Excuse value first later x (Ok v) wanting before met = before passes met
meets_later Excuse value first later x (Err s) wanting before end = elim end [ inl stops ↦ before beyond (inl stops) | inr memory ↦ inr (wanting s memory) ]

-- a refusal of the step, where it is one that the phase has
pub refused : {A : Type 0} {Is : A → Type 0} {Why : Refusal → Type 0} {X : Type 0} {refusal : Refusal} → Why refusal → Stops (tells Is (IsRefusal Why)) (Refused refusal) ⊎ X
refused {A} {Is} {Why} {X} {refusal} why = inl (record { stopped = (refusal, why, refl) })

-- the value of a result, or its refusal
pub computed : {A : Type 0} {result : Result A Refusal} {value : A} → result ≡ Ok value → Passes (computes result) value
computed is = record { passed = is }

pub not_computed : {A : Type 0} {X : Type 0} {result : Result A Refusal} {refusal : Refusal} → result ≡ Err refusal → Stops (computes result) (Refused refusal) ⊎ X
not_computed {A} {X} {result} {refusal} is = inl (record { stopped = (refusal, is, refl) })
