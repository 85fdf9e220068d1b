-- With which statuses a phase may stop at all.
use Rattle.std.proofs.Common.{inl, inr}
use Rattle.phases.specs.Phases.{Phase, yields, tells, chains, Passed, Stopped}
use Rattle.phases.specs.declared.status.Status.{Status}

-- Each part of a phase stops with statuses of this kind alone: a later one where a value passed the earlier ones.
abbrev pub StopsOnly : {A : Type 0} → (Status → Type 0) → Phase A → Type 0
StopsOnly Kind (yields x) = Unit {0}
StopsOnly Kind (tells Is Ends) = (status : Status) → Ends status → Kind status
StopsOnly Kind (chains {A = A} first later) = StopsOnly Kind first × ((x : A) → Passed first x → StopsOnly Kind (later x))

-- and so the phase does
pub stops_only : {A : Type 0} (Kind : Status → Type 0) (phase : Phase A) → StopsOnly Kind phase → (status : Status) → Stopped phase status → Kind status
stops_only Kind (yields x) only status s = absurd s
stops_only Kind (tells Is Ends) only status s = only status s
stops_only Kind (chains {A = A} first later) only status s =
    elim s [
      | inl here ↦ stops_only Kind first only.0 status here
      | inr there ↦ stops_only Kind (later there.0) (only.1 there.0 there.1) status there.2
    ]
