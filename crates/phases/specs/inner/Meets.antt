-- What a function promises that does the work of a phase.
use Rattle.std.specs.Prelude.{◌≡◌, ◌⊎◌, Result, MatchResult}
use Rattle.phases.specs.Phases.{Phase, Passes, Stops}
use Rattle.phases.specs.declared.status.Status.{Status}
use Rattle.phases.specs.declared.status.Status.TheVariants.{Memory}

-- A status with which the phase stops, or one that is excused.
abbrev pub StopsBut : {A : Type 0} → (Status → Type 0) → Phase A → Status → Type 0
StopsBut Excuse phase status = Stops phase status ⊎ Excuse status

-- What is answered passes the phase, as this value of the definitions; a status is one with which it stops, or is excused.
abbrev pub MeetsBut : {A B : Type 0} → (Status → Type 0) → (B → A) → Phase A → Result B Status → Type 0
MeetsBut Excuse value phase result = MatchResult result (λ answer. Passes phase (value answer)) (StopsBut Excuse phase)

-- want of memory
abbrev pub IsMemory : Status → Type 0
IsMemory status = status ≡ Memory

-- What is answered passes the phase, and a status is one with which it stops, or want of memory.
abbrev pub Meets : {A : Type 0} → Phase A → Result A Status → Type 0
Meets phase result = MeetsBut IsMemory (λ answer. answer) phase result
