-- Beside specs/Tests.antt: what no clause of `run` reaches.
use Rattle.std.specs.Prelude.{Result}
use Rattle.phases.specs.inner.Meets.{IsMemory, MeetsBut}
use Rattle.phases.specs.Phases.{Phase}
use Rattle.phases.specs.declared.status.Status.{Status}

-- Whatever is answered, the phase passes; a status is one with which it stops, or want of memory.
abbrev pub MeetsTests : {T : Type 0} → Phase (Unit {0}) → Result T Status → Type 0
MeetsTests phase result = MeetsBut IsMemory (λ _. tt {0}) phase result
