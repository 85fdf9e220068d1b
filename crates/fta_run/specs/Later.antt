-- Files that stand behind others: in refusals the number of each is as much higher as those are many.
use Rattle.std.specs.Prelude.{◌≡◌, ◌+◌, ℕ, min}
use Rattle.plain_values.specs.declared.refusal.Place.{Place}
use Rattle.plain_values.specs.declared.refusal.Place.TheVariants.{At, Whole, Words}
use Rattle.plain_values.specs.declared.refusal.Refusal.{Refusal}
use Rattle.phases.specs.Phases.{Phase, rejects, Passes, Stops}
use Rattle.phases.specs.declared.status.Status.TheVariants.{Refused}

-- the number behind so many files, up to the greatest of 32 bits, which no file has: there are 64 files at most
abbrev pub later_file : ℕ → ℕ → ℕ
later_file count file = min (file + count) 4294967295

-- the same place, in the file behind so many
abbrev pub later_place : ℕ → Place → Place
later_place count Words = Words
later_place count (Whole file) = Whole (later_file count file)
later_place count (At file at) = At (later_file count file) at

-- the same refusal, in the file behind so many
abbrev pub later_refusal : ℕ → Refusal → Refusal
later_refusal count refusal = record { code = refusal.code; place = later_place count refusal.place; limit = refusal.limit }

-- A refusal is one with which the phase stops, in the file behind so many.
abbrev pub IsLater : {A : Type 0} → ℕ → Phase A → Refusal → Type 0
IsLater count phase refusal = (its : Refusal) × Stops phase (Refused its) × (refusal ≡ later_refusal count its)

-- the same phase, which stops with refusals alone, where each file stands behind so many others
abbrev pub in_later_files : {A : Type 0} → ℕ → Phase A → Phase A
in_later_files count phase = rejects (Passes phase) (IsLater count phase)
