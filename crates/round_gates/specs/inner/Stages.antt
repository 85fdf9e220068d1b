-- Beside specs/Stages.antt: what no clause of `run` reaches.
use Rattle.std.specs.Prelude.{ℕ, zero, suc, Bool, false, List, [], ◌∷◌, map, ◌&&◌, if◌then◌else◌}
use Rattle.fault_system.specs.Truth.{NumberSet, member}
use Rattle.fault_system.specs.Systems.{System, applied, holds_of}

-- the marks of a list whose places are in a set
abbrev pub kept_marks : NumberSet → List Bool → List Bool
kept_marks inside [] = []
kept_marks inside (mark ∷ marks) = (inside 0 && mark) ∷ kept_marks (λ n. inside (suc n)) marks

-- the facts of one set as one list marks them, all others as another does
abbrev pub joined_marks : NumberSet → List Bool → List Bool → NumberSet
joined_marks inside own others fact = if inside fact then member own fact else member others fact

-- Which facts of a set are true in a stage, where all other facts are true as they hold. In stage 0 none is; in the next
-- stage each stands for its formula, in which the facts of the set stand for the stage before.
abbrev pub stage_truth : System → NumberSet → NumberSet → ℕ → List Bool
stage_truth system events inside zero = map (λ _. false) system.facts
stage_truth system events inside (suc stage) =
    kept_marks inside (applied system events (joined_marks inside (stage_truth system events inside stage) (holds_of system events)))
