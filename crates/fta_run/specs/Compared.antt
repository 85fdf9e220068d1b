-- What changed between the minimal cut sets of a target in two systems, as a phase.
use Rattle.std.specs.Prelude.{ℕ, List, Option}
use Rattle.phases.specs.Phases.{Phase, accepts, ◌>>=◌}
use Rattle.fault_system.specs.Systems.{System}
use Rattle.listing_changes.specs.Changes.{TellsChanges}
use Rattle.system_answers.specs.Texts.{slice_of, target_of}

-- the sets of a target of an older system that a newer one has not, and those that it alone has, of at most so many events where a greatest
-- order is given: the target is a fact of both, and its slice is too large in none
abbrev pub compared_text : List ℕ → Option ℕ → System → System → Phase (List ℕ)
compared_text target max_order older newer = do
  before ← target_of target older
  after ← target_of target newer
  _ ← slice_of before older
  _ ← slice_of after newer
  accepts (TellsChanges older before newer after max_order)
