-- What the functions that make the facts and the events of a model owe each other.
use Rattle.std.specs.Prelude.{◌≡◌, ⊤, ℕ, ◌<◌, ◌≤◌, Bool, true, false, ◌||◌, List, ◌++◌, length, slice_index_or, Result, MatchResult}
use Rattle.plain_values.specs.declared.refusal.Code.{Code}
use Rattle.plain_values.specs.declared.refusal.Code.TheVariants.{TooManyEvents, TooManyFacts}
use Rattle.plain_values.specs.declared.refusal.Stop.{Stop}
use Rattle.plain_values.specs.declared.refusal.Stop.TheVariants.{Memory, Refused}
use Rattle.plain_values.specs.Refusal.{of_words}
use Rattle.error_libraries.specs.Search.{is_number_in}
use Rattle.model_facts.specs.Limits.{most_events, most_facts}
use Rattle.model_facts.specs.declared.keys.EventKey.{EventKey}
use Rattle.model_facts.specs.declared.keys.FactKey.{FactKey}
use Rattle.model_facts.specs.declared.keys.FactKind.{FactKind}
use Rattle.model_facts.specs.declared.keys.FactKind.TheVariants.{Enters, Exits}

-- ---- lists that are made

-- These items stand behind those that were there, and the list is within the limit if it was so.
pub record Grows {Item : Type 0} (limit : ℕ) (old new items : List Item) : Type 0 where
  pub is : new ≡ old ++ items
  pub within : length old ≤ limit → length new ≤ limit

-- There are more items than there may be, and that is the refusal; or memory was wanting.
abbrev pub Exceeds : {Item : Type 0} → ℕ → Code → List Item → Stop → Type 0
Exceeds limit code items Memory = ⊤
Exceeds limit code items (Refused refusal) = (limit < length items) × (refusal ≡ of_words code)

-- These items are added to a list, or it stops since with them there are too many.
abbrev pub Adds : {Item Done : Type 0} → ℕ → Code → List Item → List Item → List Item → Result Done Stop → Type 0
Adds limit code old new items result = MatchResult result (λ _. Grows limit old new items) (Exceeds limit code (old ++ items))

-- the same of facts
abbrev pub AddsFacts : {Done : Type 0} → List FactKey → List FactKey → List FactKey → Result Done Stop → Type 0
AddsFacts old new facts result = Adds most_facts TooManyFacts old new facts result

-- the same of events
abbrev pub AddsEvents : {Done : Type 0} → List EventKey → List EventKey → List EventKey → Result Done Stop → Type 0
AddsEvents old new events result = Adds most_events TooManyEvents old new events result

-- ---- parts

-- that a type enters at a point, or that it exits there
abbrev pub at_side : Bool → ℕ → ℕ → FactKind
at_side false = Enters
at_side true = Exits

-- ---- marks

-- Of the numbers that have a mark each, these are marked too.
pub record Marks (old : List Bool) (numbers : List ℕ) (new : List Bool) : Type 0 where
  pub long : length new ≡ length old
  pub each : (number : ℕ) → number < length old → slice_index_or new number false ≡ (slice_index_or old number false || is_number_in numbers number)
