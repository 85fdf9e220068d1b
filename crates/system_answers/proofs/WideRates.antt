-- A number of a rate of the first reading is one of the wide reading.
use Rattle.std.proofs.Common.{ℕ, Bool, true, false, List, [], ◌∷◌, inl}
use Rattle.std.specs.List.{AllByRecursion}
use Rattle.galileo_reader.specs.declared.tree.NamedEvent.{NamedEvent}
use Rattle.galileo_reader.specs.declared.tree.NamedTree.{NamedTree}
use Rattle.galileo_reader.specs.inner.Rates.{HasNumbers, IsNumberIn}

wider : (wide : Bool) (text : List ℕ) → IsNumberIn wide text → IsNumberIn true text
wider true text number = number
wider false text number = inl number

all-wider : (wide : Bool) (events : List NamedEvent) → AllByRecursion (λ (event : NamedEvent). IsNumberIn wide event.rate.text) events → AllByRecursion (λ (event : NamedEvent). IsNumberIn true event.rate.text) events
all-wider wide [] all = tt
all-wider wide (event ∷ events) all = (wider wide event.rate.text all.0, all-wider wide events all.1)

pub numbers-wide : (wide : Bool) (tree : NamedTree) → HasNumbers wide tree → HasNumbers true tree
numbers-wide wide tree all = all-wider wide tree.events all
