-- What an item is at last, through aliases.
use Rattle.std.specs.Prelude.{◌≡◌, ◌≤◌, ◌<◌, ◌^◌, ℕ, suc, List, [], ◌∷◌, Option, Some, None}
use Rattle.error_types.specs.declared.endings.End.{End}
use Rattle.error_types.specs.declared.endings.Turn.{Turn}
use Rattle.error_types.specs.declared.endings.Turn.TheVariants.{Ended, On}
use Rattle.error_libraries.specs.declared.id.ItemId.{ItemId}
use Rattle.error_libraries.specs.Libraries.{Table}
use Rattle.error_types.specs.Types.{type_at, type_named}

-- the type that an item is, through at most so many aliases
abbrev pub type_through : ℕ → Table → ItemId → Option ℕ
type_through steps table id = type_at (type_named steps table) table (Some id)

-- An item is this type, or none, through so many aliases or more.
pub record EndsIn (table : Table) (id : ItemId) (end : End) : Type 0 where
  pub few : end.steps < 2 ^ 32
  pub is : (steps : ℕ) → end.steps ≤ steps → type_through steps table id ≡ end.number

-- What is remembered of items is what they end in.
abbrev pub AreEnds : Table → (ℕ × ℕ → Option End) → Type 0
AreEnds table known = (key : ℕ × ℕ) (end : End) → known key ≡ Some end → EndsIn table (record { «package» = key.0; item = key.1 }) end

-- An item is an alias, and stands for another.
pub record Leads (table : Table) (id next : ItemId) : Type 0 where
  pub none : type_through 0 table id ≡ None
  pub more : (steps : ℕ) → type_through (suc steps) table id ≡ type_through steps table next

-- Each of the items, the last first, leads to the one after it, and the last of them to this one.
abbrev pub IsWay : Table → List ItemId → ItemId → Type 0
IsWay table [] id = Unit {0}
IsWay table (last ∷ others) id = Leads table last id × IsWay table others last

-- the item at which a way begins
abbrev pub origin : List ItemId → ItemId → ItemId
origin [] id = id
origin (last ∷ others) id = origin others last

-- By its declaration an item ends so, or leads to another.
abbrev pub TurnsBy : Table → ItemId → Turn → Type 0
TurnsBy table id (Ended end) = EndsIn table id end
TurnsBy table id (On next) = Leads table id next

-- The same of an item behind a way.
abbrev pub Turns : Table → List ItemId → ItemId → Turn → Type 0
Turns table way id turn = IsWay table way id → TurnsBy table id turn

-- An alias leads to its target, or ends without one.
abbrev pub LeadsTo : Option ItemId → Turn → Type 0
LeadsTo target (Ended end) = (target ≡ None) × (end ≡ record { number = None; steps = 0 })
LeadsTo target (On next) = target ≡ Some next
