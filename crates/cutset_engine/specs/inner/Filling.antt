-- The families of all facts on the way to what holds.
use Rattle.std.specs.Prelude.{ℕ, ◌≡◌, Bool, true, false, List, length, All, Contains, Option, Result, IfOk}
use Rattle.std.specs.declared.alloc.AllocError.{AllocError}
use Rattle.fault_system.specs.Truth.{Has, member, occurs}
use Rattle.fault_system.specs.Systems.{System, applied, Holds, holds_of, IsFact}
use Rattle.fault_system.specs.Listings.{IsWithinOrder}
use Rattle.fault_system.specs.declared.formula.FactInfo.{FactInfo}
use Rattle.zdd_store.specs.inner.Store.{Families, IsIn, Keeps}
use Rattle.zdd_store.specs.declared.id.Id.{Id}
use Rattle.cutset_engine.specs.declared.setting.Setting.{Setting}
use Rattle.cutset_engine.specs.inner.Gates.{covers_each, events_of}

-- the system, the variables of its events and the greatest order, which stay as they are
pub record Task : Type 0 where
  pub system : System
  pub order : List ℕ
  pub most : Option ℕ

-- what a setting says of it; the form of the families is of no account
abbrev pub task_of : Setting → Task
task_of setting = record { system = setting.system.now; order = setting.order.now; most = setting.most }

-- the facts whose family covers a set, a mark for each
abbrev pub covered : Families → List Id → List ℕ → List Bool
covered = covers_each

-- the facts whose formula is true under a set and the facts that are covered
abbrev pub next_covered : Task → Families → List Id → List ℕ → List Bool
next_covered task store now set = applied task.system (events_of task.order set) (member (covered store now set))

-- For each set: a fact that is covered holds, and its formula is true already.
pub record IsFilling (task : Task) (store : Families) (now : List Id) : Type 0 where
  pub size : length now ≡ length task.system.facts
  pub found : All (IsIn store) now
  pub holds : (set : List ℕ) → IsWithinOrder task.most set → (n : ℕ) → Has (member (covered store now set)) n → Holds task.system (events_of task.order set) n
  pub stays : (set : List ℕ) → IsWithinOrder task.most set → (n : ℕ) → Has (member (covered store now set)) n → Has (member (next_covered task store now set)) n

-- what was covered is covered
abbrev pub Grows : Task → Families → Families → List Id → List Id → Type 0
Grows task before after old new =
    (set : List ℕ) → IsWithinOrder task.most set → (n : ℕ) → Has (member (covered before old set)) n → Has (member (covered after new set)) n

-- a fact whose formula was true is covered
abbrev pub Reaches : Task → Families → Families → List Id → List Id → ℕ → Type 0
Reaches task before after old new n =
    (set : List ℕ) → IsWithinOrder task.most set → Has (member (next_covered task before old set)) n → Has (member (covered after new set)) n

-- a step: some facts are reached, and where nothing changed the families are those from before
pub record IsStep (task : Task) (before after : Families) (old new : List Id) (Asked : ℕ → Type 0) (changed : Bool) : Type 0 where
  pub filling : IsFilling task after new
  pub grows : Grows task before after old new
  pub reaches : (n : ℕ) → Asked n → Reaches task before after old new n
  pub same : changed ≡ false → new ≡ old

-- each number keeps its family, and where memory sufficed the step was made
pub record Steps (task : Task) (before after : Families) (old new : List Id) (Asked : ℕ → Type 0) (result : Result Bool AllocError) : Type 0 where
  pub kept : Keeps before after
  pub step : IfOk result (IsStep task before after old new Asked)

-- with each fact, some numbers have those of all facts that occur in its formula
abbrev pub HaveTheirCauses : System → List ℕ → Type 0
HaveTheirCauses system numbers =
    (n m : ℕ) (fact : FactInfo) → Contains numbers n → IsFact system n fact → occurs m fact.formula ≡ true → Contains numbers m

-- for each set exactly the facts are covered that hold, of those with some numbers
pub record IsFilled (task : Task) (numbers : List ℕ) (store : Families) (now : List Id) : Type 0 where
  pub filling : IsFilling task store now
  pub all : (set : List ℕ) → IsWithinOrder task.most set → (n : ℕ) → Contains numbers n → Has (member (holds_of task.system (events_of task.order set))) n → Has (member (covered store now set)) n
