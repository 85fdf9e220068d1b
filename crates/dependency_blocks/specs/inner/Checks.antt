-- What the tests of proposed blocks establish.
use Rattle.std.specs.Prelude.{ℕ, ◌≡◌, ◌<◌, ◌≤◌, ◌⊎◌, Bool, true, List, Contains, slice_index_or}
use Rattle.fault_system.specs.Truth.{Has, member, occurs}
use Rattle.fault_system.specs.Systems.{System, IsFact}
use Rattle.fault_system.specs.declared.formula.Formula.{Formula}
use Rattle.fault_system.specs.declared.formula.FactInfo.{FactInfo}
use Rattle.backward_slice.specs.Slices.{DependsOn}
use Rattle.dependency_blocks.specs.Blocks.{number_of}
use Rattle.dependency_blocks.specs.declared.checks.Way.{Way}
use Rattle.dependency_blocks.specs.declared.checks.Way.TheVariants.{Towards, Onward}

-- the first fact of the block of a fact
abbrev pub leader_of : List ℕ → List ℕ → ℕ → ℕ
leader_of numbers leaders n = slice_index_or leaders (number_of numbers n) 4294967295

-- the facts of a formula are in blocks of at most a number
abbrev pub AreBelow : List ℕ → ℕ → Formula → Type 0
AreBelow numbers bound formula = (m : ℕ) → occurs m formula ≡ true → number_of numbers m ≤ bound

-- a fact of a block that is marked occurs in a formula
abbrev pub HasMarked : List ℕ → List Bool → ℕ → Formula → Type 0
HasMarked numbers marks block formula =
    (m : ℕ) × (occurs m formula ≡ true) × Has (member marks) m × (number_of numbers m ≡ block)

-- a mark is old, or is that of a fact of a block that occurs in a formula
abbrev pub MarksOf : List ℕ → ℕ → Formula → List Bool → List Bool → Type 0
MarksOf numbers block formula old new =
    (m : ℕ) → Has (member new) m → Has (member old) m ⊎ ((occurs m formula ≡ true) × (number_of numbers m ≡ block))

-- each marked fact depends on the first fact of its block
abbrev pub LeadToFirst : System → List ℕ → List ℕ → List Bool → Type 0
LeadToFirst system numbers leaders marks =
    (n : ℕ) → Has (member marks) n → DependsOn system n (leader_of numbers leaders n)

-- the first fact of the block of each marked fact depends on it
abbrev pub ComeFromFirst : System → List ℕ → List ℕ → List Bool → Type 0
ComeFromFirst system numbers leaders marks =
    (n : ℕ) → Has (member marks) n → DependsOn system (leader_of numbers leaders n) n

-- each marked fact is tied to the first fact of its block in one of the two ways
abbrev pub AreTied : Way → System → List ℕ → List ℕ → List Bool → Type 0
AreTied Towards = LeadToFirst
AreTied Onward = ComeFromFirst

-- each of some facts depends on blocks of at most its own number
abbrev pub Fall : System → List ℕ → List ℕ → Type 0
Fall system numbers facts =
    (n m : ℕ) (fact : FactInfo) → Contains facts n → IsFact system n fact → occurs m fact.formula ≡ true → number_of numbers m ≤ number_of numbers n

-- the formula of one fact has facts of at most its own number
abbrev pub IsLow : System → List ℕ → ℕ → Type 0
IsLow system numbers n = (m : ℕ) (fact : FactInfo) → IsFact system n fact → occurs m fact.formula ≡ true → number_of numbers m ≤ number_of numbers n

-- a fact that has a number is one of some facts
abbrev pub IsTable : List ℕ → List ℕ → Type 0
IsTable facts numbers = (n : ℕ) → number_of numbers n < 4294967295 → Contains facts n

-- a table has the proposed number of each of some facts that has one of so many
abbrev pub HasNumbers : ℕ → List ℕ → List ℕ → List ℕ → Type 0
HasNumbers count facts proposed numbers =
    (n : ℕ) → Contains facts n → n < count → number_of proposed n < count → number_of numbers n ≡ number_of proposed n
