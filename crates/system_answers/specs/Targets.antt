-- The target, and the set after which a page begins.
use Rattle.std.specs.Prelude.{◌≡◌, ℕ, List, Option, None, Some, slice_get}
use Rattle.plain_values.specs.declared.refusal.Code.TheVariants.{BadToken, UnknownTarget}
use Rattle.plain_values.specs.declared.refusal.Refusal.{Refusal}
use Rattle.plain_values.specs.Refusal.{of_words}
use Rattle.fault_system.specs.Systems.{System}
use Rattle.fault_system.specs.declared.formula.FactInfo.{FactInfo}
use Rattle.cutset_lister.specs.SetText.{IsSetOfText}
use Rattle.fta_words.specs.Words.{Says}

-- The fact of this number has this name.
pub record HasName (system : System) (name : List ℕ) (number : ℕ) : Type 0 where
  pub fact : FactInfo
  pub there : slice_get system.facts number ≡ Some fact
  pub named : fact.name ≡ name

-- The fact of this number is the one that has this name.
pub record IsFactNamed (system : System) (name : List ℕ) (number : ℕ) : Type 0 where
  pub has : HasName system name number
  pub alone : (other : ℕ) → HasName system name other → other ≡ number

-- T1: no fact has the name of the target.
abbrev pub LacksTarget : System → List ℕ → Refusal → Type 0
LacksTarget system target refusal = ((number : ℕ) → HasName system target number → ⊥) × (refusal ≡ of_words UnknownTarget)

-- The set after which a page begins is the one that has the text that is given; none where no text is.
abbrev pub IsStart : System → Option (List ℕ) → Option (List ℕ) → Type 0
IsStart system text start = Says (IsSetOfText system) text start

-- K1: no set of events has the text that is given.
abbrev pub LacksStart : System → Option (List ℕ) → Refusal → Type 0
LacksStart system None refusal = ⊥
LacksStart system (Some text) refusal = ((set : List ℕ) → IsSetOfText system text set → ⊥) × (refusal ≡ of_words BadToken)
