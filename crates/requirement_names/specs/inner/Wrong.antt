-- The first of some wrong words, and with what the resolving of names stops.
use Rattle.std.specs.Prelude.{◌≡◌, ◌≤◌, ⊤, List, [], None, Some, Contains}
use Rattle.std.specs.List.{AllByRecursion}
use Rattle.fault_system.specs.Systems.{System}
use Rattle.requirements.specs.declared.reading.Requirements.{Requirements}
use Rattle.requirement_names.specs.declared.mistake.WrongWord.{WrongWord}
use Rattle.requirement_names.specs.declared.mistake.NameFault.{NameFault}
use Rattle.requirement_names.specs.declared.mistake.NameFault.TheVariants as fault
use Rattle.requirement_names.specs.Wrong.{first_wrong}

-- Of some wrong words it is one, and none stands before it.
pub record IsFirstOf (words : List WrongWord) (first : WrongWord) : Type 0 where
  pub is_one : Contains words first
  pub none_before : AllByRecursion (λ other. first.at ≤ other.at) words

-- With what the resolving of names stops: want of memory; the first word that is wrong; or no word is, and there is no requirement.
abbrev pub IsFault : System → Requirements → NameFault → Type 0
IsFault system all fault.Memory = ⊤
IsFault system all (fault.Wrong first) = first_wrong system all ≡ Some first
IsFault system all fault.NoRequirement = (first_wrong system all ≡ None) × (all.requirements ≡ [])
