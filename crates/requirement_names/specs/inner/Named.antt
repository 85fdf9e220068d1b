-- What is so of requirements whose names are numbers.
use Rattle.std.specs.Prelude.{ℕ, ◌<◌, ◌≡◌, ◌≢◌, List, [], length, None}
use Rattle.std.specs.List.{AllByRecursion}
use Rattle.fault_system.specs.Systems.{System}
use Rattle.fault_system.specs.CutSets.{IsEventSet}
use Rattle.requirements.specs.declared.reading.Requirements.{Requirements}
use Rattle.requirement_names.specs.declared.named.NamedRequirement.{NamedRequirement}
use Rattle.requirement_names.specs.declared.named.NamedSentence.{NamedSentence}
use Rattle.requirement_names.specs.declared.named.NamedSentence.TheVariants.{OfSets, Probability}
use Rattle.requirement_names.specs.declared.named.SetSentence.{SetSentence}
use Rattle.requirement_names.specs.declared.named.SetSentence.TheVariants.{Order, Mixed, Without, Possible, Never}
use Rattle.requirement_names.specs.Named.{named_requirements}
use Rattle.requirement_names.specs.Wrong.{first_wrong}

-- No word is wrong, there is a requirement, and these are all, in their order, with numbers in place of names.
pub record AreNamed (system : System) (all : Requirements) (named : List NamedRequirement) : Type 0 where
  pub none_wrong : first_wrong system all ≡ None
  pub some : all.requirements ≢ []
  pub each : named ≡ named_requirements system all

-- what a sentence names is there: sets are rising lists of events of the system, and events are its own
abbrev pub FitsSets : System → SetSentence → Type 0
FitsSets system (Order least except) = AllByRecursion (IsEventSet system) except
FitsSets system (Mixed group most) = IsEventSet system group
FitsSets system (Without event) = event < length system.events
FitsSets system Possible = Unit {0}
FitsSets system Never = Unit {0}

abbrev pub FitsSentence : System → NamedSentence → Type 0
FitsSentence system (OfSets sentence) = FitsSets system sentence
FitsSentence system (Probability most hours) = Unit {0}

-- what a requirement names is there: its target is a fact of the system
pub record FitsModel (system : System) (named : NamedRequirement) : Type 0 where
  pub target : named.target < length system.facts
  pub sentence : FitsSentence system named.sentence
