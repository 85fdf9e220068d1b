-- What is told of a text of requirements over a system.
use Rattle.std.specs.Prelude.{ℕ, ◌≡◌, ◌<◌, ◌↔◌, ⊤, List, [], ◌∷◌, ◌++◌, Ok, Err, get_or, length}
use Rattle.std.specs.List.{AllByRecursion, AllZip}
use Rattle.fault_system.specs.Truth.{Has, member}
use Rattle.fault_system.specs.Systems.{System}
use Rattle.backward_slice.specs.declared.parts.Slice.{Slice}
use Rattle.backward_slice.specs.Slices.{HasLargeSlice, IsServed}
use Rattle.property_reader.specs.declared.rate.Rate.{Rate}
use Rattle.requirements.specs.declared.reading.Requirements.{Requirements}
use Rattle.requirements.specs.Requirements.{requirements_of}
use Rattle.requirement_names.specs.declared.mistake.NameFault.{NameFault}
use Rattle.requirement_names.specs.declared.mistake.NameFault.TheVariants as name
use Rattle.requirement_names.specs.declared.named.NamedRequirement.{NamedRequirement}
use Rattle.requirement_names.specs.inner.Named.{AreNamed}
use Rattle.requirement_names.specs.inner.Wrong.{IsFault}
use Rattle.requirement_verdicts.specs.Meanings.{HoldsAnyway, MayHold}
use Rattle.requirement_lines.specs.declared.judging.Known.{Known}
use Rattle.requirement_lines.specs.declared.judgement.Judgement.{Judgement}
use Rattle.requirement_lines.specs.declared.told.LineForm.{LineForm}
use Rattle.requirement_lines.specs.declared.told.RequirementFault.{RequirementFault}
use Rattle.requirement_lines.specs.declared.told.RequirementFault.TheVariants.{Memory, Unread, Unnamed, NoRequirement, TooLarge}
use Rattle.requirement_lines.specs.declared.told.Told.{Told}
use Rattle.requirement_lines.specs.Rulings.{IsRulingOn, are_met}
use Rattle.requirement_lines.specs.Lines.{verdicts_text}

-- ---- one requirement

-- A requirement is judged so: it has its name, its target has this slice, which is served, and this is the verdict.
pub record IsJudgedSo (system : System) (rates : List Rate) (named : NamedRequirement) (judgement : Judgement) : Type 0 where
  pub name : judgement.name ≡ named.name.text
  pub slice : Slice
  pub served : IsServed system named.target slice
  pub ruling : IsRulingOn system rates named.target slice.events named.sentence judgement.ruling

-- it can be judged
abbrev pub CanBeJudged : System → List Rate → NamedRequirement → Type 0
CanBeJudged system rates named = (judgement : Judgement) × IsJudgedSo system rates named judgement

-- Why a requirement is not judged: want of memory; M10 or M11, where the slice of its target is too large. The place is that of its name.
abbrev pub IsUnjudged : System → NamedRequirement → RequirementFault → Type 0
IsUnjudged system named Memory = ⊤
IsUnjudged system named (Unread at) = ⊥
IsUnjudged system named (Unnamed word) = ⊥
IsUnjudged system named NoRequirement = ⊥
IsUnjudged system named (TooLarge refusal at) = HasLargeSlice system named.target refusal × (at ≡ named.name.at)

-- why there is no slice of a target that is served: want of memory, or M10 or M11; it is of a requirement whose name stands at this place
abbrev pub IsLarge : System → ℕ → ℕ → RequirementFault → Type 0
IsLarge system target at Memory = ⊤
IsLarge system target at (Unread place) = ⊥
IsLarge system target at (Unnamed word) = ⊥
IsLarge system target at NoRequirement = ⊥
IsLarge system target at (TooLarge refusal place) = HasLargeSlice system target refusal × (place ≡ at)

-- which facts hold under no event, and which hold under some
pub record KnowsFacts (system : System) (known : Known) : Type 0 where
  pub always : (n : ℕ) → Has (member known.always.now) n ↔ HoldsAnyway system n
  pub perhaps : (n : ℕ) → Has (member known.perhaps.now) n ↔ MayHold system n

-- ---- all requirements

-- this is the requirement of a number
abbrev pub IsAt : List NamedRequirement → ℕ → NamedRequirement → Type 0
IsAt all number named = (number < length all) × (named ≡ get_or all number named)

-- Of some requirements this is the first that is not judged, and why.
pub record IsFirstUnjudged (system : System) (rates : List Rate) (all : List NamedRequirement) (fault : RequirementFault) : Type 0 where
  pub front : List NamedRequirement
  pub one : NamedRequirement
  pub rest : List NamedRequirement
  pub whole : all ≡ front ++ one ∷ rest
  pub before : AllByRecursion (CanBeJudged system rates) front
  pub here : IsUnjudged system one fault

-- why some requirements are not judged: want of memory, or the first that is not
abbrev pub AreUnjudged : System → List Rate → List NamedRequirement → RequirementFault → Type 0
AreUnjudged system rates all Memory = ⊤
AreUnjudged system rates all (Unread at) = ⊥
AreUnjudged system rates all (Unnamed word) = ⊥
AreUnjudged system rates all NoRequirement = ⊥
AreUnjudged system rates all (TooLarge refusal at) = IsFirstUnjudged system rates all (TooLarge refusal at)

-- What a text of requirements says over a system: it has requirements, at least one, whose names are those of the system.
pub record Says (system : System) (text : List ℕ) (named : List NamedRequirement) : Type 0 where
  pub all : Requirements
  pub read : requirements_of text ≡ Ok all
  pub are_named : AreNamed system all named

-- What is told of a text of requirements: the verdict on each, in their order, as lines in one of two forms; and whether each is met.
pub record TellsRequirements (system : System) (rates : List Rate) (text : List ℕ) (form : LineForm) (told : Told) : Type 0 where
  pub named : List NamedRequirement
  pub says : Says system text named
  pub judgements : List Judgement
  pub judged : AllZip (IsJudgedSo system rates) named judgements
  pub text_is : told.text.items ≡ verdicts_text form system judgements
  pub met_is : told.all_met ≡ are_met judgements

-- requirements that the text has are not judged, and why
pub record IsStopped (system : System) (rates : List Rate) (text : List ℕ) (fault : RequirementFault) : Type 0 where
  pub named : List NamedRequirement
  pub says : Says system text named
  pub first : IsFirstUnjudged system rates named fault

-- why a text is not read: want of memory, or the word that is wrong
abbrev pub IsMisread : List ℕ → RequirementFault → Type 0
IsMisread text Memory = ⊤
IsMisread text (Unread at) = requirements_of text ≡ Err at
IsMisread text (Unnamed word) = ⊥
IsMisread text NoRequirement = ⊥
IsMisread text (TooLarge refusal at) = ⊥

-- why its names are not numbers: want of memory, the first word that is wrong, or there is no requirement
abbrev pub IsMisnamedSo : System → Requirements → RequirementFault → Type 0
IsMisnamedSo system all Memory = ⊤
IsMisnamedSo system all (Unread at) = ⊥
IsMisnamedSo system all (Unnamed word) = IsFault system all (name.Wrong word)
IsMisnamedSo system all NoRequirement = IsFault system all name.NoRequirement
IsMisnamedSo system all (TooLarge refusal at) = ⊥

-- the names of a text are wrong, or it has no requirement
abbrev pub IsMisnamed : System → List ℕ → NameFault → Type 0
IsMisnamed system text fault = (all : Requirements) × (requirements_of text ≡ Ok all) × IsFault system all fault

-- Why nothing is told: want of memory; Q1, at the word that is wrong; Q3 to Q7, at the first word that is; Q2; or the first requirement that
-- is not judged.
abbrev pub IsRefusedFor : System → List Rate → List ℕ → RequirementFault → Type 0
IsRefusedFor system rates text Memory = ⊤
IsRefusedFor system rates text (Unread at) = requirements_of text ≡ Err at
IsRefusedFor system rates text (Unnamed word) = IsMisnamed system text (name.Wrong word)
IsRefusedFor system rates text NoRequirement = IsMisnamed system text name.NoRequirement
IsRefusedFor system rates text (TooLarge refusal at) = IsStopped system rates text (TooLarge refusal at)
