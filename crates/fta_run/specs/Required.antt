-- Requirements that a text has, judged over a system: what is told of them, and why they are refused.
use Rattle.std.specs.Prelude.{◌≡◌, ⊤, ℕ, Bool, true, false, List, [], ◌∷◌, Option, Some, None, Result, Ok, Err, min}
use Rattle.plain_values.specs.declared.refusal.Code.{Code}
use Rattle.plain_values.specs.declared.refusal.Code.TheVariants.{BadRequirement, NoRequirement, DuplicateRequirement, UnknownRequirementTarget, BadException}
use Rattle.plain_values.specs.declared.refusal.Code.TheVariants as code
use Rattle.plain_values.specs.declared.refusal.Place.{Place}
use Rattle.plain_values.specs.declared.refusal.Place.TheVariants.{At, Whole}
use Rattle.plain_values.specs.declared.refusal.Refusal.{Refusal}
use Rattle.plain_values.specs.Refusal.{refusal}
use Rattle.phases.specs.Phases.{Phase, yields, accepts, computes, rejects, ◌>>=◌}
use Rattle.fault_system.specs.Systems.{System}
use Rattle.backward_slice.specs.Slices.{HasLargeSlice, IsServed}
use Rattle.requirements.specs.declared.reading.Requirement.{Requirement}
use Rattle.requirements.specs.declared.reading.Requirements.{Requirements}
use Rattle.requirements.specs.Requirements.{requirements_of}
use Rattle.requirement_names.specs.declared.mistake.Mistake.{Mistake}
use Rattle.requirement_names.specs.declared.mistake.Mistake.TheVariants.{DuplicateName, UnknownTarget, UnknownGroup, EmptyGroup, BadToken}
use Rattle.requirement_names.specs.declared.mistake.WrongWord.{WrongWord}
use Rattle.requirement_names.specs.declared.named.NamedRequirement.{NamedRequirement}
use Rattle.requirement_names.specs.Named.{named_requirements}
use Rattle.requirement_names.specs.Wrong.{first_wrong}
use Rattle.backward_slice.specs.declared.parts.Slice.{Slice}
use Rattle.property_reader.specs.declared.rate.Rate.{Rate}
use Rattle.requirement_lines.specs.declared.judgement.Judgement.{Judgement}
use Rattle.requirement_lines.specs.declared.told.LineForm.{LineForm}
use Rattle.requirement_lines.specs.declared.told.LineForm.TheVariants.{Plain, Tap}
use Rattle.requirement_lines.specs.Rulings.{IsRulingOn, are_met}
use Rattle.requirement_lines.specs.Lines.{verdicts_text}

-- What a command writes, and whether it tells of no requirement that is not met.
pub record Output : Type 0 where
  pub text : List ℕ
  pub met : Bool

-- a text that tells of no requirement
abbrev pub plain_output : List ℕ → Output
plain_output text = record { text = text; met = true }

-- what a phase writes that tells of no requirement
abbrev pub with_all_met : Phase (List ℕ) → Phase Output
with_all_met phase = do
  text ← phase
  yields (plain_output text)

-- ---- the requirements of a text

-- a byte of the file of requirements, which is the first; up to the greatest number of 32 bits, which no byte has
abbrev pub byte_place : ℕ → Place
byte_place at = At 0 (min at 4294967295)

-- a text as requirements; or Q1, at the word that is wrong
abbrev pub read_as : Result Requirements ℕ → Result Requirements Refusal
read_as (Ok all) = Ok all
read_as (Err at) = Err (refusal BadRequirement (byte_place at))

-- Q3 to Q7: what is wrong with the name that a word is
abbrev pub mistake_code : Mistake → Code
mistake_code DuplicateName = DuplicateRequirement
mistake_code UnknownTarget = UnknownRequirementTarget
mistake_code UnknownGroup = code.UnknownGroup
mistake_code EmptyGroup = code.EmptyGroup
mistake_code BadToken = BadException

-- requirements whose names are numbers, where this is the first word that is wrong, if any, and these are all; or its code; or Q2
abbrev pub named_with : System → Requirements → Option WrongWord → List Requirement → Result (List NamedRequirement) Refusal
named_with system all (Some word) requirements = Err (refusal (mistake_code word.mistake) (byte_place word.at))
named_with system all None [] = Err (refusal NoRequirement (Whole 0))
named_with system all None (requirement ∷ requirements) = Ok (named_requirements system all)

-- requirements whose names are the numbers that a system has for them; or Q3 to Q7, at the first word that is wrong; or Q2, where there is none
abbrev pub named_of : System → Requirements → Result (List NamedRequirement) Refusal
named_of system all = named_with system all (first_wrong system all) all.requirements

-- ---- judgements

-- a refusal, at a byte of the file of requirements
abbrev pub placed_at : ℕ → Refusal → Refusal
placed_at at its = record { code = its.code; place = byte_place at; limit = its.limit }

-- M10, M11: the slice of a target is too large, at the name of its requirement
abbrev pub HasLargeSliceAt : System → ℕ → ℕ → Refusal → Type 0
HasLargeSliceAt system target at its = (large : Refusal) × HasLargeSlice system target large × (its ≡ placed_at at large)

-- the slices of the targets of requirements, each in its turn
abbrev pub slices_of : System → List NamedRequirement → Phase (List Slice)
slices_of system [] = yields []
slices_of system (named ∷ rest) = do
  slice ← rejects (IsServed system named.target) (HasLargeSliceAt system named.target named.name.at)
  slices ← slices_of system rest
  yields (slice ∷ slices)

-- A requirement whose target has this slice is judged so, where events have these rates: it has its name, and this is the verdict.
pub record IsJudgement (system : System) (rates : List Rate) (named : NamedRequirement) (slice : Slice) (judgement : Judgement) : Type 0 where
  pub name : judgement.name ≡ named.name.text
  pub ruling : IsRulingOn system rates named.target slice.events named.sentence judgement.ruling

-- the same of all requirements, in their order
abbrev pub AreJudgements : System → List Rate → List NamedRequirement → List Slice → List Judgement → Type 0
AreJudgements system rates [] [] [] = ⊤
AreJudgements system rates (named ∷ rest) (slice ∷ slices) (judgement ∷ judgements) = IsJudgement system rates named slice judgement × AreJudgements system rates rest slices judgements
AreJudgements system rates _ _ _ = ⊥

-- ---- what is told

-- lines, or TAP where that is asked for
abbrev pub line_form : Bool → LineForm
line_form true = Tap
line_form false = Plain

-- the lines of judgements, and whether each is that a requirement is met
abbrev pub told_output : LineForm → System → List Judgement → Output
told_output form system judgements = record { text = verdicts_text form system judgements; met = are_met judgements }

-- An output tells the judgements on requirements.
pub record TellsJudgements (form : LineForm) (system : System) (rates : List Rate) (named : List NamedRequirement) (slices : List Slice) (output : Output) : Type 0 where
  pub judgements : List Judgement
  pub judged : AreJudgements system rates named slices judgements
  pub output_is : output ≡ told_output form system judgements

-- what is made of the requirements of a text over a system: of those whose names are numbers, and of the slices of their targets
abbrev pub required_by : {A : Type 0} → (List NamedRequirement → List Slice → A → Type 0) → List ℕ → System → Phase A
required_by Is text system = do
  all ← computes (read_as (requirements_of text))
  named ← computes (named_of system all)
  slices ← slices_of system named
  accepts (Is named slices)

-- what is told of the requirements of a text over a system whose events have these rates
abbrev pub required_text : Bool → List ℕ → System → List Rate → Phase Output
required_text tap text system rates = required_by (TellsJudgements (line_form tap) system rates) text system

-- the text of an output that tells so
abbrev pub TellsLines : Bool → System → List Rate → List NamedRequirement → List Slice → List ℕ → Type 0
TellsLines tap system rates named slices lines = (output : Output) × TellsJudgements (line_form tap) system rates named slices output × (lines ≡ output.text)

-- what is told as text alone
abbrev pub required_lines : Bool → List ℕ → System → List Rate → Phase (List ℕ)
required_lines tap text system rates = required_by (TellsLines tap system rates) text system
