-- With what the telling of requirements stops, step after step, and what is told.
use Rattle.std.proofs.Common.{ℕ, ◌≡◌, ◌<◌, List, length, take, get_or, Result, Ok, Err, sym, subst}
use Rattle.std.specs.Prelude.{IfErr, IfOk}
use Rattle.std.specs.List.{AllZip}
use Rattle.fault_system.specs.Systems.{System}
use Rattle.property_reader.specs.declared.rate.Rate.{Rate}
use Rattle.requirements.specs.declared.reading.Requirements.{Requirements}
use Rattle.requirements.specs.Requirements.{requirements_of}
use Rattle.requirement_names.specs.declared.named.NamedRequirement.{NamedRequirement}
use Rattle.requirement_lines.specs.declared.judgement.Judgement.{Judgement}
use Rattle.requirement_lines.specs.declared.told.LineForm.{LineForm}
use Rattle.requirement_lines.specs.declared.told.RequirementFault.{RequirementFault}
use Rattle.requirement_lines.specs.declared.told.RequirementFault.TheVariants.{Memory, Unread, Unnamed, NoRequirement, TooLarge}
use Rattle.requirement_lines.specs.declared.told.Told.{Told}
use Rattle.requirement_lines.specs.inner.Judged.{AreUnjudged, IsJudgedSo, IsLarge, IsMisnamedSo, IsMisread, IsRefusedFor, IsUnjudged, Says, TellsRequirements}
use Rattle.requirement_lines.specs.Rulings.{are_met}
use Rattle.requirement_lines.specs.Lines.{verdicts_text}
use Rattle.requirement_lines.proofs.Firsts.{first-unjudged}

pub misread-refused : (system : System) (rates : List Rate) (text : List ℕ) (fault : RequirementFault) → IsMisread text fault → IsRefusedFor system rates text fault
misread-refused system rates text Memory wrong = tt
misread-refused system rates text (Unread at) wrong = wrong
misread-refused system rates text (Unnamed word) wrong = absurd wrong
misread-refused system rates text NoRequirement wrong = absurd wrong
misread-refused system rates text (TooLarge refusal at) wrong = absurd wrong

pub misnamed-refused : (system : System) (rates : List Rate) (text : List ℕ) (all : Requirements) (fault : RequirementFault) → requirements_of text ≡ Ok all → IsMisnamedSo system all fault → IsRefusedFor system rates text fault
misnamed-refused system rates text all Memory read wrong = tt
misnamed-refused system rates text all (Unread at) read wrong = absurd wrong
misnamed-refused system rates text all (Unnamed word) read wrong = (all, read, wrong)
misnamed-refused system rates text all NoRequirement read wrong = (all, read, wrong)
misnamed-refused system rates text all (TooLarge refusal at) read wrong = absurd wrong

pub stopped-refused : (system : System) (rates : List Rate) (text : List ℕ) (named : List NamedRequirement) (fault : RequirementFault) → Says system text named → AreUnjudged system rates named fault → IsRefusedFor system rates text fault
stopped-refused system rates text named Memory says first = tt
stopped-refused system rates text named (Unread at) says first = absurd first
stopped-refused system rates text named (Unnamed word) says first = absurd first
stopped-refused system rates text named NoRequirement says first = absurd first
stopped-refused system rates text named (TooLarge refusal at) says first = record { named = named; says = says; first = first }

-- no slice of its target is served
pub large-unjudged : (system : System) (named : NamedRequirement) (fault : RequirementFault) → IsLarge system named.target named.name.at fault → IsUnjudged system named fault
large-unjudged system named Memory large = tt
large-unjudged system named (Unread at) large = absurd large
large-unjudged system named (Unnamed word) large = absurd large
large-unjudged system named NoRequirement large = absurd large
large-unjudged system named (TooLarge refusal at) large = large

-- the first that is not judged, in a loop over all
pub unjudged-first : (system : System) (rates : List Rate) (all : List NamedRequirement) (judgements : List Judgement) (i : ℕ) (one : NamedRequirement) (fault : RequirementFault) → i < length all → one ≡ get_or all i one
    → AllZip (IsJudgedSo system rates) (take i all) judgements → IsUnjudged system one fault → AreUnjudged system rates all fault
unjudged-first system rates all judgements i one Memory within is zip here = tt
unjudged-first system rates all judgements i one (Unread at) within is zip here = absurd here
unjudged-first system rates all judgements i one (Unnamed word) within is zip here = absurd here
unjudged-first system rates all judgements i one NoRequirement within is zip here = absurd here
unjudged-first system rates all judgements i one (TooLarge refusal at) within is zip here = first-unjudged system rates all judgements i one (TooLarge refusal at) within is zip here

-- ---- what is told

pub lines-told : (system : System) (rates : List Rate) (text : List ℕ) (form : LineForm) (named : List NamedRequirement) (judgements shown : List Judgement) (result : Result Told RequirementFault) → Says system text named
    → AllZip (IsJudgedSo system rates) named judgements → shown ≡ judgements → IfOk result (λ told. told.text.items ≡ verdicts_text form system shown) → IfOk result (λ told. told.all_met ≡ are_met shown)
    → IfOk result (TellsRequirements system rates text form)
lines-told system rates text form named judgements shown (Err fault) says judged same lines met = tt
lines-told system rates text form named judgements shown (Ok told) says judged same lines met = record {
  named = named;
  says = says;
  judgements = shown;
  judged = subst (AllZip (IsJudgedSo system rates) named) (sym same) judged;
  text_is = lines;
  met_is = met;
}

pub lines-refused : (system : System) (rates : List Rate) (text : List ℕ) (result : Result Told RequirementFault) → IfErr result (λ fault. fault ≡ Memory) → IfErr result (IsRefusedFor system rates text)
lines-refused system rates text (Ok told) is = tt
lines-refused system rates text (Err fault) is = subst (IsRefusedFor system rates text) (sym is) tt
