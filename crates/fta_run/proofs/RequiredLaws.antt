-- Requirements, judged step by step: how what is told of them passes, why they are refused, and that there is one end.
use Rattle.std.proofs.Common.{◌≡◌, ◌≢◌, ◌⊎◌, ◌∙◌, ℕ, Bool, true, false, ◌&&◌, map, List, [], ◌∷◌, ◌++◌, Option, None, Some, Result, Ok, Err, refl, sym, ap, subst, inl, inr}
use Rattle.std.specs.List.{AllByRecursion, AllZip, list_all}
use Rattle.std.proofs.lemmas.Bool.{false≢true}
use Rattle.plain_values.specs.declared.refusal.Code.TheVariants.{BadRequirement, NoRequirement}
use Rattle.plain_values.specs.declared.refusal.Place.TheVariants.{Whole}
use Rattle.plain_values.specs.declared.refusal.Refusal.{Refusal}
use Rattle.plain_values.specs.Refusal.{refusal}
use Rattle.phases.specs.Phases.{IsRefusal, Passed, Passes, Stopped, Stops}
use Rattle.phases.specs.inner.Meets.{IsMemory}
use Rattle.phases.specs.inner.Phases.{IsDecided, IsDecidedStep}
use Rattle.phases.specs.declared.status.Status.{Status}
use Rattle.phases.specs.declared.status.Status.TheVariants.{Refused}
use Rattle.phases.proofs.Endings.{StopsOnly}
use Rattle.phases.proofs.Leaves.{decided_accepts, decided_computes, decided_rejects}
use Rattle.model_phases.proofs.Decided.{IsARefusal}
use Rattle.fault_system.specs.Systems.{System}
use Rattle.backward_slice.specs.declared.parts.Slice.{Slice}
use Rattle.backward_slice.specs.Slices.{HasLargeSlice, IsServed}
use Rattle.system_answers.proofs.Decided.{slice_decided}
use Rattle.requirements.specs.declared.reading.Requirement.{Requirement}
use Rattle.requirements.specs.declared.reading.Requirements.{Requirements}
use Rattle.requirements.specs.Requirements.{requirements_of}
use Rattle.requirement_names.specs.declared.mistake.WrongWord.{WrongWord}
use Rattle.requirement_names.specs.declared.named.NamedRequirement.{NamedRequirement}
use Rattle.requirement_names.specs.declared.named.NamedSentence.{NamedSentence}
use Rattle.requirement_names.specs.declared.named.NamedSentence.TheVariants as said
use Rattle.requirement_names.specs.Named.{named_requirements}
use Rattle.requirement_names.specs.inner.Named.{AreNamed}
use Rattle.requirement_verdicts.proofs.OneVerdict.{one-verdict}
use Rattle.requirement_lines.specs.declared.judgement.Judgement.{Judgement}
use Rattle.requirement_lines.specs.declared.told.LineForm.{LineForm}
use Rattle.requirement_lines.specs.declared.told.RequirementFault.{RequirementFault}
use Rattle.requirement_lines.specs.declared.told.RequirementFault.TheVariants as fault
use Rattle.requirement_lines.specs.declared.told.Told.{Told}
use Rattle.requirement_lines.specs.declared.ruling.Ruling.{Ruling}
use Rattle.requirement_lines.specs.declared.ruling.Ruling.TheVariants.{OfSets, OfProbability}
use Rattle.requirement_lines.specs.Rulings.{IsRulingOn, are_met}
use Rattle.requirement_lines.specs.inner.Judged.{CanBeJudged, IsFirstUnjudged, IsJudgedSo, IsRefusedFor, TellsRequirements}
use Rattle.requirement_lines.specs.Lines.{verdicts_text}
use Rattle.property_reader.specs.declared.rate.Rate.{Rate}
use Rattle.requirements.specs.declared.sentence.Sentence.{Sentence}
use Rattle.requirements.specs.declared.sentence.Sentence.TheVariants as written
use Rattle.requirement_names.specs.Wrong.{first_wrong}
use Rattle.requirement_names.specs.Named.{named_requirement, named_sentence}
use Rattle.requirement_names.specs.Groups.{group_names, group_sets}
use Rattle.fta_run.specs.Required.{AreJudgements, HasLargeSliceAt, IsJudgement, Output, TellsJudgements, TellsLines, byte_place, line_form, mistake_code, named_of, named_with, placed_at, read_as, required_by, required_text, slices_of, told_output}
use Rattle.fta_run.specs.Answers.{HasNoProbability, speaks_of_sets}
use Rattle.fta_run.specs.inner.OneEnd.{IsDecidedButLast}
use Rattle.fta_run.specs.inner.Required.{output_of, status_of_fault}

-- ---- what is told passes

named-some : (system : System) (all : Requirements) (requirements : List Requirement) → requirements ≢ [] → named_with system all None requirements ≡ Ok (named_requirements system all)
named-some system all [] some = absurd (some refl)
named-some system all (requirement ∷ requirements) some = refl

named-so : (system : System) (all : Requirements) (named : List NamedRequirement) → AreNamed system all named → named_of system all ≡ Ok named
named-so system all named are =
    ap (λ (first : Option WrongWord). named_with system all first all.requirements) are.none_wrong ∙ named-some system all all.requirements are.some
    ∙ ap (λ (its : List NamedRequirement). answer its) (sym are.each) where
      answer : List NamedRequirement → Result (List NamedRequirement) Refusal
      answer its = Ok its

module _ (system : System) (rates : List Rate) where
  slices-pass : (all : List NamedRequirement) (judgements : List Judgement) → AllZip (IsJudgedSo system rates) all judgements → (slices : List Slice) × Passed (slices_of system all) slices × AreJudgements system rates all slices judgements
  slices-pass [] [] zip = ([], refl, tt)
  slices-pass [] (judgement ∷ judgements) zip = absurd zip
  slices-pass (named ∷ all) [] zip = absurd zip
  slices-pass (named ∷ all) (judgement ∷ judgements) zip =
      let one : IsJudgedSo system rates named judgement = zip.0 in
      let rest = slices-pass all judgements zip.1 in
      let its : IsJudgement system rates named one.slice judgement = record { name = one.name; ruling = one.ruling } in
      (one.slice ∷ rest.0, (one.slice, one.served, (rest.0, rest.1, refl)), (its, rest.2))

  pub told-passes : (text : List ℕ) (tap : Bool) (told : Told) → TellsRequirements system rates text (line_form tap) told → Passes (required_text tap text system rates) (output_of told)
  told-passes text tap told tells =
      let says = tells.says in
      let text_is = tells.text_is in
      let met_is = tells.met_is in
      let same : ◌≡◌ {A = Output} (record { text = told.text.items; met = told.all_met }) (record { text = verdicts_text (line_form tap) system tells.judgements; met = are_met tells.judgements }) = cc (text_is, met_is) in
      let passed = slices-pass tells.named tells.judgements tells.judged in
      let its : TellsJudgements (line_form tap) system rates tells.named passed.0 (output_of told) = record { judgements = tells.judgements; judged = passed.2; output_is = same } in
      record { passed = (says.all, ap read_as says.read, (tells.named, named-so system says.all tells.named says.are_named, (passed.0, passed.1, its))) }

  -- ---- why they are refused

  stopped-behind : (front rest : List NamedRequirement) (one : NamedRequirement) (status : Status) → AllByRecursion (CanBeJudged system rates) front → IsRefusal (HasLargeSliceAt system one.target one.name.at) status
      → Stopped (slices_of system (front ++ one ∷ rest)) status
  stopped-behind [] rest one status before stopped = inl stopped
  stopped-behind (named ∷ front) rest one status before stopped =
      let judged : IsJudgedSo system rates named before.0.0 = before.0.1 in
      inr (judged.slice, judged.served, inl (stopped-behind front rest one status before.1 stopped))

  first-stops : (all : List NamedRequirement) (fault : RequirementFault) (status : Status) → (first : IsFirstUnjudged system rates all fault) → IsRefusal (HasLargeSliceAt system first.one.target first.one.name.at) status → Stopped (slices_of system all) status
  first-stops all fault status first stopped =
      subst (λ (its : List NamedRequirement). Stopped (slices_of system its) status) (sym first.whole) (stopped-behind first.front first.rest first.one status first.before stopped)

  large-stops : (named : NamedRequirement) (large : Refusal) (at : ℕ) → HasLargeSlice system named.target large → at ≡ named.name.at → IsRefusal (HasLargeSliceAt system named.target named.name.at) (Refused (placed_at at large))
  large-stops named large at is same = (placed_at at large, (large, is, ap (λ (n : ℕ). placed_at n large) same), refl)

  pub refused-stops : (text : List ℕ) (tap : Bool) (why : RequirementFault) → IsRefusedFor system rates text why → Stops (required_text tap text system rates) (status_of_fault why) ⊎ IsMemory (status_of_fault why)
  refused-stops text tap fault.Memory is = inr refl
  refused-stops text tap (fault.Unread at) is = inl (record { stopped = inl (refusal BadRequirement (byte_place at), ap read_as is, refl) })
  refused-stops text tap (fault.Unnamed word) is =
      let all : Requirements = is.0 in
      inl (record { stopped = inr (all, ap read_as is.1, inl (refusal (mistake_code word.mistake) (byte_place word.at), ap (λ (first : Option WrongWord). named_with system all first all.requirements) is.2, refl)) })
  refused-stops text tap fault.NoRequirement is =
      let all : Requirements = is.0 in
      inl (record {
        stopped = inr (
          all,
          ap read_as is.1,
          inl (
            refusal NoRequirement (Whole 0),
            ap (λ (first : Option WrongWord). named_with system all first all.requirements) is.2.0 ∙ ap (λ (its : List Requirement). named_with system all None its) is.2.1,
            refl,
          ),
        );
      })
  refused-stops text tap (fault.TooLarge large at) is =
      let says = is.says in
      let first = is.first in
      inl (record {
        stopped = inr (
          says.all,
          ap read_as says.read,
          inr (
            is.named,
            named-so system says.all is.named says.are_named,
            inl (first-stops is.named (fault.TooLarge large at) (Refused (placed_at at large)) first (large-stops first.one large at first.here.0 first.here.1)),
          ),
        );
      })

-- ---- there is one end, where no requirement is on a probability

both : (a b : Bool) → (a && b) ≡ true → (a ≡ true) × (b ≡ true)
both true b is = (refl, is)
both false b is = absurd (false≢true is)

-- a sentence speaks of sets of events
abbrev IsOfSets : NamedSentence → Type 0
IsOfSets (said.OfSets sentence) = Unit {0}
IsOfSets (said.Probability most hours) = ⊥

-- so does that of each requirement
abbrev AreOfSets : List NamedRequirement → Type 0
AreOfSets all = AllByRecursion (λ named. IsOfSets named.sentence) all

sentence-of-sets : (system : System) (names sets : List (List ℕ)) (sentence : Sentence) → speaks_of_sets sentence ≡ true → IsOfSets (named_sentence system names sets sentence)
sentence-of-sets system names sets (written.Order least tokens) is = tt
sentence-of-sets system names sets (written.Mixed group most) is = tt
sentence-of-sets system names sets (written.Without event) is = tt
sentence-of-sets system names sets written.Possible is = tt
sentence-of-sets system names sets written.Never is = tt
sentence-of-sets system names sets (written.Probability most hours) is = absurd (false≢true is)

all-of-sets : (system : System) (names sets : List (List ℕ)) (requirements : List Requirement) → list_all (λ requirement. speaks_of_sets requirement.sentence) requirements ≡ true → AreOfSets (map (named_requirement system names sets) requirements)
all-of-sets system names sets [] is = tt
all-of-sets system names sets (requirement ∷ requirements) is =
    let two = both (speaks_of_sets requirement.sentence) (list_all (λ its. speaks_of_sets its.sentence) requirements) is in
    (sentence-of-sets system names sets requirement.sentence two.0, all-of-sets system names sets requirements two.1)

named-with-sets : (system : System) (all : Requirements) (first : Option WrongWord) (requirements : List Requirement) (named : List NamedRequirement) → named_with system all first requirements ≡ Ok named → named ≡ named_requirements system all
named-with-sets system all (Some word) requirements named is = absurd (cc (is))
named-with-sets system all None [] named is = absurd (cc (is))
named-with-sets system all None (requirement ∷ requirements) named is = let same : named_requirements system all ≡ named = cc (is) in sym same

named-of-sets : (system : System) (all : Requirements) (named : List NamedRequirement) → list_all (λ requirement. speaks_of_sets requirement.sentence) all.requirements ≡ true → named_of system all ≡ Ok named → AreOfSets named
named-of-sets system all named sets is =
    subst AreOfSets (sym (named-with-sets system all (first_wrong system all) all.requirements named is)) (all-of-sets system (group_names all.groups) (group_sets system all.groups) all.requirements sets)

read-so : (result : Result Requirements ℕ) (all : Requirements) → read_as result ≡ Ok all → result ≡ Ok all
read-so (Ok its) all is = let same : its ≡ all = cc (is) in answer same where
  answer : its ≡ all → ◌≡◌ {A = Result Requirements ℕ} (Ok its) (Ok all)
  answer same = ap Ok same
read-so (Err at) all is = absurd (cc (is))

module _ (system : System) (rates : List Rate) where
  one-ruling : (target : ℕ) (events : List ℕ) (sentence : NamedSentence) → IsOfSets sentence → (a b : Ruling) → IsRulingOn system rates target events sentence a → IsRulingOn system rates target events sentence b → a ≡ b
  one-ruling target events (said.OfSets sentence) sets (OfSets a) (OfSets b) p q = ap OfSets (one-verdict system target sentence a b p q)
  one-ruling target events (said.OfSets sentence) sets (OfSets a) (OfProbability b) p q = absurd q
  one-ruling target events (said.OfSets sentence) sets (OfProbability a) b p q = absurd p
  one-ruling target events (said.Probability most hours) sets a b p q = absurd sets

  one-judgement : (named : NamedRequirement) (slice : Slice) → IsOfSets named.sentence → (a b : Judgement) → IsJudgement system rates named slice a → IsJudgement system rates named slice b → a ≡ b
  one-judgement named slice sets a b p q =
      let names : a.name ≡ b.name = p.name ∙ sym q.name in
      let rulings : a.ruling ≡ b.ruling = one-ruling named.target slice.events named.sentence sets a.ruling b.ruling p.ruling q.ruling in
      let same : ◌≡◌ {A = Judgement} (record { name = a.name; ruling = a.ruling }) (record { name = b.name; ruling = b.ruling }) = cc (names, rulings) in
      same

  one-judgements : (all : List NamedRequirement) (slices : List Slice) → AreOfSets all → (a b : List Judgement) → AreJudgements system rates all slices a → AreJudgements system rates all slices b → a ≡ b
  one-judgements [] [] sets [] [] p q = refl
  one-judgements [] [] sets [] (y ∷ b) p q = absurd q
  one-judgements [] [] sets (x ∷ a) b p q = absurd p
  one-judgements [] (slice ∷ slices) sets a b p q = absurd p
  one-judgements (named ∷ all) [] sets a b p q = absurd p
  one-judgements (named ∷ all) (slice ∷ slices) sets [] b p q = absurd p
  one-judgements (named ∷ all) (slice ∷ slices) sets (x ∷ a) [] p q = absurd q
  one-judgements (named ∷ all) (slice ∷ slices) sets (x ∷ a) (y ∷ b) p q =
      let first : x ≡ y = one-judgement named slice sets.0 x y p.0 q.0 in
      let rest : a ≡ b = one-judgements all slices sets.1 a b p.1 q.1 in
      ap (λ (j : Judgement). j ∷ a) first ∙ ap (λ (js : List Judgement). y ∷ js) rest

  one-output : (form : LineForm) (all : List NamedRequirement) (slices : List Slice) → AreOfSets all → (a b : Output) → TellsJudgements form system rates all slices a → TellsJudgements form system rates all slices b → a ≡ b
  one-output form all slices sets a b p q =
      p.output_is ∙ ap (told_output form system) (one-judgements all slices sets p.judgements q.judgements p.judged q.judged) ∙ sym q.output_is

module _ (Same : Status → Status → Type 0) (itself : (status : Status) → Same status status) (system : System) where
  slice-at-decided : (target at : ℕ) → IsDecidedStep Same (IsServed system target) (IsRefusal (HasLargeSliceAt system target at))
  slice-at-decided target at =
      let its : IsDecidedStep (λ (a b : Status). a ≡ b) (IsServed system target) (IsRefusal (HasLargeSlice system target)) = slice_decided (λ (a b : Status). a ≡ b) (λ status. refl) target system in
      decided_rejects Same (IsServed system target) (HasLargeSliceAt system target at) its.one_value
      (λ slice refusal served large. its.apart slice (Refused large.0) served (large.0, large.1, refl))
      (λ a b x y.
      let same : Refused x.0 ≡ Refused y.0 = its.one_stop (Refused x.0) (Refused y.0) (x.0, x.1, refl) (y.0, y.1, refl) in
      let one : x.0 ≡ y.0 = cc (same) in
      let equal : a ≡ b = x.2 ∙ ap (placed_at at) one ∙ sym y.2 in
      subst (λ (its : Refusal). Same (Refused a) (Refused its)) equal (itself (Refused a)))

  slices-decided : (all : List NamedRequirement) → IsDecided Same (slices_of system all)
  slices-decided [] = tt
  slices-decided (named ∷ all) = (slice-at-decided named.target named.name.at, λ slice served. (slices-decided all, λ slices are. tt))

  pub required-opened : {A : Type 0} (Is : List NamedRequirement → List Slice → A → Type 0) (text : List ℕ) → IsDecidedButLast Same (required_by Is text system)
  required-opened Is text = (
    decided_computes Same itself (read_as (requirements_of text)),
    λ all is. (
      decided_computes Same itself (named_of system all),
      λ named are. (slices-decided named, λ slices served. ((λ a status it none. none), λ a b none other. absurd none)),
    ),
  )

  by-decided : {A : Type 0} (Is : List NamedRequirement → List Slice → A → Type 0) (text : List ℕ) → HasNoProbability text
      → ((named : List NamedRequirement) (slices : List Slice) → AreOfSets named → (a b : A) → Is named slices a → Is named slices b → a ≡ b) → IsDecided Same (required_by Is text system)
  by-decided Is text none one = (
    decided_computes Same itself (read_as (requirements_of text)),
    λ all is. (
      decided_computes Same itself (named_of system all),
      λ named are. (
        slices-decided named,
        λ slices served. decided_accepts Same (Is named slices) (one named slices (named-of-sets system all named (none all (read-so (requirements_of text) all is)) are)),
      ),
    ),
  )

  module _ (rates : List Rate) (tap : Bool) (text : List ℕ) (none : HasNoProbability text) where
    pub output-decided : IsDecided Same (required_text tap text system rates)
    output-decided = by-decided (TellsJudgements (line_form tap) system rates) text none (one-output system rates (line_form tap))

    pub lines-decided : IsDecided Same (required_by (TellsLines tap system rates) text system)
    lines-decided =
        by-decided (TellsLines tap system rates) text none
        (λ named slices sets a b p q. p.2 ∙ ap (λ (o : Output). o.text) (one-output system rates (line_form tap) named slices sets p.0 q.0 p.1 q.1) ∙ sym q.2)

-- ---- they are refused alone

refusal-is : (Why : Refusal → Type 0) (status : Status) → IsRefusal Why status → IsARefusal status
refusal-is Why status is = (is.0, is.2)

module _ (system : System) where
  slices-stop : (all : List NamedRequirement) → StopsOnly IsARefusal (slices_of system all)
  slices-stop [] = tt
  slices-stop (named ∷ all) = (refusal-is (HasLargeSliceAt system named.target named.name.at), λ slice served. (slices-stop all, λ slices are. tt))

  pub required-stops : {A : Type 0} (Is : List NamedRequirement → List Slice → A → Type 0) (text : List ℕ) → StopsOnly IsARefusal (required_by Is text system)
  required-stops Is text =
      ((λ status is. (is.0, is.2)), λ all is. ((λ status why. (why.0, why.2)), λ named are. (slices-stop named, λ slices served. (λ status none. absurd none))))
