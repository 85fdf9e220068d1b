-- The text of `refusals`, from what is told of the group that refuses.
use Rattle.std.proofs.Common.{◌≡◌, ℕ, List, [], ◌∷◌, Result, Ok, Err, inl, inr, refl, subst}
use Rattle.std.specs.Prelude.{IfErr, IfOk}
use Rattle.plain_values.specs.declared.name.Root.{Root}
use Rattle.plain_values.specs.declared.refusal.Refusal.{Refusal}
use Rattle.aadl_syntax.specs.declared.core_model.Unit.{Unit as FileUnit}
use Rattle.noted_refusals.specs.inner.Noted.{Lists, Noted}
use Rattle.refusal_lines.specs.Text.{refusals_text}
use Rattle.phases.specs.Phases.{Phase, Stops}
use Rattle.phases.specs.declared.status.Status.{Status}
use Rattle.phases.specs.declared.status.Status.TheVariants.{Memory, Refused}
use Rattle.phases.specs.inner.Meets.{IsMemory, Meets, StopsBut}
use Rattle.model_phases.specs.declared.flat.FlatModel.{FlatModel}
use Rattle.model_phases.specs.inner.Told.{OnRefusal, ToldOf}
use Rattle.model_phases.proofs.ToldLaws.{FirstOf, told-with}
use Rattle.profiles.specs.declared.profile.Profile.{Profile}
use Rattle.fta_run.specs.Groups.{TellsRefusals}
use Rattle.fta_run.specs.inner.Told.{ListsFiles}

-- the refusal of files that are not read
pub unread_told : (units : Phase (List (List FileUnit))) (profile : Profile) (root : Root) (noted : Noted) (end : Status) → StopsBut IsMemory units end → ToldOf [] noted end → OnRefusal (ListsFiles units profile root noted) end
unread_told units profile root noted end = told-with (StopsBut IsMemory units) (FirstOf [] noted) (ListsFiles units profile root noted) end alone where
  alone : (refusal : Refusal) → StopsBut IsMemory units (Refused refusal) → FirstOf [] noted refusal → ListsFiles units profile root noted refusal
  alone refusal (inl stops) told = (refusal ∷ [], inl (stops, refl), told.1)
  alone refusal (inr memory) told = let none : Refused refusal ≡ Memory = memory in cc

-- the text of the group that is noted
group_tells : {T E : Type 0} (text_of : T → List ℕ) (model : Phase FlatModel) (units : Phase (List (List FileUnit))) (profile : Profile) (root : Root) (files texts : List (List ℕ)) (refusal : Refusal) (noted : Noted) (result : Result T E) → Stops model (Refused refusal)
    → OnRefusal (ListsFiles units profile root noted) (Refused refusal) → IfOk result (λ text. (group : List Refusal) → Lists group noted → text_of text ≡ refusals_text files texts refusal group)
    → IfOk result (λ text. TellsRefusals model units profile root files texts (text_of text))
group_tells text_of model units profile root files texts refusal noted (Ok text) stops (group, its, lists) is = inr (refusal, stops, group, its, is group lists)
group_tells text_of model units profile root files texts refusal noted (Err error) stops told is = tt

refused-stops : (model : Phase FlatModel) (refusal : Refusal) → StopsBut IsMemory model (Refused refusal) → Stops model (Refused refusal)
refused-stops model refusal (inl stops) = stops
refused-stops model refusal (inr memory) = let none : Refused refusal ≡ Memory = memory in cc

-- the same, where the model is tested and refused
pub tested_tells : {T E : Type 0} (text_of : T → List ℕ) (model : Phase FlatModel) (units : Phase (List (List FileUnit))) (profile : Profile) (root : Root) (files texts : List (List ℕ)) (tested : Result FlatModel Status) (refusal : Refusal) (noted : Noted) (result : Result T E)
    → tested ≡ Err (Refused refusal) → Meets model tested → IfErr tested (OnRefusal (ListsFiles units profile root noted)) → IfOk result (λ text. (group : List Refusal) → Lists group noted → text_of text ≡ refusals_text files texts refusal group)
    → IfOk result (λ text. TellsRefusals model units profile root files texts (text_of text))
tested_tells text_of model units profile root files texts tested refusal noted result is meets told gives =
    let stops : StopsBut IsMemory model (Refused refusal) = subst (λ (answer : Result FlatModel Status). Meets model answer) is meets in
    let lists : OnRefusal (ListsFiles units profile root noted) (Refused refusal) = subst (λ (answer : Result FlatModel Status). IfErr answer (OnRefusal (ListsFiles units profile root noted))) is told in
    group_tells text_of model units profile root files texts refusal noted result (refused-stops model refusal stops) lists gives
