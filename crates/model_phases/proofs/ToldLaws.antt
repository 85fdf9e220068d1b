-- What is told of a stop, as a status.
use Rattle.std.proofs.Common.{◌≡◌, List, [], ◌∷◌, Result, Ok, Err, sym, ap, subst, ◌∙◌}
use Rattle.std.specs.Prelude.{IfErr, IsErrAnd}
use Rattle.std.proofs.lemmas.Result.{err_from_is_err_and}
use Rattle.plain_values.specs.declared.refusal.Refusal.{Refusal}
use Rattle.plain_values.specs.declared.refusal.Stop.{Stop}
use Rattle.plain_values.specs.declared.refusal.Stop.TheVariants as stop
use Rattle.noted_refusals.specs.Groups.{or_group}
use Rattle.noted_refusals.specs.inner.Noted.{Noted, TellsFirst}
use Rattle.phases.specs.declared.status.Status.{Status}
use Rattle.phases.specs.declared.status.Status.TheVariants as status
use Rattle.phases.specs.inner.Stopped.{status_of}
use Rattle.model_phases.specs.inner.Told.{OnRefusal, ToldFirst, ToldOf}

told-status : (group : List Refusal) (noted : Noted) (why : Stop) → TellsFirst group noted why → ToldFirst group noted (status_of why)
told-status group noted (stop.Refused refusal) told = told
told-status group noted stop.Memory told = tt

-- the exit of a `?` behind a call that stops
pub stop-told : {T : Type 0} (group : List Refusal) (noted : Noted) (why : Stop) (result : Result T Status) → IsErrAnd result (λ its. its ≡ status_of why) → TellsFirst group noted why → IfErr result (ToldFirst group noted)
stop-told group noted why result is told =
    let p = err_from_is_err_and result is in
    subst (λ r. IfErr r (ToldFirst group noted)) (sym (p.1 ∙ ap Err p.2)) (told-status group noted why told)

-- what is told of a refusal, where this is so of the status
pub told-with : (With : Status → Type 0) (Is IsNow : Refusal → Type 0) (end : Status) → ((refusal : Refusal) → With (status.Refused refusal) → Is refusal → IsNow refusal) → With end → OnRefusal Is end → OnRefusal IsNow end
told-with With Is IsNow (status.Refused refusal) so with told = so refusal with told
told-with With Is IsNow status.Done so with told = tt
told-with With Is IsNow status.Unmet so with told = tt
told-with With Is IsNow status.Usage so with told = tt
told-with With Is IsNow (status.Constant always) so with told = tt
told-with With Is IsNow (status.Unrated name) so with told = tt
told-with With Is IsNow (status.StaleToken token input) so with told = tt
told-with With Is IsNow (status.ReadFault file) so with told = tt
told-with With Is IsNow status.WriteFault so with told = tt
told-with With Is IsNow (status.ReportFault place) so with told = tt
told-with With Is IsNow status.Memory so with told = tt

told-on : (Is IsNow : Refusal → Type 0) (end : Status) → ((refusal : Refusal) → Is refusal → IsNow refusal) → OnRefusal Is end → OnRefusal IsNow end
told-on Is IsNow end so told = told-with (λ _. Unit {0}) Is IsNow end (λ refusal _ its. so refusal its) tt told

-- the exit of a `?` behind a call that ends with a status
pub end-told : {T : Type 0} (Is IsNow : Refusal → Type 0) (end : Status) (result : Result T Status) → ((refusal : Refusal) → Is refusal → IsNow refusal) → IsErrAnd result (λ its. its ≡ end) → OnRefusal Is end → IfErr result (OnRefusal IsNow)
end-told Is IsNow end result so is told =
    let p = err_from_is_err_and result is in
    subst (λ r. IfErr r (OnRefusal IsNow)) (sym (p.1 ∙ ap Err p.2)) (told-on Is IsNow end so told)

-- what a call answers is told of other groups too
pub answer-told : {T : Type 0} (Is IsNow : Refusal → Type 0) (result : Result T Status) → ((refusal : Refusal) → Is refusal → IsNow refusal) → IfErr result (OnRefusal Is) → IfErr result (OnRefusal IsNow)
answer-told Is IsNow (Ok made) so told = tt
answer-told Is IsNow (Err end) so told = told-on Is IsNow end so told

-- what is told of this group of a refusal
abbrev pub First : List Refusal → Noted → Refusal → Type 0
First group noted refusal = TellsFirst group noted (stop.Refused refusal)

-- what is told of this group, or of the refusal alone
abbrev pub FirstOf : List Refusal → Noted → Refusal → Type 0
FirstOf group noted refusal = TellsFirst (or_group group (refusal ∷ [])) noted (stop.Refused refusal)
