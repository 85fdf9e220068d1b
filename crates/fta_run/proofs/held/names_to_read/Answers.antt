use Rattle.std.proofs.Common.{◌≡◌, ◌∙◌, List, ℕ, sym, subst, inl, inr}
use Rattle.system_answers.proofs.Reported.{labels_are}
use Rattle.fta_words.specs.inner.Shown.{request_shown}
use Rattle.fta_run.specs.Words.{GiveNoRequest}
use Rattle.fta_run.specs.inner.Held.{IsToRead}
use Rattle.fta_run.proofs.Read.{asked_read}
use Rattle.fta_run.proofs.held.names_to_read.Goals as goal

pub returns-in-Ok-clause-names : goal.returns-in-Ok-clause-names
returns-in-Ok-clause-names g c =
    let names = c.items.ensures.items ∙ c.in_ok-names.ensures ∙ sym (labels_are (λ b. (goal.Report-dyn g (b.vtable, b.value)).label b.value) (λ b. (goal.Report-dyn g (b.vtable, b.value)).text b.value) c.args.reports.now.items) in
    subst (λ (its : List (List ℕ)). IsToRead its c.args.words.now c.if_few.result) names
    (subst (IsToRead c.items.result.now c.args.words.now) (sym c.if_few.ensures) (asked_read c.items.result.now c.args.words.now (request_shown c.in-Ok.asked) c.in-Ok.ensures.passed))

pub returns-in-Err-Usage-clause-names : goal.returns-in-Err-Usage-clause-names
returns-in-Err-Usage-clause-names g c =
    let names = c.items.ensures.items ∙ c.in_ok-names.ensures ∙ sym (labels_are (λ b. (goal.Report-dyn g (b.vtable, b.value)).label b.value) (λ b. (goal.Report-dyn g (b.vtable, b.value)).text b.value) c.args.reports.now.items) in
    let none : GiveNoRequest c.items.result.now c.args.words.now = elim c.in-Err-Usage.ensures [ inl stops ↦ stops.stopped.1 | inr memory ↦ absurd (cc (memory, c.in-Err-Usage.field-0-is)) ] in
    inl (c.new.ensures, inl (subst (λ (its : List (List ℕ)). GiveNoRequest its c.args.words.now) names none))
