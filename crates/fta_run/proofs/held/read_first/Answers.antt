use Rattle.std.proofs.Common.{◌∙◌, ◌≡◌, [], List, ℕ, sym, subst}
use Rattle.system_answers.specs.Voices.{labels, voices_of}
use Rattle.fta_run.proofs.Read.{some_are, some_read}
use Rattle.fta_run.proofs.held.read_first.Goals as goal

pub returns-then-is_empty-clause-named : goal.returns-then-is_empty-clause-named
returns-then-is_empty-clause-named g c =
    c.in_ok-names.ensures.names

pub returns-in_err-texts-clause-no_files : goal.returns-in_err-texts-clause-no_files
returns-in_err-texts-clause-no_files g c = λ none.
    let some = some_read (labels (voices_of (λ b. (goal.Report-dyn g (b.vtable, b.value)).label b.value) (λ b. (goal.Report-dyn g (b.vtable, b.value)).text b.value) c.args.reports.now.items)) c.args.words.now c.in_ok-names.names c.in_ok-names.ensures.names (subst (λ (names : List (List ℕ)). names ≡ [] → ⊥) c.items.ensures.items (some_are c.items.result.now (sym c.is_empty.ensures ∙ c.if-is_empty.false))) in
    absurd (none some.0.0 some.0.1)

pub returns-clause-no_files : goal.returns-clause-no_files
returns-clause-no_files g c = λ none.
    let some = some_read (labels (voices_of (λ b. (goal.Report-dyn g (b.vtable, b.value)).label b.value) (λ b. (goal.Report-dyn g (b.vtable, b.value)).text b.value) c.args.reports.now.items)) c.args.words.now c.in_ok-names.names c.in_ok-names.ensures.names (subst (λ (names : List (List ℕ)). names ≡ [] → ⊥) c.items.ensures.items (some_are c.items.result.now (sym c.is_empty.ensures ∙ c.if-is_empty.false))) in
    absurd (none some.0.0 some.0.1)
