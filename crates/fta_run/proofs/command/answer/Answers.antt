use Rattle.std.proofs.Common.{◌∙◌, ◌≡◌, ◌<◌, ◌⊎◌, List, ℕ, Result, Ok, Err, length, sym, ap, subst}
use lib.ListN.{length-map}
use Rattle.plain_values.specs.Rising.{RisesWithin}
use Rattle.phases.specs.Phases.{Passes, Stops, finds}
use Rattle.plain_values.specs.Refusal.{of_words}
use Rattle.plain_values.specs.declared.refusal.Code.TheVariants.{TooManyFiles}
use Rattle.phases.specs.declared.status.Status.{Status}
use Rattle.phases.specs.declared.status.Status.TheVariants.{Refused, Usage}
use Rattle.phases.proofs.Steps.{exits}
use Rattle.fta_words.specs.inner.Shown.{request_shown}
use Rattle.fta_run.specs.Words.{IsRequest}
use Rattle.fta_run.specs.Due.{texts_of}
use Rattle.fta_run.specs.Files.{most_files}
use Rattle.fta_run.specs.inner.Held.{IsReadEnd}
use Rattle.system_answers.specs.Voices.{labels, voices_of}
use Rattle.system_answers.proofs.Reported.{labels_are, names_kept}
use Rattle.cut_reports.specs.Feeding.{IsKept}
use Rattle.fta_run.proofs.Chosen.{places_rise}
use Rattle.fta_run.proofs.Ran.{answered, kept_as, lines_asked, many_answer, many_named, ok_not_err, unasked, unread}
use Rattle.fta_run.proofs.command.answer.Goals as goal

pub answer_in-requires : goal.answer_in-requires
answer_in-requires g c =
    let reports = c.args.reports.now in
    let count : length c.items.result.now ≡ length reports.items = ap length (c.items.ensures.items ∙ c.in_ok-names.ensures) ∙ length-map reports.items (λ b. (goal.Report-dyn g (b.vtable, b.value)).label b.value) in
    record { chosen = subst (λ many. RisesWithin 0 many c.in_ok-asked.asked.options.chosen) (count ∙ sym reports.ok.0) (places_rise c.items.result.now c.args.words.now (request_shown c.in_ok-asked.asked) c.in_ok-asked.ensures.passed) }

pub returns-in_err-asked-clause-text : goal.returns-in_err-asked-clause-text
returns-in_err-asked-clause-text g c =
    let reports = c.args.reports.now.items in
    let voices = voices_of (λ b. (goal.Report-dyn g (b.vtable, b.value)).label b.value) (λ b. (goal.Report-dyn g (b.vtable, b.value)).text b.value) reports in
    let names : c.items.result.now ≡ labels voices = c.items.ensures.items ∙ c.in_ok-names.ensures ∙ sym (labels_are (λ b. (goal.Report-dyn g (b.vtable, b.value)).label b.value) (λ b. (goal.Report-dyn g (b.vtable, b.value)).text b.value) reports) in
    exits _ _ _ _ _ c.from_residual-in_err-asked.ensures.1 (unasked c.args.words.now (g.F.Files.contents c.args.files.now) voices _ _ _ c.items.result.now c.in_err-asked.field-0.0 names c.in_err-asked.ensures)

pub returns-in_err-texts-clause-text : goal.returns-in_err-texts-clause-text
returns-in_err-texts-clause-text g c =
    let reports = c.args.reports.now.items in
    let voices = voices_of (λ b. (goal.Report-dyn g (b.vtable, b.value)).label b.value) (λ b. (goal.Report-dyn g (b.vtable, b.value)).text b.value) reports in
    let names : c.items.result.now ≡ labels voices = c.items.ensures.items ∙ c.in_ok-names.ensures ∙ sym (labels_are (λ b. (goal.Report-dyn g (b.vtable, b.value)).label b.value) (λ b. (goal.Report-dyn g (b.vtable, b.value)).text b.value) reports) in
    let asked = request_shown c.in_ok-asked.asked in
    let given = subst (λ its. Passes (finds (IsRequest its c.args.words.now) Usage) asked) names c.in_ok-asked.ensures in
    let end = subst (λ (files : List (List ℕ)). Stops (texts_of (g.F.Files.contents c.args.files.now) files) c.in_err-texts.field-0.0 ⊎ IsReadEnd files (g.F.Files.faults c.args.files.now) (g.F.Files.faults c.read_texts.new.files) c.in_err-texts.field-0.0) c.items-2.ensures.items c.in_err-texts.ensures.meets in
    exits _ _ _ _ _ c.from_residual-in_err-texts.ensures.1 (unread c.args.words.now (g.F.Files.contents c.args.files.now) voices _ _ _ asked c.in_err-texts.field-0.0 given end)

pub returns-clause-text : goal.returns-clause-text
returns-clause-text g c =
    let reports = c.args.reports.now.items in
    let voices = voices_of (λ b. (goal.Report-dyn g (b.vtable, b.value)).label b.value) (λ b. (goal.Report-dyn g (b.vtable, b.value)).text b.value) reports in
    let names : c.items.result.now ≡ labels voices = c.items.ensures.items ∙ c.in_ok-names.ensures ∙ sym (labels_are (λ b. (goal.Report-dyn g (b.vtable, b.value)).label b.value) (λ b. (goal.Report-dyn g (b.vtable, b.value)).text b.value) reports) in
    let asked = request_shown c.in_ok-asked.asked in
    let given = subst (λ its. Passes (finds (IsRequest its c.args.words.now) Usage) asked) names c.in_ok-asked.ensures in
    let read = subst (λ (files : List (List ℕ)). Passes (texts_of (g.F.Files.contents c.args.files.now) files) c.in_ok-texts.texts) c.items-2.ensures.items c.in_ok-texts.ensures.meets in
    answered c.args.words.now (g.F.Files.contents c.args.files.now) voices _ _ _ asked c.in_ok-texts.texts c.answer_in.result given read c.answer_in.ensures.text

pub returns-clause-by_lines : goal.returns-clause-by_lines
returns-clause-by_lines g c =
    let reports = c.args.reports.now.items in
    let voices = voices_of (λ b. (goal.Report-dyn g (b.vtable, b.value)).label b.value) (λ b. (goal.Report-dyn g (b.vtable, b.value)).text b.value) reports in
    let names : c.items.result.now ≡ labels voices = c.items.ensures.items ∙ c.in_ok-names.ensures ∙ sym (labels_are (λ b. (goal.Report-dyn g (b.vtable, b.value)).label b.value) (λ b. (goal.Report-dyn g (b.vtable, b.value)).text b.value) reports) in
    let asked = request_shown c.in_ok-asked.asked in
    let given = subst (λ its. Passes (finds (IsRequest its c.args.words.now) Usage) asked) names c.in_ok-asked.ensures in
    lines_asked c.args.words.now voices asked c.answer_in.result given c.answer_in.ensures.by_lines

pub returns-clause-reports : goal.returns-clause-reports
returns-clause-reports g c asked is =
    let reports = c.args.reports.now.items in
    let voices = voices_of (λ b. (goal.Report-dyn g (b.vtable, b.value)).label b.value) (λ b. (goal.Report-dyn g (b.vtable, b.value)).text b.value) reports in
    let names : c.items.result.now ≡ labels voices = c.items.ensures.items ∙ c.in_ok-names.ensures ∙ sym (labels_are (λ b. (goal.Report-dyn g (b.vtable, b.value)).label b.value) (λ b. (goal.Report-dyn g (b.vtable, b.value)).text b.value) reports) in
    let mine = request_shown c.in_ok-asked.asked in
    let given = subst (λ its. Passes (finds (IsRequest its c.args.words.now) Usage) mine) names c.in_ok-asked.ensures in
    kept_as (IsKept (λ b. (goal.Report-dyn g (b.vtable, b.value)).text b.value) (λ b. (goal.Report-dyn g (b.vtable, b.value)).label b.value) (λ b. (goal.Report-dyn g (b.vtable, b.value)).report_faults b.value)) (labels voices) c.args.words.now mine asked reports c.answer_in.new.reports.items given c.answer_in.ensures.reports is

pub returns-clause-no_reports : goal.returns-clause-no_reports
returns-clause-no_reports g c none =
    let reports = c.args.reports.now.items in
    let voices = voices_of (λ b. (goal.Report-dyn g (b.vtable, b.value)).label b.value) (λ b. (goal.Report-dyn g (b.vtable, b.value)).text b.value) reports in
    let names : c.items.result.now ≡ labels voices = c.items.ensures.items ∙ c.in_ok-names.ensures ∙ sym (labels_are (λ b. (goal.Report-dyn g (b.vtable, b.value)).label b.value) (λ b. (goal.Report-dyn g (b.vtable, b.value)).text b.value) reports) in
    let asked = request_shown c.in_ok-asked.asked in
    absurd (none asked (subst (λ its. IsRequest its c.args.words.now asked) names c.in_ok-asked.ensures.passed))

pub returns-clause-no_files : goal.returns-clause-no_files
returns-clause-no_files g c none =
    let reports = c.args.reports.now.items in
    let voices = voices_of (λ b. (goal.Report-dyn g (b.vtable, b.value)).label b.value) (λ b. (goal.Report-dyn g (b.vtable, b.value)).text b.value) reports in
    let names : c.items.result.now ≡ labels voices = c.items.ensures.items ∙ c.in_ok-names.ensures ∙ sym (labels_are (λ b. (goal.Report-dyn g (b.vtable, b.value)).label b.value) (λ b. (goal.Report-dyn g (b.vtable, b.value)).text b.value) reports) in
    let asked = request_shown c.in_ok-asked.asked in
    absurd (none asked (subst (λ its. IsRequest its c.args.words.now asked) names c.in_ok-asked.ensures.passed))

pub returns-in_err-texts-clause-no_files : goal.returns-in_err-texts-clause-no_files
returns-in_err-texts-clause-no_files g c none =
    let reports = c.args.reports.now.items in
    let voices = voices_of (λ b. (goal.Report-dyn g (b.vtable, b.value)).label b.value) (λ b. (goal.Report-dyn g (b.vtable, b.value)).text b.value) reports in
    let names : c.items.result.now ≡ labels voices = c.items.ensures.items ∙ c.in_ok-names.ensures ∙ sym (labels_are (λ b. (goal.Report-dyn g (b.vtable, b.value)).label b.value) (λ b. (goal.Report-dyn g (b.vtable, b.value)).text b.value) reports) in
    let asked = request_shown c.in_ok-asked.asked in
    absurd (none asked (subst (λ its. IsRequest its c.args.words.now asked) names c.in_ok-asked.ensures.passed))

pub returns-in_err-texts-clause-too_many : goal.returns-in_err-texts-clause-too_many
returns-in_err-texts-clause-too_many g c many = c.in_err-texts.ensures.unread (subst (λ (files : List (List ℕ)). most_files < length files) (sym c.items-2.ensures.items) (many_named c.items.result.now c.args.words.now (request_shown c.in_ok-asked.asked) c.in_ok-asked.ensures many))

pub returns-clause-too_many : goal.returns-clause-too_many
returns-clause-too_many g c many = c.in_ok-texts.ensures.unread (subst (λ (files : List (List ℕ)). most_files < length files) (sym c.items-2.ensures.items) (many_named c.items.result.now c.args.words.now (request_shown c.in_ok-asked.asked) c.in_ok-asked.ensures many))

pub returns-clause-names : goal.returns-clause-names
returns-clause-names g c = names_kept (λ b. (goal.Report-dyn g (b.vtable, b.value)).text b.value) (λ b. (goal.Report-dyn g (b.vtable, b.value)).label b.value) (λ b. (goal.Report-dyn g (b.vtable, b.value)).report_faults b.value) c.in_ok-asked.asked.options.chosen c.args.reports.now.items c.answer_in.new.reports.items c.answer_in.ensures.reports

-- the status with which something stopped
abbrev status_of : {T : Type 0} → Status → Result T Status → Status
status_of other (Ok value) = other
status_of other (Err status) = status

pub returns-in_err-texts-clause-many : goal.returns-in_err-texts-clause-many
returns-in_err-texts-clause-many g c many =
    let status = c.in_err-texts.field-0.0 in
    let files = subst (λ (files : List (List ℕ)). most_files < length files) (sym c.items-2.ensures.items) (many_named c.items.result.now c.args.words.now (request_shown c.in_ok-asked.asked) c.in_ok-asked.ensures many) in
    let its : status ≡ Refused (of_words TooManyFiles) = ap (status_of status) (c.in_err-texts.ensures.many files) in
    many_answer c.from_residual-in_err-texts.result status c.from_residual-in_err-texts.ensures.1 its

pub returns-clause-many : goal.returns-clause-many
returns-clause-many g c many = absurd (ok_not_err _ _ (c.in_ok-texts.ensures.many (subst (λ (files : List (List ℕ)). most_files < length files) (sym c.items-2.ensures.items) (many_named c.items.result.now c.args.words.now (request_shown c.in_ok-asked.asked) c.in_ok-asked.ensures many))))
