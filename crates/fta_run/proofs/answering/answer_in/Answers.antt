use Rattle.std.proofs.Common.{Bool, codes, inl, sym, subst, ◌∙◌}
use Rattle.cut_reports.specs.Feeding.{RoseAt}
use Rattle.fta_words.specs.inner.Shown.{request_shown}
use Rattle.phases.specs.inner.Meets.{IsMemory, MeetsBut}
use Rattle.profiles.specs.declared.profile.Profile.{Profile}
use Rattle.system_answers.specs.inner.Ends.{EndsReports}
use Rattle.system_answers.specs.Voices.{voices_of}
use Rattle.system_answers.proofs.Reported.{all_kept}
use Rattle.fta_run.specs.Due.{required_in, text_by}
use Rattle.fta_run.specs.inner.Texts.{text_for}
use Rattle.fta_run.specs.Words.{is_set}
use Rattle.fta_run.specs.inner.Ready.{answer_output}
use Rattle.fta_run.proofs.Ran.{all_met, by_profile, lines_kept, none_by_lines, output_plain, output_told}
use Rattle.fta_run.proofs.answering.answer_in.Goals as goal

pub returns-then-is_require-clause-text : goal.returns-then-is_require-clause-text
returns-then-is_require-clause-text g c =
    let asked = c.args.asked.now in
    let voices = voices_of (λ b. (goal.Report-dyn g (b.vtable, b.value)).label b.value) (λ b. (goal.Report-dyn g (b.vtable, b.value)).text b.value) c.args.reports.now.items in
    output_told _ voices (request_shown asked) c.args.texts c.required_answer.result (sym c.is_require.ensures ∙ c.if-is_require.true) (λ s memory. inl memory)
    (subst (λ (profile : Profile). MeetsBut IsMemory answer_output (required_in profile asked.root (is_set (request_shown asked).options (codes "tap")) c.args.texts) c.required_answer.result) c.profile_of-profile.ensures c.required_answer.ensures.text)

pub returns-then-is_require-clause-by_lines : goal.returns-then-is_require-clause-by_lines
returns-then-is_require-clause-by_lines g c = none_by_lines c.required_answer.result _ c.required_answer.ensures.by_lines

pub returns-then-is_require-clause-reports : goal.returns-then-is_require-clause-reports
returns-then-is_require-clause-reports g c = all_kept (λ b. (goal.Report-dyn g (b.vtable, b.value)).text b.value) (λ b. (goal.Report-dyn g (b.vtable, b.value)).label b.value) (λ b. (goal.Report-dyn g (b.vtable, b.value)).report_faults b.value) _ c.args.reports.now.items

pub returns-clause-text : goal.returns-clause-text
returns-clause-text g c =
    let asked = c.args.asked.now in
    let voices = voices_of (λ b. (goal.Report-dyn g (b.vtable, b.value)).label b.value) (λ b. (goal.Report-dyn g (b.vtable, b.value)).text b.value) c.args.reports.now.items in
    output_plain _ voices (request_shown asked) c.args.texts c.with_all_met.result (sym c.is_require.ensures ∙ c.if-is_require.false)
    (all_met _ (text_for asked.kind voices (request_shown asked) c.args.texts) c.answer_by.result c.with_all_met.result c.with_all_met.ensures
    (by_profile (EndsReports asked.options.chosen (λ place. RoseAt (λ b. (goal.Report-dyn g (b.vtable, b.value)).report_faults b.value) place c.args.reports.now.items c.answer_by.new.reports.items))
    (λ profile. text_by profile asked.kind voices (request_shown asked) c.args.texts) c.answer_by.result c.profile_of-profile.result _ c.profile_of-profile.ensures c.answer_by.ensures.text))

pub returns-clause-by_lines : goal.returns-clause-by_lines
returns-clause-by_lines g c = lines_kept c.answer_by.result c.with_all_met.result _ c.with_all_met.ensures c.answer_by.ensures.by_lines
