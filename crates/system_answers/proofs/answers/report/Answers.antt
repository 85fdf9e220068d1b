use Rattle.system_answers.specs.Voices.{voices_of}
use Rattle.system_answers.proofs.Reported.{told}
use Rattle.system_answers.proofs.answers.report.Goals as goal

pub returns-clause-text : goal.returns-clause-text
returns-clause-text g c =
    let voices = voices_of (λ b. (goal.Report-dyn g (b.vtable, b.value)).label b.value) (λ b. (goal.Report-dyn g (b.vtable, b.value)).text b.value) c.args.reports.now.items in
    told c.args.target.now c.args.chosen.now c.args.max_order voices c.args.system.now _ c.in_ok-number.number c.in_ok-part.part c.text_of_reports.result c.in_ok-number.ensures c.in_ok-part.ensures c.text_of_reports.ensures.text c.text_of_reports.ensures.failed
