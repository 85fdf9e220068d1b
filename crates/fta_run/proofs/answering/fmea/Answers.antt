use Rattle.std.proofs.Common.{List, ℕ, codes, false, true, sym, ◌∙◌, subst}
use Rattle.phases.specs.inner.Meets.{IsMemory, MeetsBut}
use Rattle.fta_run.specs.Due.{fmea_in, table_in}
use Rattle.fta_run.specs.Words.{is_set}
use Rattle.fta_run.specs.inner.Ready.{ready_text}
use Rattle.fta_run.proofs.answering.fmea.Goals as goal

pub returns-then-is_set : goal.returns-then-is_set
returns-then-is_set c =
    let options = c.args.options.now in
    subst (λ sheet. MeetsBut IsMemory ready_text (fmea_in sheet c.args.profile c.args.root.now (is_set options (codes "all")) c.args.names.now c.args.texts) c.sheet.result) (sym (sym c.is_set.ensures ∙ c.if-is_set.true)) c.sheet.ensures

pub returns : goal.returns
returns c =
    let options = c.args.options.now in
    subst (λ sheet. MeetsBut IsMemory ready_text (fmea_in sheet c.args.profile c.args.root.now (is_set options (codes "all")) c.args.names.now c.args.texts) c.table.result) (sym (sym c.is_set.ensures ∙ c.if-is_set.false))
    (subst (λ all. MeetsBut IsMemory ready_text (table_in c.args.profile c.args.root.now all c.args.texts) c.table.result) c.is_set-2.ensures c.table.ensures)
