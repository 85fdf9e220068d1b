use Rattle.std.proofs.Common.{List, ℕ, codes, false, true, sym, ◌∙◌, subst}
use Rattle.phases.specs.inner.Meets.{IsMemory, MeetsBut}
use Rattle.system_answers.specs.Texts.{drawn_text}
use Rattle.fta_run.specs.Due.{first_text, galileo_in, told_of_tree}
use Rattle.fta_run.specs.Forms.{drawn_words, is_exchanged, is_wide, picture_legend}
use Rattle.fta_run.specs.Words.{is_set}
use Rattle.fta_run.specs.inner.Ready.{ready_text}
use Rattle.fta_run.proofs.Ran.{held_is, lines_where, ready_held}
use Rattle.fta_run.proofs.answering.galileo.Goals as goal

pub returns-then-is_drawn-clause-text : goal.returns-then-is_drawn-clause-text
returns-then-is_drawn-clause-text c =
    let options = c.args.options.now in
    let names = c.args.names.now in
    let texts = c.args.texts in
    subst (λ drawn. MeetsBut IsMemory ready_text (galileo_in drawn options names texts) c.picture.result) (sym (sym c.is_drawn.ensures ∙ c.if-is_drawn.true))
    (subst (λ merged. MeetsBut IsMemory ready_text (drawn_text (is_wide options.form) (is_exchanged options.form) merged (picture_legend (drawn_words merged) names texts) (first_text texts)) c.picture.result) c.is_merging-merged.ensures
    (subst (λ exchanged. MeetsBut IsMemory ready_text (drawn_text (is_wide options.form) exchanged c.is_merging-merged.result (picture_legend (drawn_words c.is_merging-merged.result) names texts) (first_text texts)) c.picture.result) c.is_exchanged-exchanged.ensures
    (subst (λ wide. MeetsBut IsMemory ready_text (drawn_text wide c.is_exchanged-exchanged.result c.is_merging-merged.result (picture_legend (drawn_words c.is_merging-merged.result) names texts) (first_text texts)) c.picture.result) c.is_wide-wide.ensures c.picture.ensures)))

pub returns-then-is_drawn-clause-by_lines : goal.returns-then-is_drawn-clause-by_lines
returns-then-is_drawn-clause-by_lines c = lines_where c.picture.result _ (sym c.is_drawn.ensures ∙ c.if-is_drawn.true)

pub returns-clause-text : goal.returns-clause-text
returns-clause-text c =
    let options = c.args.options.now in
    let texts = c.args.texts in
    subst (λ drawn. MeetsBut IsMemory ready_text (galileo_in drawn options c.args.names.now texts) c.ready_of.result) (sym (sym c.is_drawn.ensures ∙ c.if-is_drawn.false))
    (ready_held IsMemory (told_of_tree (is_set options (codes "probability")) options (first_text texts)) c.told_of_tree.result c.ready_of.result c.ready_of.ensures (λ s memory. memory) c.told_of_tree.ensures)

pub returns-clause-by_lines : goal.returns-clause-by_lines
returns-clause-by_lines c = held_is _ c.told_of_tree.result c.ready_of.result c.ready_of.ensures
