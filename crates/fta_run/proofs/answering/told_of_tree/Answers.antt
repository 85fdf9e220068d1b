use Rattle.std.proofs.Common.{Bool, codes, false, true, sym, ◌∙◌, subst}
use Rattle.phases.specs.inner.Meets.{IsMemory, MeetsBut}
use Rattle.system_answers.specs.Texts.{galileo_probability_text}
use Rattle.fta_run.specs.Due.{first_text, sets_of_tree, told_of_tree}
use Rattle.fta_run.specs.Forms.{is_wide}
use Rattle.fta_run.specs.Words.{is_set}
use Rattle.fta_run.specs.inner.Ready.{held_text}
use Rattle.fta_run.proofs.answering.told_of_tree.Goals as goal

pub returns-then-is_set : goal.returns-then-is_set
returns-then-is_set c =
    let options = c.args.options.now in
    let text = first_text c.args.texts in
    subst (λ told. MeetsBut IsMemory held_text (told_of_tree told options text) c.probability_of_tree.result) (sym (sym c.is_set.ensures ∙ c.if-is_set.true))
    (subst (λ (flag : Bool). MeetsBut IsMemory held_text (galileo_probability_text (is_wide options.form) options.hours flag options.paging.max_order text) c.probability_of_tree.result) c.is_set-then-is_set.ensures
    (subst (λ (wide : Bool). MeetsBut IsMemory held_text (galileo_probability_text wide options.hours c.is_set-then-is_set.result options.paging.max_order text) c.probability_of_tree.result) c.is_wide-wide.ensures c.probability_of_tree.ensures))

pub returns : goal.returns
returns c =
    let options = c.args.options.now in
    let text = first_text c.args.texts in
    subst (λ told. MeetsBut IsMemory held_text (told_of_tree told options text) c.sets_of_tree.result) (sym (sym c.is_set.ensures ∙ c.if-is_set.false))
    (subst (λ (wide : Bool). MeetsBut IsMemory held_text (sets_of_tree (is_set options (codes "paths")) wide options.paging.limit options.paging.max_order text) c.sets_of_tree.result) c.is_wide-wide.ensures
    (subst (λ (flag : Bool). MeetsBut IsMemory held_text (sets_of_tree flag c.is_wide-wide.result options.paging.limit options.paging.max_order text) c.sets_of_tree.result) c.is_set-paths.ensures c.sets_of_tree.ensures))
