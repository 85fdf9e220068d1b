use Rattle.std.proofs.Common.{◌++◌, ◌∙◌, List, ap, subst}
use Rattle.fault_system.proofs.Elements.{contains_In}
use Rattle.fault_system.proofs.NumberSets.{contained-in_set}
use Rattle.fault_system.proofs.RoundLaws.{table-rounds}
use Rattle.fault_system.specs.Rounds.{no_event}
use Rattle.fmea_rows.specs.inner.Tables.{IsRight, changed, changed_rows}
use Rattle.fmea_rows.specs.declared.change.Change.{Change}
use Rattle.fmea_rows.proofs.TableLaws.{changed-rows, table-rows}
use Rattle.fmea_rows.proofs.table.add_felt.Goals as goal

pub returns-then-is_right-clause-rows : goal.returns-then-is_right-clause-rows
returns-then-is_right-clause-rows c =
    let system = c.args.asked.now.system.now in
    let effects = c.args.asked.now.effects.now in
    let known = c.args.known.now in
    let changes : List Change = c.in_ok-changes.changes.items in
    let right : IsRight system effects c.args.event known.base c.in_ok-changes.changes.items = subst (IsRight system effects c.args.event known.base) c.as_slice.ensures.value (c.is_right.ensures.right c.if-is_right.true) in
    c.in_ok-add_changed.ensures ∙ ap (λ (cs : List Change). c.args.rows.now ++ changed_rows known c.args.event cs) c.as_slice-then-is_right.ensures.value
    ∙ ap (λ rows. c.args.rows.now ++ rows) (changed-rows system effects known c.args.event c.in_ok-changes.changes.items c.requires.known c.requires.rise right
    ∙ table-rows system c.args.event known.base (changed known.base c.in_ok-changes.changes.items) effects
    (λ n i. (table-rounds system no_event known.base c.requires.known.base).each n)
    (λ n i. right.rounds n (contained-in_set effects n (contains_In n effects i))))
