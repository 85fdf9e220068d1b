use Rattle.std.proofs.Common.{◌≡◌, Some, [], cond, flat_map, ap, ◌∙◌}
use Rattle.noted_refusals.specs.inner.Noted.{noting}
use Rattle.error_libraries.specs.Libraries.{unknown_libraries}
use Rattle.error_types.specs.Types.{text_scope}
use Rattle.noted_refusals.proofs.Laws.{noted-two}
use Rattle.used_sets.specs.Used.{is_some_set, set_fault}
use Rattle.used_sets.proofs.faults.note_machine_sets.Goals as goal

pub returns-clause-noted : goal.returns-clause-noted
returns-clause-noted c =
    let table = c.args.reading.now.types in
    let machine = c.args.machine.now in
    let sets = c.args.sets.now in
    let uses : c.items-uses.result.now ≡ machine.item.uses = c.items-uses.ensures.items ∙ ap (λ decl. decl.uses) c.decl.ensures in
    let scope : c.in_ok-scope.scope ≡ text_scope table.packages machine.«package» machine.item.uses = c.in_ok-scope.ensures ∙ (λ i. text_scope table.packages (c.package-2.ensures i) (uses i)) in
    noted-two c.args.reading.now.refusals c.note_unknown_if.new.refusals c.note_sets.new.reading.refusals
    (cond (is_some_set sets) (unknown_libraries table.packages machine.«package» machine.item.uses) []) (flat_map (set_fault table (Some (text_scope table.packages machine.«package» machine.item.uses))) sets)
    (c.note_unknown_if.ensures ∙ (λ i. noting c.args.reading.now.refusals (cond (c.is_some_set.ensures i) (unknown_libraries table.packages (c.package.ensures i) (uses i)) [])))
    (c.in_ok-note_sets.ensures.noted ∙ ap (λ text. noting c.note_unknown_if.new.refusals (flat_map (set_fault table (Some text)) sets)) scope)
