use Rattle.std.proofs.Common.{◌≡◌, ◌++◌, OnOk, flat_map, subst, sym, ap, ◌∙◌}
use Rattle.used_sets.specs.Sets.{condition_sets}
use Rattle.used_sets.proofs.SetLaws.{sets-All, sets-Any, sets-AtLeast, sets-AtMost}
use Rattle.used_sets.proofs.conditions.+condition.Goals as goal

pub add_condition-returns-in-All : goal.add_condition-returns-in-All
add_condition-returns-in-All t c =
    subst (λ sets. OnOk c.add_conditions.result (c.add_conditions.new.sets ≡ c.args.sets.now ++ sets))
    (ap (flat_map condition_sets) c.items.ensures.items ∙ sym (sets-All c.in-All.parts) ∙ ap condition_sets (sym c.in-All.is)) c.add_conditions.ensures

pub add_condition-returns-in-Any : goal.add_condition-returns-in-Any
add_condition-returns-in-Any t c =
    subst (λ sets. OnOk c.add_conditions-in-Any.result (c.add_conditions-in-Any.new.sets ≡ c.args.sets.now ++ sets))
    (ap (flat_map condition_sets) c.items-in-Any.ensures.items ∙ sym (sets-Any c.in-Any.parts) ∙ ap condition_sets (sym c.in-Any.is)) c.add_conditions-in-Any.ensures

pub add_condition-returns-in-AtLeast : goal.add_condition-returns-in-AtLeast
add_condition-returns-in-AtLeast t c =
    subst (λ sets. OnOk c.add_conditions-in-AtLeast.result (c.add_conditions-in-AtLeast.new.sets ≡ c.args.sets.now ++ sets))
    (ap (flat_map condition_sets) c.items-in-AtLeast.ensures.items ∙ sym (sets-AtLeast c.in-AtLeast.field-0 c.in-AtLeast.parts) ∙ ap condition_sets (sym c.in-AtLeast.is)) c.add_conditions-in-AtLeast.ensures

pub add_condition-returns-in-AtMost : goal.add_condition-returns-in-AtMost
add_condition-returns-in-AtMost t c =
    subst (λ sets. OnOk c.add_conditions-in-AtMost.result (c.add_conditions-in-AtMost.new.sets ≡ c.args.sets.now ++ sets))
    (ap (flat_map condition_sets) c.items-in-AtMost.ensures.items ∙ sym (sets-AtMost c.in-AtMost.field-0 c.in-AtMost.parts c.in-AtMost.field-2) ∙ ap condition_sets (sym c.in-AtMost.is)) c.add_conditions-in-AtMost.ensures
