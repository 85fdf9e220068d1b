use Rattle.std.proofs.Common.{[], ◌∷◌, ◌++◌, cond, sym, ap, ◌∙◌, take}
use Rattle.std.proofs.lemmas.List.{append_assoc}
use Rattle.plain_values.specs.Numbered.{numbered_from}
use Rattle.package_index.proofs.Loops.{numbered-more}
use Rattle.error_libraries.specs.Libraries.{counted}
use Rattle.error_libraries.proofs.numbers.add_types.Goals as goal

pub loop-place-preserved : goal.loop-place-preserved
loop-place-preserved c =
    let give = counted c.args.each c.args.number c.args.items.now in
    c.in_ok-push_if.ensures
    ∙ (λ i. c.loop-place.invariant i ++ cond (c.is_counted.ensures i) (record { «package» = c.args.number; item = c.loop-place.place } ∷ []) [])
    ∙ append_assoc c.args.types.now (numbered_from give 0 (take c.loop-place.place c.args.items.now)) (give c.loop-place.place c.index-items-place.result)
    ∙ ap (λ more. c.args.types.now ++ more) (sym (numbered-more give c.args.items.now c.loop-place.place c.index-items-place.result c.loop-place-test.true c.index-items-place.is))
