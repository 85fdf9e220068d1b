use Rattle.std.proofs.Common.{sym, subst, ◌∙◌}
use Rattle.std.proofs.lemmas.List.{take_all}
use Rattle.std.specs.HashMap.{get}
use Rattle.package_index.specs.inner.Tables.{same_words}
use Rattle.package_index.proofs.Loops.{any-more}
use Rattle.propagation_links.specs.inner.Tables.{PutsAt}
use Rattle.propagation_links.proofs.FittingLaws.{HasPut, put-all, put-more}
use Rattle.propagation_links.proofs.fitting.add_binding.Goals as goal

pub loop-target-preserved : goal.loop-target-preserved
loop-target-preserved c =
    let targets = c.items-target-items.result.now in
    let k = c.loop-target.target-index in
    let one = c.target-item.result in
    put-more (get same_words c.args.fitting.now) (get same_words c.loop-target.fitting) (get same_words c.put.new.fitting) _ _ one c.args.binding.now
    (λ p. any-more targets k one c.loop-target-test.true c.target-item.is p) c.loop-target.invariant
    (subst (λ target. PutsAt (get same_words c.loop-target.fitting) (get same_words c.put.new.fitting) target c.args.binding.now) c.items.ensures.items c.in_ok-put.ensures)

pub returns : goal.returns
returns c =
    let targets = c.items-target-items.result.now in
    put-all c.args.kind (get same_words c.args.fitting.now) (get same_words c.loop-target.fitting) targets c.args.binding.now c.items-target-items.ensures.items (sym c.if-not-is_of.false ∙ c.is_of.ensures)
    (subst (λ all. HasPut (get same_words c.args.fitting.now) (get same_words c.loop-target.fitting) all c.args.binding.now) (take_all c.loop-target.target-index targets c.loop-target-test.false) c.loop-target.invariant)
