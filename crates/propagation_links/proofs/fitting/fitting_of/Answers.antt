use Rattle.std.proofs.Common.{subst, sym}
use Rattle.std.proofs.lemmas.List.{take_all}
use Rattle.std.specs.HashMap.{get}
use Rattle.package_index.specs.inner.Tables.{same_words}
use Rattle.propagation_links.specs.inner.Tables.{KnowsBindings}
use Rattle.propagation_links.proofs.FittingLaws.{front-more, knows-more}
use Rattle.propagation_links.proofs.fitting.fitting_of.Goals as goal

pub loop-binding-preserved : goal.loop-binding-preserved
loop-binding-preserved c =
    let list = c.args.list.now in
    let k = c.loop-binding.binding-index in
    let one = c.binding-item.result in
    subst (λ xs. KnowsBindings c.args.kind xs (get same_words c.add_binding.new.fitting)) (sym (front-more list k one c.loop-binding-test.true c.binding-item.is))
    (knows-more c.args.kind _ one (get same_words c.loop-binding.fitting) (get same_words c.add_binding.new.fitting) c.loop-binding.invariant c.in_ok-add_binding.ensures)

pub returns : goal.returns
returns c = subst (λ xs. KnowsBindings c.args.kind xs (get same_words c.loop-binding.fitting)) (take_all c.loop-binding.binding-index c.args.list.now c.loop-binding-test.false) c.loop-binding.invariant
