use Rattle.std.proofs.Common.{[], ◌++◌, flat_map, refl, subst, take}
use Rattle.std.proofs.lemmas.List.{take_all}
use Rattle.std.specs.HashMap.{get}
use Rattle.package_index.specs.inner.Tables.{same_words}
use Rattle.package_index.proofs.Loops.{gathered-more}
use Rattle.event_rates.specs.Associations.{other_names}
use Rattle.event_rates.specs.inner.Fitting.{PutsAtEach}
use Rattle.event_rates.proofs.FittingLaws.{put-both}
use Rattle.event_rates.proofs.table.put_others.Goals as goal

pub loop-other-preserved : goal.loop-other-preserved
loop-other-preserved c =
    let others = c.args.others.now in
    let k = c.loop-other.other-index in
    let one = c.other-item.result in
    let before = flat_map other_names (take k others) in
    subst (λ targets. PutsAtEach (get same_words c.args.fitting.now) (get same_words c.put_other.new.fitting) targets c.args.association.now)
    (gathered-more others k one c.loop-other-test.true c.other-item.is other_names [] before (before ++ other_names one) refl refl)
    (put-both (get same_words c.args.fitting.now) (get same_words c.loop-other.fitting) (get same_words c.put_other.new.fitting) before (other_names one) c.args.association.now c.loop-other.invariant c.in_ok-put_other.ensures)

pub returns : goal.returns
returns c =
    subst (λ all. PutsAtEach (get same_words c.args.fitting.now) (get same_words c.loop-other.fitting) (flat_map other_names all) c.args.association.now) (take_all c.loop-other.other-index c.args.others.now c.loop-other-test.false) c.loop-other.invariant
