use Rattle.std.proofs.Common.{subst}
use Rattle.std.proofs.lemmas.List.{take_all}
use Rattle.std.specs.HashMap.{get}
use Rattle.package_index.specs.inner.Tables.{same_words}
use Rattle.package_index.proofs.Loops.{any-more}
use Rattle.event_rates.specs.inner.Fitting.{PutsAt, PutsAtEach}
use Rattle.event_rates.proofs.FittingLaws.{put-more}
use Rattle.event_rates.proofs.table.put_all.Goals as goal

pub loop-target-preserved : goal.loop-target-preserved
loop-target-preserved c =
    let targets = c.args.targets.now in
    let k = c.loop-target.target-index in
    let one = c.target-item.result in
    put-more (get same_words c.args.fitting.now) (get same_words c.loop-target.fitting) (get same_words c.put.new.fitting) _ _ one c.args.association.now
    (λ p. any-more targets k one c.loop-target-test.true c.target-item.is p) c.loop-target.invariant
    (subst (λ target. PutsAt (get same_words c.loop-target.fitting) (get same_words c.put.new.fitting) target c.args.association.now) c.items.ensures.items c.in_ok-put.ensures)

pub returns : goal.returns
returns c =
    subst (λ all. PutsAtEach (get same_words c.args.fitting.now) (get same_words c.loop-target.fitting) all c.args.association.now) (take_all c.loop-target.target-index c.args.targets.now c.loop-target-test.false) c.loop-target.invariant
