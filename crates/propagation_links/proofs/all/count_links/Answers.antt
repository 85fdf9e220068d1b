use Rattle.std.proofs.Common.{◌<◌, ◌∷◌, [], ap, ◌∙◌, length, arith, sym}
use Rattle.instantiator.specs.Whole.{Instance, effective_in}
use Rattle.propagation_links.specs.Refused.{count_in}
use Rattle.propagation_links.proofs.LinkLaws.{count-more}
use Rattle.propagation_links.proofs.all.count_links.Goals as goal

pub loop-number-preserved : goal.loop-number-preserved
loop-number-preserved c =
    let pointed = c.args.pointed.now in
    let long = ap length (c.components-number-end.ensures.components ∙ ap (λ (instance : Instance). instance.components) c.instance.ensures) in
    let within : c.loop-number.number < length pointed.instance.components = omega (arith, long, c.loop-number-test.true) in
    record {
      within = omega (arith, within);
      count = count-more pointed c.loop-number.number within (λ number component. count_in (effective_in pointed.instance number) ∷ []) c.loop-number.count c.count_at-count.result c.loop-number.invariant.count (ap (λ n. n ∷ []) (sym c.count_at-count.ensures.count));
      few = omega (arith, c.loop-number.invariant.few, c.count_at-count.ensures.few);
    }

pub returns-clause-few : goal.returns-clause-few
returns-clause-few c =
    let same = ap (λ (instance : Instance). length instance.components) c.instance.ensures in
    omega (arith, same, c.components-number-end.ensures.few, c.loop-number.invariant.within, c.loop-number.invariant.few)
