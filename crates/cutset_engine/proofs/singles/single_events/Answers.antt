use Rattle.std.proofs.Common.{◌∙◌, sym, subst}
use Rattle.std.proofs.lemmas.Bool.{false≢true}
use Rattle.fault_system.specs.Truth.{Has, member}
use Rattle.fault_system.proofs.NumberSets.{member-replicate}
use Rattle.cutset_engine.proofs.ThinFamilies.{found-next}
use Rattle.cutset_engine.proofs.singles.single_events.Goals as goal

pub loop-step-init : goal.loop-step-init
loop-step-init c =
    record {
      at_in = c.requires;
      within = λ set here. here;
      singles = λ n has. absurd (false≢true (sym (member-replicate c.args.events n) ∙ subst (λ bs. Has (member bs) n) c.in_ok-alone.ensures has));
    }

pub loop-step-preserved : goal.loop-step-preserved
loop-step-preserved c =
    found-next c.args.store.now c.args.id c.loop-step.at c.in-Some.node c.loop-step.alone c.put_single.new.alone c.laws.ensures c.loop-step.invariant c.in-Some.ensures.fits c.in-Some.ensures.family c.put_single.ensures
