use Rattle.std.proofs.Common.{◌≡◌, flat_map, sym, ap, ◌∙◌}
use Rattle.noted_refusals.proofs.Laws.{noted-more}
use Rattle.noted_refusals.specs.inner.Noted.{noting}
use Rattle.profiles.specs.Profiles.{is_first}
use Rattle.plain_values.specs.declared.refusal.Code.TheVariants.{OrLess}
use Rattle.plain_values.specs.Refusal.{refused_so}
use Rattle.noted_refusals.proofs.Loops.{noting-more}
use Rattle.error_conditions.specs.Conditions.{condition_refusals, pair_of}
use Rattle.error_conditions.specs.inner.Sides.{at_side}
use Rattle.error_conditions.proofs.ConditionLaws.{faults-All, faults-Any, faults-AtLeast, faults-AtMost, map-map-more}
use Rattle.error_conditions.proofs.walk.+condition.Goals as goal

pub cause_of-returns-in_ok-causes-in-All-clause-noted :
    goal.cause_of-returns-in_ok-causes-in-All-clause-noted
cause_of-returns-in_ok-causes-in-All-clause-noted g t c =
    let profile = c.args.reading.now.types.profile in
    let faults = g.A.Atoms.faults c.args.atoms.now c.args.reading.now.types in
    c.in_ok-causes-in-All.ensures.noted
    ∙ ap (λ all. noting c.args.reading.now.refusals all) (ap (flat_map (condition_refusals profile faults)) c.items.ensures.items ∙ sym (faults-All profile faults c.in-All.parts) ∙ ap (condition_refusals profile faults) (sym c.in-All.is))

pub cause_of-returns-in_ok-causes-in-Any-clause-noted :
    goal.cause_of-returns-in_ok-causes-in-Any-clause-noted
cause_of-returns-in_ok-causes-in-Any-clause-noted g t c =
    let profile = c.args.reading.now.types.profile in
    let faults = g.A.Atoms.faults c.args.atoms.now c.args.reading.now.types in
    c.in_ok-causes-in-Any.ensures.noted
    ∙ ap (λ all. noting c.args.reading.now.refusals all) (ap (flat_map (condition_refusals profile faults)) c.items-in-Any.ensures.items ∙ sym (faults-Any profile faults c.in-Any.parts) ∙ ap (condition_refusals profile faults) (sym c.in-Any.is))

pub cause_of-returns-in_ok-at_least-in-AtLeast-clause-noted :
    goal.cause_of-returns-in_ok-at_least-in-AtLeast-clause-noted
cause_of-returns-in_ok-at_least-in-AtLeast-clause-noted g t c =
    let profile = c.args.reading.now.types.profile in
    let faults = g.A.Atoms.faults c.args.atoms.now c.args.reading.now.types in
    c.in_ok-causes-in-AtLeast.ensures.noted
    ∙ ap (λ all. noting c.args.reading.now.refusals all) (ap (flat_map (condition_refusals profile faults)) c.items-in-AtLeast.ensures.items ∙ sym (faults-AtLeast profile faults c.in-AtLeast.least c.in-AtLeast.parts) ∙ ap (condition_refusals profile faults) (sym c.in-AtLeast.is))

pub cause_of-returns-in_ok-at_most-in-AtMost-clause-noted :
    goal.cause_of-returns-in_ok-at_most-in-AtMost-clause-noted
cause_of-returns-in_ok-at_most-in-AtMost-clause-noted g t c =
    let profile = c.args.reading.now.types.profile in
    let faults = g.A.Atoms.faults c.args.atoms.now c.args.reading.now.types in
    c.in_ok-causes-in-AtMost.ensures.noted
    ∙ ap (λ all. noting c.note_if.new.self all) (ap (flat_map (condition_refusals profile faults)) c.items-in-AtMost.ensures.items)
    ∙ noted-more c.args.reading.now.refusals c.note_if.new.self (refused_so (is_first profile) OrLess c.in-AtMost.spot) (flat_map (condition_refusals profile faults) c.in-AtMost.parts)
    (c.note_if.ensures ∙ ap (λ so. noting c.args.reading.now.refusals (refused_so so OrLess c.in-AtMost.spot)) (c.is_first-refused.ensures ∙ ap is_first c.profile.ensures))
    ∙ ap (λ all. noting c.args.reading.now.refusals all) (sym (faults-AtMost profile faults c.in-AtMost.most c.in-AtMost.parts c.in-AtMost.spot) ∙ ap (condition_refusals profile faults) (sym c.in-AtMost.is))

pub causes_of-loop-part-preserved : goal.causes_of-loop-part-preserved
causes_of-loop-part-preserved g t c =
    let atoms = c.args.atoms.now in
    let table = c.args.reading.now.types in
    let kept : c.loop-part.reading.types ≡ table = c.loop-part.invariant.kept in
    record {
      kept = c.in_ok-cause_of.ensures.kept ∙ kept;
      causes = map-map-more (at_side c.args.side) (pair_of (g.A.Atoms.meaning atoms table)) c.args.parts.now c.loop-part.part-index c.part-item.result c.in_ok-cause_of.field-0 c.loop-part.causes c.push.new.self c.loop-part-test.true c.part-item.is
          c.loop-part.invariant.causes c.in_ok-push.ensures.ok (c.in_ok-cause_of.ensures.cause ∙ (λ i. at_side c.args.side (pair_of (g.A.Atoms.meaning atoms (kept i)) c.part-item.result)));
      first = noting-more c.args.parts.now c.loop-part.part-index c.part-item.result c.loop-part-test.true c.part-item.is (condition_refusals table.profile (g.A.Atoms.faults atoms table)) c.loop-part.reading.refusals _ _
          (c.in_ok-cause_of.ensures.noted ∙ (λ i. noting c.loop-part.reading.refusals (condition_refusals (kept i).profile (g.A.Atoms.faults atoms (kept i)) c.part-item.result))) c.loop-part.invariant.first;
    }
