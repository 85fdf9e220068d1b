use Rattle.std.proofs.Common.{map, nat_le, refl}
use Rattle.fault_system.specs.Truth.{member, count_true}
use Rattle.cutset_engine.specs.inner.Gates.{covers_each, events_of, is_true_under, of_all}
use Rattle.cutset_engine.specs.declared.gates.Gate.TheVariants.{And, Or}
use Rattle.cutset_engine.proofs.Covering.{keeps_then}
use Rattle.cutset_engine.proofs.Parts.{parts_next, gate_made, and_true, or_true, least_true}
use Rattle.cutset_engine.proofs.formulas.+formula.Goals as goal

pub formula_family-returns-in_ok-families-in-And : goal.formula_family-returns-in_ok-families-in-And
formula_family-returns-in_ok-families-in-And t c =
    gate_made (of_all And) c.args.store.now c.part_families.new.store c.of_gate.new.store c.args.setting.now.most (λ set. map (λ part. is_true_under c.args.setting.now.order.now c.args.store.now c.args.now.now part set) c.items.result.now)
    (is_true_under c.args.setting.now.order.now c.args.store.now c.args.now.now c.args.formula.now) c.in_ok-families-in-And.families.items c.in_ok-families-in-And.families.items c.of_gate.result
    c.part_families.ensures.kept c.in_ok-families-in-And.ensures.parts refl c.of_gate.ensures
    (λ set. and_true (events_of c.args.setting.now.order.now set) (member (covers_each c.args.store.now c.args.now.now set)) c.args.formula.now c.in-And.parts c.items.result.now c.items.ensures.items c.in-And.is)

pub formula_family-returns-in_ok-families-in-Or : goal.formula_family-returns-in_ok-families-in-Or
formula_family-returns-in_ok-families-in-Or t c =
    gate_made (of_all Or) c.args.store.now c.part_families-in-Or.new.store c.of_gate-in-Or.new.store c.args.setting.now.most (λ set. map (λ part. is_true_under c.args.setting.now.order.now c.args.store.now c.args.now.now part set) c.items-in-Or.result.now)
    (is_true_under c.args.setting.now.order.now c.args.store.now c.args.now.now c.args.formula.now) c.in_ok-families-in-Or.families.items c.in_ok-families-in-Or.families.items c.of_gate-in-Or.result
    c.part_families-in-Or.ensures.kept c.in_ok-families-in-Or.ensures.parts refl c.of_gate-in-Or.ensures
    (λ set. or_true (events_of c.args.setting.now.order.now set) (member (covers_each c.args.store.now c.args.now.now set)) c.args.formula.now c.in-Or.parts c.items-in-Or.result.now c.items-in-Or.ensures.items c.in-Or.is)

pub formula_family-returns-in_ok-families-in-AtLeast : goal.formula_family-returns-in_ok-families-in-AtLeast
formula_family-returns-in_ok-families-in-AtLeast t c =
    gate_made (λ bs. nat_le c.in-AtLeast.least (count_true bs)) c.args.store.now c.part_families-in-AtLeast.new.store c.some_of.new.store c.args.setting.now.most (λ set. map (λ part. is_true_under c.args.setting.now.order.now c.args.store.now c.args.now.now part set) c.items-in-AtLeast.result.now)
    (is_true_under c.args.setting.now.order.now c.args.store.now c.args.now.now c.args.formula.now) c.in_ok-families-in-AtLeast.families.items c.in_ok-families-in-AtLeast.families.items c.some_of.result
    c.part_families-in-AtLeast.ensures.kept c.in_ok-families-in-AtLeast.ensures.parts refl c.some_of.ensures
    (λ set. least_true (events_of c.args.setting.now.order.now set) (member (covers_each c.args.store.now c.args.now.now set)) c.args.formula.now c.in-AtLeast.parts c.items-in-AtLeast.result.now c.items-in-AtLeast.ensures.items c.in-AtLeast.least c.in-AtLeast.is)

pub part_families-loop-part-preserved : goal.part_families-loop-part-preserved
part_families-loop-part-preserved t c =
    let before = c.loop-part.invariant in
    record {
      kept = keeps_then c.args.store.now c.loop-part.store c.formula_family.new.store before.kept c.formula_family.ensures.kept;
      parts = parts_next c.args.setting.now.order.now c.args.store.now c.loop-part.store c.formula_family.new.store c.args.now.now c.args.setting.now.most c.args.parts.now c.loop-part.part-index c.part-item.result c.loop-part.families.items _ c.in_ok-family.family
          before.kept c.requires before.parts c.in_ok-family.ensures c.loop-part-test.true c.part-item.is c.in_ok-push.ensures.items;
    }
