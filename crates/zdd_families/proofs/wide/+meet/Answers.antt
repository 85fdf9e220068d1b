use Rattle.std.proofs.Common.{◌≤◌, ◌&&◌, min, sym, subst, Ok, arith}
use Rattle.zdd_store.specs.inner.Family.{least_number}
use Rattle.zdd_store.specs.inner.Store.{family_of, Keeps}
use Rattle.zdd_store.specs.inner.Answers.{IsMeetOf}
use Rattle.zdd_families.specs.inner.Steps.{both}
use Rattle.zdd_families.proofs.Branchwise.{wide_operand, meet_turned, parts_rise, parts_joined, meet_bits, meet_grows}
use Rattle.zdd_families.proofs.Pairs.{both_first_empty, both_first_unit, both_second_empty, both_second_unit}
use Rattle.zdd_families.proofs.Ways.{Keeps_same, Keeps_four, answers_two, finish_two}
use Rattle.zdd_families.proofs.wide.+meet.Goals as goal

pub meet_wide-returns-then-a-eq0 : goal.meet_wide-returns-then-a-eq0
meet_wide-returns-then-a-eq0 t c =
    wide_operand c.args.store.now c.args.a (min (least_number (family_of c.args.store.now c.args.a)) (least_number (family_of c.args.store.now c.args.b))) (both (family_of c.args.store.now c.args.a) (family_of c.args.store.now c.args.b))
    c.requires.a_in (omega arith) (both_first_empty c.args.store.now c.args.a c.args.b c.laws.ensures c.if-a-eq0.true)

pub meet_wide-returns-then-a-eq1 : goal.meet_wide-returns-then-a-eq1
meet_wide-returns-then-a-eq1 t c =
    wide_operand c.args.store.now c.args.b (min (least_number (family_of c.args.store.now c.args.a)) (least_number (family_of c.args.store.now c.args.b))) (both (family_of c.args.store.now c.args.a) (family_of c.args.store.now c.args.b))
    c.requires.b_in (omega arith) (both_first_unit c.args.store.now c.args.a c.args.b c.laws.ensures c.if-a-eq1.true)

pub meet_wide-returns-then-b-eq0 : goal.meet_wide-returns-then-b-eq0
meet_wide-returns-then-b-eq0 t c =
    wide_operand c.args.store.now c.args.b (min (least_number (family_of c.args.store.now c.args.a)) (least_number (family_of c.args.store.now c.args.b))) (both (family_of c.args.store.now c.args.a) (family_of c.args.store.now c.args.b))
    c.requires.b_in (omega arith) (both_second_empty c.args.store.now c.args.a c.args.b c.laws.ensures c.if-b-eq0.true)

pub meet_wide-returns-then-b-eq1 : goal.meet_wide-returns-then-b-eq1
meet_wide-returns-then-b-eq1 t c =
    wide_operand c.args.store.now c.args.a (min (least_number (family_of c.args.store.now c.args.a)) (least_number (family_of c.args.store.now c.args.b))) (both (family_of c.args.store.now c.args.a) (family_of c.args.store.now c.args.b))
    c.requires.a_in (omega arith) (both_second_unit c.args.store.now c.args.a c.args.b c.laws.ensures c.if-b-eq1.true)

pub meet_wide-returns-then-b-a : goal.meet_wide-returns-then-b-a
meet_wide-returns-then-b-a t c = meet_turned c.args.store.now c.meet_wide_anew.new.store c.args.a c.args.b c.meet_wide_anew.result c.meet_wide_anew.ensures

pub meet_wide_anew-wide_make-requires-clause-rises : goal.meet_wide_anew-wide_make-requires-clause-rises
meet_wide_anew-wide_make-requires-clause-rises t c =
    parts_rise (λ x y. x && y) meet_bits meet_grows c.both_parts.new.store c.meet_wide.new.store c.meet_wide-2.new.store (family_of c.args.store.now c.args.a) (family_of c.args.store.now c.args.b) c.in_ok-parts.parts c.in_ok-lo.lo c.in_ok-hi.hi
    c.first_var-var.result _ _ c.in_ok-parts.ensures.parts c.meet_wide.ensures.kept c.meet_wide-2.ensures.kept c.in_ok-lo.ensures.answer c.in_ok-hi.ensures.answer

pub meet_wide_anew-returns-in-Some : goal.meet_wide_anew-returns-in-Some
meet_wide_anew-returns-in-Some t c =
    finish_two c.args.store.now c.args.store.now IsMeetOf (min (least_number (family_of c.args.store.now c.args.a)) (least_number (family_of c.args.store.now c.args.b)))
    c.args.a c.args.b (Ok c.in-Some.answer) (Keeps_same c.args.store.now) c.requires.a_in c.requires.b_in (λ family p. p.least) c.in-Some.ensures

pub meet_wide_anew-note-requires : goal.meet_wide_anew-note-requires
meet_wide_anew-note-requires t c =
    answers_two c.args.store.now c.wide_make.new.store IsMeetOf c.args.a c.args.b c.in_ok-answer.answer
    (Keeps_four c.args.store.now _ _ _ c.wide_make.new.store c.both_parts.ensures.kept c.meet_wide.ensures.kept c.meet_wide-2.ensures.kept c.wide_make.ensures.kept)
    c.requires.a_in c.requires.b_in c.in_ok-answer.ensures.answer.found
    (record {
      least = subst (λ n. n ≤ least_number (family_of c.wide_make.new.store c.in_ok-answer.answer)) c.first_var-var.ensures c.in_ok-answer.ensures.answer.least;
      covering = parts_joined (λ x y. x && y) meet_bits meet_grows c.both_parts.new.store c.meet_wide.new.store c.meet_wide-2.new.store (family_of c.args.store.now c.args.a) (family_of c.args.store.now c.args.b) c.in_ok-parts.parts c.in_ok-lo.lo c.in_ok-hi.hi
          c.first_var-var.result _ _ c.in_ok-parts.ensures.parts c.meet_wide.ensures.kept c.meet_wide-2.ensures.kept c.in_ok-lo.ensures.answer c.in_ok-hi.ensures.answer
          c.wide_make.new.store c.in_ok-answer.answer _ c.in_ok-answer.ensures.answer;
    })

pub meet_wide_anew-returns : goal.meet_wide_anew-returns
meet_wide_anew-returns t c =
    finish_two c.args.store.now c.note.new.store IsMeetOf (min (least_number (family_of c.args.store.now c.args.a)) (least_number (family_of c.args.store.now c.args.b)))
    c.args.a c.args.b c.note.result
    (subst (Keeps c.args.store.now) (sym c.note.ensures.same) (Keeps_four c.args.store.now _ _ _ c.wide_make.new.store c.both_parts.ensures.kept c.meet_wide.ensures.kept c.meet_wide-2.ensures.kept c.wide_make.ensures.kept))
    c.requires.a_in c.requires.b_in (λ family p. p.least) c.note.ensures.right
