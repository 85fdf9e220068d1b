use Rattle.std.proofs.Common.{◌≡◌, ◌<◌, ◌≤◌, ◌||◌, min, sym, subst, Ok, arith}
use Rattle.zdd_store.specs.inner.Family.{least_number}
use Rattle.zdd_store.specs.inner.Store.{family_of, Keeps}
use Rattle.zdd_store.specs.inner.Answers.{IsUnionOf}
use Rattle.zdd_families.specs.inner.Steps.{either}
use Rattle.zdd_families.proofs.Branchwise.{wide_operand, union_turned, parts_rise, parts_joined, union_bits, union_grows, same_parts, wide_node, made_wide}
use Rattle.zdd_families.proofs.Pairs.{either_first_empty, either_first_unit, either_second_empty, either_second_unit}
use Rattle.zdd_families.proofs.Splits.{least-terminal}
use Rattle.zdd_families.proofs.Ways.{Keeps_same, Keeps_four, answers_two, finish_two}
use Rattle.zdd_families.proofs.wide.+wide.Goals as goal

pub union_wide-returns-then-a-eq0 : goal.union_wide-returns-then-a-eq0
union_wide-returns-then-a-eq0 t c =
    wide_operand c.args.store.now c.args.b (min (least_number (family_of c.args.store.now c.args.a)) (least_number (family_of c.args.store.now c.args.b))) (either (family_of c.args.store.now c.args.a) (family_of c.args.store.now c.args.b))
    c.requires.b_in (omega arith) (either_first_empty c.args.store.now c.args.a c.args.b c.laws.ensures c.if-a-eq0.true)

pub union_wide-returns-then-a-eq1 : goal.union_wide-returns-then-a-eq1
union_wide-returns-then-a-eq1 t c =
    wide_operand c.args.store.now c.args.a (min (least_number (family_of c.args.store.now c.args.a)) (least_number (family_of c.args.store.now c.args.b))) (either (family_of c.args.store.now c.args.a) (family_of c.args.store.now c.args.b))
    c.requires.a_in (omega arith) (either_first_unit c.args.store.now c.args.a c.args.b c.laws.ensures c.if-a-eq1.true)

pub union_wide-returns-then-b-eq0 : goal.union_wide-returns-then-b-eq0
union_wide-returns-then-b-eq0 t c =
    wide_operand c.args.store.now c.args.a (min (least_number (family_of c.args.store.now c.args.a)) (least_number (family_of c.args.store.now c.args.b))) (either (family_of c.args.store.now c.args.a) (family_of c.args.store.now c.args.b))
    c.requires.a_in (omega arith) (either_second_empty c.args.store.now c.args.a c.args.b c.laws.ensures c.if-b-eq0.true)

pub union_wide-returns-then-b-eq1 : goal.union_wide-returns-then-b-eq1
union_wide-returns-then-b-eq1 t c =
    wide_operand c.args.store.now c.args.b (min (least_number (family_of c.args.store.now c.args.a)) (least_number (family_of c.args.store.now c.args.b))) (either (family_of c.args.store.now c.args.a) (family_of c.args.store.now c.args.b))
    c.requires.b_in (omega arith) (either_second_unit c.args.store.now c.args.a c.args.b c.laws.ensures c.if-b-eq1.true)

pub union_wide-returns-then-b-a : goal.union_wide-returns-then-b-a
union_wide-returns-then-b-a t c = union_turned c.args.store.now c.union_wide_anew.new.store c.args.a c.args.b c.union_wide_anew.result c.union_wide_anew.ensures

pub union_wide_anew-wide_make-requires-clause-rises : goal.union_wide_anew-wide_make-requires-clause-rises
union_wide_anew-wide_make-requires-clause-rises t c =
    parts_rise (λ x y. x || y) union_bits union_grows c.both_parts.new.store c.union_wide.new.store c.union_wide-2.new.store (family_of c.args.store.now c.args.a) (family_of c.args.store.now c.args.b) c.in_ok-parts.parts c.in_ok-lo.lo c.in_ok-hi.hi
    c.first_var-var.result _ _ c.in_ok-parts.ensures.parts c.union_wide.ensures.kept c.union_wide-2.ensures.kept c.in_ok-lo.ensures.answer c.in_ok-hi.ensures.answer

pub union_wide_anew-returns-in-Some : goal.union_wide_anew-returns-in-Some
union_wide_anew-returns-in-Some t c =
    finish_two c.args.store.now c.args.store.now IsUnionOf (min (least_number (family_of c.args.store.now c.args.a)) (least_number (family_of c.args.store.now c.args.b)))
    c.args.a c.args.b (Ok c.in-Some.answer) (Keeps_same c.args.store.now) c.requires.a_in c.requires.b_in (λ family p. p.least) c.in-Some.ensures

pub union_wide_anew-note-requires : goal.union_wide_anew-note-requires
union_wide_anew-note-requires t c =
    answers_two c.args.store.now c.wide_make.new.store IsUnionOf c.args.a c.args.b c.in_ok-answer.answer
    (Keeps_four c.args.store.now _ _ _ c.wide_make.new.store c.both_parts.ensures.kept c.union_wide.ensures.kept c.union_wide-2.ensures.kept c.wide_make.ensures.kept)
    c.requires.a_in c.requires.b_in c.in_ok-answer.ensures.answer.found
    (record {
      least = subst (λ n. n ≤ least_number (family_of c.wide_make.new.store c.in_ok-answer.answer)) c.first_var-var.ensures c.in_ok-answer.ensures.answer.least;
      covering = parts_joined (λ x y. x || y) union_bits union_grows c.both_parts.new.store c.union_wide.new.store c.union_wide-2.new.store (family_of c.args.store.now c.args.a) (family_of c.args.store.now c.args.b) c.in_ok-parts.parts c.in_ok-lo.lo c.in_ok-hi.hi
          c.first_var-var.result _ _ c.in_ok-parts.ensures.parts c.union_wide.ensures.kept c.union_wide-2.ensures.kept c.in_ok-lo.ensures.answer c.in_ok-hi.ensures.answer
          c.wide_make.new.store c.in_ok-answer.answer _ c.in_ok-answer.ensures.answer;
    })

pub union_wide_anew-returns : goal.union_wide_anew-returns
union_wide_anew-returns t c =
    finish_two c.args.store.now c.note.new.store IsUnionOf (min (least_number (family_of c.args.store.now c.args.a)) (least_number (family_of c.args.store.now c.args.b)))
    c.args.a c.args.b c.note.result
    (subst (Keeps c.args.store.now) (sym c.note.ensures.same) (Keeps_four c.args.store.now _ _ _ c.wide_make.new.store c.both_parts.ensures.kept c.union_wide.ensures.kept c.union_wide-2.ensures.kept c.wide_make.ensures.kept))
    c.requires.a_in c.requires.b_in (λ family p. p.least) c.note.ensures.right

pub wide_parts-returns-in_default : goal.wide_parts-returns-in_default
wide_parts-returns-in_default t c =
    let least = least-terminal c.args.store.now c.args.id.position c.laws.ensures (c.in_default.ensures.found c.requires.found) in
    let fits : c.args.var < 4294967296 = omega (arith, c.ranges.var.fits) in
    record { kept = Keeps_same c.args.store.now; parts = same_parts c.args.store.now c.args.id c.args.var c.requires.found (omega arith) }

pub wide_parts-returns-then-shape : goal.wide_parts-returns-then-shape
wide_parts-returns-then-shape t c =
    let at : c.in-Some.node.var ≡ c.args.var = omega (arith, c.if-var-node.false, c.requires.not_greater, c.in-Some.ensures.least) in
    record {
      kept = Keeps_same c.args.store.now;
      parts = wide_node c.args.store.now c.args.id c.args.var c.in-Some.node c.in-Some.ensures.fits c.in-Some.ensures.family c.in-Some.ensures.least at (c.shape-shape.ensures.wide c.if-shape.true);
    }

pub wide_parts-returns : goal.wide_parts-returns
wide_parts-returns t c =
    let at : c.in-Some.node.var ≡ c.args.var = omega (arith, c.if-var-node.false, c.requires.not_greater, c.in-Some.ensures.least) in
    record {
      kept = c.union_wide.ensures.kept;
      parts = made_wide c.args.store.now c.union_wide.new.store c.args.id c.args.var _ c.in-Some.node c.in_ok-hi.hi c.in-Some.ensures.fits c.in-Some.ensures.family at c.union_wide.ensures.kept c.in_ok-hi.ensures.answer
          (omega (arith, at, c.in-Some.ensures.fits.lo_greater, c.in-Some.ensures.fits.hi_greater));
    }
