use Rattle.std.proofs.Common.{min, ◌∙◌, sym, subst, Ok, arith, eqb-true}
use Rattle.zdd_store.specs.inner.Family.{least_number}
use Rattle.zdd_store.specs.inner.Store.{family_of, Keeps}
use Rattle.zdd_store.specs.inner.Answers.{IsLeastFamily}
use Rattle.zdd_families.specs.inner.Steps.{either}
use Rattle.zdd_families.proofs.Ways.{Keeps_same, Keeps_trans, answers_two, finish_two}
use Rattle.zdd_families.proofs.Pairs.{apart_kept, least_kept, found_kept, operand, either_same, either_second_empty, either_first_unit, either_first_empty, either_second_unit, least-either, either_made}
use Rattle.zdd_families.proofs.union.+union.Goals as goal
use Rattle.zdd_families.proofs.union.+union.Goals.{union_sets-then-eq-via-then-eq, union_sets-then-eq-via-else-eq+then-eq-2, union_sets-then-eq-via-else-eq+else-eq-2+then-eq-3, union_sets-then-eq-4-via-then-eq-4, union_sets-then-eq-4-via-else-eq-4+then-eq-5}

pub union_anew-union_sets-requires-2 : goal.union_anew-union_sets-requires-2
union_anew-union_sets-requires-2 t c =
    let kept : Keeps c.args.store.now c.union_sets.new.store = c.union_sets.ensures.kept in
    let first = least_kept c.args.store.now c.union_sets.new.store c.split-first.result.hi kept c.split-first.ensures.hi_in in
    let second = least_kept c.args.store.now c.union_sets.new.store c.split-second.result.hi kept c.split-second.ensures.hi_in in (
      omega (arith, first, second),
      (
        found_kept c.args.store.now c.union_sets.new.store c.split-first.result.hi kept c.split-first.ensures.hi_in,
        (
          found_kept c.args.store.now c.union_sets.new.store c.split-second.result.hi kept c.split-second.ensures.hi_in,
          (
            apart_kept c.args.store.now c.union_sets.new.store c.split-first.result.hi kept c.split-first.ensures.hi_in (c.split-first.ensures.hi_apart c.requires.a_apart),
            apart_kept c.args.store.now c.union_sets.new.store c.split-second.result.hi kept c.split-second.ensures.hi_in (c.split-second.ensures.hi_apart c.requires.b_apart),
          ),
        ),
      ),
    )

pub union_anew-join-requires-clause-lo_apart : goal.union_anew-join-requires-clause-lo_apart
union_anew-join-requires-clause-lo_apart t c =
    apart_kept c.union_sets.new.store c.union_sets-2.new.store c.in_ok-lo.lo c.union_sets-2.ensures.kept c.in_ok-lo.ensures.answer.found c.in_ok-lo.ensures.answer.right.apart

pub union_anew-returns-in-Some : goal.union_anew-returns-in-Some
union_anew-returns-in-Some t c =
    finish_two c.args.store.now c.args.store.now (λ a b r. IsLeastFamily (either a b) r) (min (least_number (family_of c.args.store.now c.args.a)) (least_number (family_of c.args.store.now c.args.b)))
    c.args.a c.args.b (Ok c.in-Some.answer) (Keeps_same c.args.store.now) c.requires.a_in c.requires.b_in
    (λ family. least-either (family_of c.args.store.now c.args.a) (family_of c.args.store.now c.args.b) family) c.in-Some.ensures

pub union_anew-note-requires : goal.union_anew-note-requires
union_anew-note-requires t c =
    answers_two c.args.store.now c.join.new.store (λ a b r. IsLeastFamily (either a b) r) c.args.a c.args.b c.in_ok-answer.answer
    (Keeps_trans _ _ _ (Keeps_trans c.args.store.now _ _ c.union_sets.ensures.kept c.union_sets-2.ensures.kept) c.join.ensures.kept)
    c.requires.a_in c.requires.b_in c.in_ok-answer.ensures.answer.found
    (either_made c.args.store.now c.union_sets.new.store c.union_sets-2.new.store c.join.new.store c.args.a c.args.b c.in_ok-lo.lo c.in_ok-hi.hi c.in_ok-answer.answer
    c.split-first.result c.split-second.result c.first_var-var.result _ _ _ c.split-first.ensures c.split-second.ensures c.union_sets.ensures.kept c.union_sets-2.ensures.kept
    c.in_ok-lo.ensures.answer c.in_ok-hi.ensures.answer c.in_ok-answer.ensures.answer)

pub union_anew-returns : goal.union_anew-returns
union_anew-returns t c =
    finish_two c.args.store.now c.note.new.store (λ a b r. IsLeastFamily (either a b) r) (min (least_number (family_of c.args.store.now c.args.a)) (least_number (family_of c.args.store.now c.args.b)))
    c.args.a c.args.b c.note.result
    (subst (Keeps c.args.store.now) (sym c.note.ensures.same) (Keeps_trans _ _ _ (Keeps_trans c.args.store.now _ _ c.union_sets.ensures.kept c.union_sets-2.ensures.kept) c.join.ensures.kept))
    c.requires.a_in c.requires.b_in (λ family. least-either (family_of c.args.store.now c.args.a) (family_of c.args.store.now c.args.b) family) c.note.ensures.right

pub union_sets-returns-then-eq : goal.union_sets-returns-then-eq
union_sets-returns-then-eq t c =
    operand c.args.store.now c.args.a (min (least_number (family_of c.args.store.now c.args.a)) (least_number (family_of c.args.store.now c.args.b))) (either (family_of c.args.store.now c.args.a) (family_of c.args.store.now c.args.b))
    c.requires.a_in c.requires.a_apart (omega arith)
    (elim c.then-eq.branch [
      | union_sets-then-eq-via-then-eq w ↦ either_same c.args.store.now c.args.a c.args.b c.laws.ensures (eqb-true c.args.a.position c.args.b.position (sym c.eq.ensures ∙ w.if-eq.true))
      | union_sets-then-eq-via-else-eq+then-eq-2 w ↦ either_second_empty c.args.store.now c.args.a c.args.b c.laws.ensures (eqb-true c.args.b.position 0 (sym w.eq-else-eq.ensures ∙ w.if-eq-2.true))
      | union_sets-then-eq-via-else-eq+else-eq-2+then-eq-3 w ↦ either_first_unit c.args.store.now c.args.a c.args.b c.laws.ensures (eqb-true c.args.a.position 1 (sym w.eq-else-eq-2.ensures ∙ w.if-eq-3.true))
    ])

pub union_sets-returns-then-eq-4 : goal.union_sets-returns-then-eq-4
union_sets-returns-then-eq-4 t c =
    operand c.args.store.now c.args.b (min (least_number (family_of c.args.store.now c.args.a)) (least_number (family_of c.args.store.now c.args.b))) (either (family_of c.args.store.now c.args.a) (family_of c.args.store.now c.args.b))
    c.requires.b_in c.requires.b_apart (omega arith)
    (elim c.then-eq-4.branch [
      | union_sets-then-eq-4-via-then-eq-4 w ↦ either_first_empty c.args.store.now c.args.a c.args.b c.laws.ensures (eqb-true c.args.a.position 0 (sym c.eq-2.ensures ∙ w.if-eq-4.true))
      | union_sets-then-eq-4-via-else-eq-4+then-eq-5 w ↦ either_second_unit c.args.store.now c.args.a c.args.b c.laws.ensures (eqb-true c.args.b.position 1 (sym w.eq-else-eq-4.ensures ∙ w.if-eq-5.true))
    ])
