use Rattle.std.proofs.Common.{◌≤◌, min, sym, subst, Ok, arith}
use Rattle.zdd_store.specs.inner.Family.{least_number}
use Rattle.zdd_store.specs.inner.Store.{family_of, Keeps}
use Rattle.zdd_store.specs.inner.Answers.{IsProductUpTo}
use Rattle.zdd_families.proofs.Ways.{Keeps_same, Keeps_trans, answers_two, finish_two}
use Rattle.zdd_families.proofs.Pairs.{apart_kept, found_kept, least_kept, can_cross}
use Rattle.zdd_families.proofs.Products.{operand_asked, none_asked, product_told, product_turned, both_made, across_none, across_made}
use Rattle.zdd_families.proofs.product.+product.Goals as goal

pub product_sets-returns-in-Some : goal.product_sets-returns-in-Some
product_sets-returns-in-Some t c =
    operand_asked c.args.store.now c.asked_sets.new.store c.args.a c.args.b c.in-Some.operand c.args.most c.asked_sets.result c.in-Some.ensures.some c.asked_sets.ensures

pub product_sets-returns-then-large : goal.product_sets-returns-then-large
product_sets-returns-then-large t c = none_asked c.args.store.now c.args.a c.args.b c.args.most c.laws.ensures (c.are_too_large-large.ensures c.if-large.true)

pub product_sets-returns-then-b-a : goal.product_sets-returns-then-b-a
product_sets-returns-then-b-a t c =
    product_turned c.args.store.now c.product_anew.new.store c.args.a c.args.b c.args.most c.bound_of-bound.result c.product_anew.result c.bound_of-bound.ensures c.product_anew.ensures

pub product_sets-returns-else-b-a : goal.product_sets-returns-else-b-a
product_sets-returns-else-b-a t c =
    product_told c.args.store.now c.product_anew-else-b-a.new.store c.args.a c.args.b c.args.most c.bound_of-bound.result c.product_anew-else-b-a.result c.bound_of-bound.ensures c.product_anew-else-b-a.ensures

pub product_anew-product_sets-requires : goal.product_anew-product_sets-requires
product_anew-product_sets-requires t c = (
  omega (arith, c.split-first.ensures.lo_greater, c.split-second.ensures.lo_greater),
  (
    c.split-first.ensures.lo_in,
    (
      c.split-second.ensures.lo_in,
      (
        c.split-first.ensures.lo_apart c.requires.a_apart,
        c.split-second.ensures.lo_apart c.requires.b_apart,
      ),
    ),
  ),
)

pub product_anew-product_with-requires : goal.product_anew-product_with-requires
product_anew-product_with-requires t c = (
  omega (arith, c.split-first.ensures.lo_greater, c.split-second.ensures.lo_greater),
  (
    can_cross c.args.store.now c.product_sets.new.store c.args.a c.first_var-var.result c.split-first.result c.split-first.ensures c.requires.a_apart c.product_sets.ensures.kept,
    can_cross c.args.store.now c.product_sets.new.store c.args.b c.first_var-var.result c.split-second.result c.split-second.ensures c.requires.b_apart c.product_sets.ensures.kept,
  ),
)

pub product_anew-join-requires-clause-lo_apart : goal.product_anew-join-requires-clause-lo_apart
product_anew-join-requires-clause-lo_apart t c =
    apart_kept c.product_sets.new.store c.product_with.new.store c.in_ok-lo.lo c.product_with.ensures.kept c.in_ok-lo.ensures.answer.found c.in_ok-lo.ensures.answer.right.right.apart

pub product_anew-returns-in-Some : goal.product_anew-returns-in-Some
product_anew-returns-in-Some t c =
    finish_two c.args.store.now c.args.store.now (IsProductUpTo c.args.most) (min (least_number (family_of c.args.store.now c.args.a)) (least_number (family_of c.args.store.now c.args.b)))
    c.args.a c.args.b (Ok c.in-Some.answer) (Keeps_same c.args.store.now) c.requires.a_in c.requires.b_in (λ family p. p.least) c.in-Some.ensures

pub product_anew-note-requires : goal.product_anew-note-requires
product_anew-note-requires t c =
    let low : min (least_number (family_of c.args.store.now c.args.a)) (least_number (family_of c.args.store.now c.args.b)) ≤ least_number (family_of c.join.new.store c.in_ok-answer.answer) =
    subst (λ n. n ≤ least_number (family_of c.join.new.store c.in_ok-answer.answer)) c.first_var-var.ensures c.in_ok-answer.ensures.answer.least in
    answers_two c.args.store.now c.join.new.store (IsProductUpTo c.args.most) c.args.a c.args.b c.in_ok-answer.answer
    (Keeps_trans _ _ _ (Keeps_trans c.args.store.now _ _ c.product_sets.ensures.kept c.product_with.ensures.kept) c.join.ensures.kept)
    c.requires.a_in c.requires.b_in c.in_ok-answer.ensures.answer.found
    (record {
      least = low;
      right = both_made c.args.store.now c.product_sets.new.store c.product_with.new.store c.join.new.store c.args.a c.args.b c.in_ok-lo.lo c.in_ok-hi.hi c.in_ok-answer.answer
          c.split-first.result c.split-second.result c.first_var-var.result c.args.most c.one_less.result _ _ c.split-first.ensures c.split-second.ensures c.product_sets.ensures.kept c.product_with.ensures.kept
          (can_cross c.args.store.now c.product_sets.new.store c.args.a c.first_var-var.result c.split-first.result c.split-first.ensures c.requires.a_apart c.product_sets.ensures.kept)
          (can_cross c.args.store.now c.product_sets.new.store c.args.b c.first_var-var.result c.split-second.result c.split-second.ensures c.requires.b_apart c.product_sets.ensures.kept)
          c.one_less.ensures c.in_ok-lo.ensures.answer c.in_ok-hi.ensures.answer c.in_ok-answer.ensures.answer;
    })

pub product_anew-returns : goal.product_anew-returns
product_anew-returns t c =
    finish_two c.args.store.now c.note.new.store (IsProductUpTo c.args.most) (min (least_number (family_of c.args.store.now c.args.a)) (least_number (family_of c.args.store.now c.args.b)))
    c.args.a c.args.b c.note.result
    (subst (Keeps c.args.store.now) (sym c.note.ensures.same) (Keeps_trans _ _ _ (Keeps_trans c.args.store.now _ _ c.product_sets.ensures.kept c.product_with.ensures.kept) c.join.ensures.kept))
    c.requires.a_in c.requires.b_in (λ family p. p.least) c.note.ensures.right

pub product_with-returns-then-first-eq0 : goal.product_with-returns-then-first-eq0
product_with-returns-then-first-eq0 t c =
    across_none c.args.store.now c.product_sets.new.store c.args.first c.args.second c.args.var c.args.most c.product_sets.result c.laws.ensures c.if-first-eq0.true c.requires.first_can c.requires.second_can c.product_sets.ensures

pub product_with-returns : goal.product_with-returns
product_with-returns t c =
    across_made c.args.store.now c.union_sets.new.store c.product_sets-2.new.store c.product_sets-3.new.store c.union_sets-2.new.store c.args.first c.args.second c.in_ok-any.any c.in_ok-with_first.with_first c.in_ok-with_second.with_second
    c.args.var c.args.most _ _ c.union_sets-2.result c.requires.first_can c.requires.second_can c.union_sets.ensures.kept c.product_sets-2.ensures.kept c.product_sets-3.ensures.kept
    c.in_ok-any.ensures.answer c.in_ok-with_first.ensures.answer c.in_ok-with_second.ensures.answer c.union_sets-2.ensures

pub product_with-product_sets-requires-2 : goal.product_with-product_sets-requires-2
product_with-product_sets-requires-2 t c =
    let kept : Keeps c.args.store.now c.union_sets.new.store = c.union_sets.ensures.kept in
    let same = least_kept c.args.store.now c.union_sets.new.store c.args.first.hi kept c.requires.first_can.hi_in in (
      omega (arith, same, c.in_ok-any.ensures.answer.least, c.requires.first_can.hi_greater, c.requires.second_can.lo_greater, c.requires.second_can.hi_greater, c.ranges.var.fits),
      (
        found_kept c.args.store.now c.union_sets.new.store c.args.first.hi kept c.requires.first_can.hi_in,
        (
          c.in_ok-any.ensures.answer.found,
          (
            apart_kept c.args.store.now c.union_sets.new.store c.args.first.hi kept c.requires.first_can.hi_in c.requires.first_can.hi_apart,
            c.in_ok-any.ensures.answer.right.apart,
          ),
        ),
      ),
    )

pub product_with-product_sets-requires-3 : goal.product_with-product_sets-requires-3
product_with-product_sets-requires-3 t c =
    let kept : Keeps c.args.store.now c.product_sets-2.new.store = Keeps_trans c.args.store.now c.union_sets.new.store c.product_sets-2.new.store c.union_sets.ensures.kept c.product_sets-2.ensures.kept in
    let first = least_kept c.args.store.now c.product_sets-2.new.store c.args.first.lo kept c.requires.first_can.lo_in in
    let second = least_kept c.args.store.now c.product_sets-2.new.store c.args.second.hi kept c.requires.second_can.hi_in in (
      omega (arith, first, second, c.requires.first_can.lo_greater, c.requires.second_can.hi_greater, c.ranges.var.fits),
      (
        found_kept c.args.store.now c.product_sets-2.new.store c.args.first.lo kept c.requires.first_can.lo_in,
        (
          found_kept c.args.store.now c.product_sets-2.new.store c.args.second.hi kept c.requires.second_can.hi_in,
          (
            apart_kept c.args.store.now c.product_sets-2.new.store c.args.first.lo kept c.requires.first_can.lo_in c.requires.first_can.lo_apart,
            apart_kept c.args.store.now c.product_sets-2.new.store c.args.second.hi kept c.requires.second_can.hi_in c.requires.second_can.hi_apart,
          ),
        ),
      ),
    )

pub product_with-union_sets-requires-2-clause-a_apart : goal.product_with-union_sets-requires-2-clause-a_apart
product_with-union_sets-requires-2-clause-a_apart t c =
    apart_kept c.product_sets-2.new.store c.product_sets-3.new.store c.in_ok-with_first.with_first c.product_sets-3.ensures.kept c.in_ok-with_first.ensures.answer.found c.in_ok-with_first.ensures.answer.right.right.apart
