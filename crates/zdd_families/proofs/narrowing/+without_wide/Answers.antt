use Rattle.std.proofs.Common.{◌≡◌, ◌≤◌, ◌∙◌, sym, subst, eqb-true}
use Rattle.zdd_store.specs.inner.Family.{least_number, sets_without}
use Rattle.zdd_store.specs.inner.Store.{family_of, Keeps}
use Rattle.zdd_families.proofs.Branchwise.{without_wide_made}
use Rattle.zdd_families.proofs.Ways.{answered_without, least-without, without_empty_first, without_empty_second, without_same, without_unit, without_skip, Keeps_four, answers_two, finish_two}
use Rattle.zdd_families.proofs.narrowing.+without_wide.Goals as goal
use Rattle.zdd_families.proofs.narrowing.+without_wide.Goals.{then-eq-via-then-eq, then-eq-via-else-eq+then-eq-2, then-eq-3-via-then-eq-3, then-eq-3-via-else-eq-3+then-eq-4}

pub returns-then-eq : goal.returns-then-eq
returns-then-eq t c = elim c.then-eq.branch [
  | then-eq-via-then-eq w ↦ without_empty_first c.args.store.now c.args.a c.args.b c.laws.ensures c.requires.a_in (eqb-true c.args.a.position 0 (sym c.eq.ensures ∙ w.if-eq.true))
  | then-eq-via-else-eq+then-eq-2 w ↦ without_empty_second c.args.store.now c.args.a c.args.b c.laws.ensures c.requires.a_in (eqb-true c.args.b.position 0 (sym w.eq-else-eq.ensures ∙ w.if-eq-2.true))
]

pub returns-then-eq-3 : goal.returns-then-eq-3
returns-then-eq-3 t c = elim c.then-eq-3.branch [
  | then-eq-3-via-then-eq-3 w ↦ without_same c.args.store.now c.args.a c.args.b c.laws.ensures c.requires.a_in (eqb-true c.args.a.position c.args.b.position (sym c.eq-2.ensures ∙ w.if-eq-3.true))
  | then-eq-3-via-else-eq-3+then-eq-4 w ↦ without_unit c.args.store.now c.args.a c.args.b c.laws.ensures (eqb-true c.args.b.position 1 (sym w.eq-else-eq-3.ensures ∙ w.if-eq-4.true))
]

pub returns-then-small : goal.returns-then-small
returns-then-small t c = answered_without c.args.store.now c.args.a c.args.b c.args.a c.requires.a_in (sym (c.are_too_small-small.ensures c.if-small.true))

pub returns-then-var-ne0 : goal.returns-then-var-ne0
returns-then-var-ne0 t c =
    without_skip c.args.store.now c.without_wide.new.store c.args.a c.args.b c.split-first.result c.split-second.result c.first_var-var.result c.without_wide.result c.laws.ensures c.if-first-eq0.true
    c.split-first.ensures c.split-second.ensures c.without_wide.ensures

pub returns-in-Some : goal.returns-in-Some
returns-in-Some t c = answered_without c.args.store.now c.args.a c.args.b c.in-Some.answer c.in-Some.ensures.answer_in c.in-Some.ensures.right

-- the answer after its making
right : (t : _) (c : goal.After-note-arg-1 t) → family_of c.make.new.self c.in_ok-answer.answer ≡ sets_without (family_of c.args.store.now c.args.a) (family_of c.args.store.now c.args.b)
right t c =
    without_wide_made c.args.store.now c.wide_parts.new.store c.without_wide-2.new.store c.without_wide-3.new.store c.make.new.self c.args.a c.args.b
    c.in_ok-lo.lo c.in_ok-hi.hi c.in_ok-answer.answer c.split-first.result c.in_ok-parts.parts c.first_var-var.result _ _
    c.split-first.ensures c.wide_parts.ensures.kept c.in_ok-parts.ensures.parts c.without_wide-2.ensures.kept c.without_wide-3.ensures.kept
    c.in_ok-lo.ensures.answer c.in_ok-hi.ensures.answer c.in_ok-answer.ensures.family

pub note-requires : goal.note-requires
note-requires t c =
    answers_two c.args.store.now c.make.new.self (λ a b r. r ≡ sets_without a b) c.args.a c.args.b c.in_ok-answer.answer
    (Keeps_four c.args.store.now _ _ _ c.make.new.self c.wide_parts.ensures.kept c.without_wide-2.ensures.kept c.without_wide-3.ensures.kept c.make.ensures.kept)
    c.requires.a_in c.requires.b_in c.in_ok-answer.ensures.found (right t c)

pub returns : goal.returns
returns t c =
    finish_two c.args.store.now c.note.new.store (λ a b r. r ≡ sets_without a b) (least_number (family_of c.args.store.now c.args.a)) c.args.a c.args.b c.note.result
    (subst (Keeps c.args.store.now) (sym c.note.ensures.same)
    (Keeps_four c.args.store.now _ _ _ c.make.new.self c.wide_parts.ensures.kept c.without_wide-2.ensures.kept c.without_wide-3.ensures.kept c.make.ensures.kept))
    c.requires.a_in c.requires.b_in least_without_is c.note.ensures.right
  where
    least_without_is : (family : _) → family ≡ sets_without (family_of c.args.store.now c.args.a) (family_of c.args.store.now c.args.b) → least_number (family_of c.args.store.now c.args.a) ≤ least_number family
    least_without_is family e = subst (λ f. least_number (family_of c.args.store.now c.args.a) ≤ least_number f) (sym e) (least-without (family_of c.args.store.now c.args.a) (family_of c.args.store.now c.args.b))
