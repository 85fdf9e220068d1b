use Rattle.std.proofs.Common.{◌≡◌, ◌-◌, sym, subst, Ok, arith}
use Rattle.zdd_store.specs.inner.Family.{branch, least_number}
use Rattle.zdd_store.specs.inner.Store.{family_of, Keeps}
use Rattle.zdd_store.specs.inner.Answers.{sets_up_to}
use Rattle.zdd_families.proofs.Ways.{Keeps_same, Keeps_trans, answers_one, finish_one}
use Rattle.zdd_families.proofs.Sizing.{told_answer, filter_lo, filter_made, least_filtered, up_to-branch, up_to-none, least-up_to}
use Rattle.zdd_families.proofs.sizes.+sets_within.Goals as goal

pub returns-in-Some : goal.returns-in-Some
returns-in-Some t c =
    told_answer c.args.store.now c.args.a c.in-Some.answer (sets_up_to c.args.most) (least-up_to c.args.most) c.in-Some.ensures.told.0 c.in-Some.ensures.told.1

pub returns-in-Some-known : goal.returns-in-Some-known
returns-in-Some-known t c =
    finish_one c.args.store.now c.args.store.now (λ a r. r ≡ sets_up_to c.args.most a) (least_number (family_of c.args.store.now c.args.a)) c.args.a (Ok c.in-Some-known.answer)
    (Keeps_same c.args.store.now) c.requires
    (λ family. least_filtered (sets_up_to c.args.most) (family_of c.args.store.now c.args.a) family (least-up_to c.args.most)) c.in-Some-known.ensures

pub note-requires : goal.note-requires
note-requires t c =
    let none : sets_up_to c.args.most (branch c.first_var-var.result (family_of c.args.store.now c.split-parts.result.lo) (family_of c.args.store.now c.split-parts.result.hi)) ≡ sets_up_to c.args.most (family_of c.args.store.now c.split-parts.result.lo) =
    subst (λ n. sets_up_to n (branch c.first_var-var.result (family_of c.args.store.now c.split-parts.result.lo) (family_of c.args.store.now c.split-parts.result.hi)) ≡ sets_up_to n (family_of c.args.store.now c.split-parts.result.lo))
    (sym c.if-most-eq0.true) (up_to-none c.first_var-var.result _ _) in
    answers_one c.args.store.now c.sets_within.new.store (λ a r. r ≡ sets_up_to c.args.most a) c.args.a c.in_ok-lo.lo c.sets_within.ensures.kept c.requires c.in_ok-lo.ensures.answer.found
    (filter_lo c.args.store.now c.sets_within.new.store c.args.a c.in_ok-lo.lo c.split-parts.result c.first_var-var.result (sets_up_to c.args.most) c.split-parts.ensures none c.in_ok-lo.ensures.answer.right)

pub returns-then-most-eq0 : goal.returns-then-most-eq0
returns-then-most-eq0 t c =
    finish_one c.args.store.now c.note.new.store (λ a r. r ≡ sets_up_to c.args.most a) (least_number (family_of c.args.store.now c.args.a)) c.args.a c.note.result
    (subst (Keeps c.args.store.now) (sym c.note.ensures.same) c.sets_within.ensures.kept) c.requires
    (λ family. least_filtered (sets_up_to c.args.most) (family_of c.args.store.now c.args.a) family (least-up_to c.args.most)) c.note.ensures.right

pub note-requires-2 : goal.note-requires-2
note-requires-2 t c =
    answers_one c.args.store.now c.make.new.self (λ a r. r ≡ sets_up_to c.args.most a) c.args.a c.in_ok-answer.answer
    (Keeps_trans _ _ _ (Keeps_trans _ _ _ c.sets_within.ensures.kept c.sets_within-2.ensures.kept) c.make.ensures.kept)
    c.requires c.in_ok-answer.ensures.found
    (filter_made c.args.store.now c.sets_within.new.store c.sets_within-2.new.store c.make.new.self c.args.a c.in_ok-lo.lo c.in_ok-hi.hi c.in_ok-answer.answer c.split-parts.result c.first_var-var.result _ _
    (sets_up_to c.args.most) (sets_up_to (c.args.most - 1)) c.split-parts.ensures
    (up_to-branch c.args.most c.first_var-var.result (family_of c.args.store.now c.split-parts.result.lo) (family_of c.args.store.now c.split-parts.result.hi) (omega arith))
    c.sets_within.ensures.kept c.sets_within-2.ensures.kept c.in_ok-lo.ensures.answer c.in_ok-hi.ensures.answer c.in_ok-answer.ensures.family)

pub returns : goal.returns
returns t c =
    finish_one c.args.store.now c.note-2.new.store (λ a r. r ≡ sets_up_to c.args.most a) (least_number (family_of c.args.store.now c.args.a)) c.args.a c.note-2.result
    (subst (Keeps c.args.store.now) (sym c.note-2.ensures.same)
    (Keeps_trans _ _ _ (Keeps_trans _ _ _ c.sets_within.ensures.kept c.sets_within-2.ensures.kept) c.make.ensures.kept)) c.requires
    (λ family. least_filtered (sets_up_to c.args.most) (family_of c.args.store.now c.args.a) family (least-up_to c.args.most)) c.note-2.ensures.right
