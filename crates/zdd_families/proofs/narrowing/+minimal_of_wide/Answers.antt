use Rattle.std.proofs.Common.{refl, sym, subst, Ok, arith}
use Rattle.zdd_store.specs.inner.Family.{least_number, covers}
use Rattle.zdd_store.specs.inner.Store.{family_of, Keeps}
use Rattle.zdd_store.specs.inner.Answers.{IsLeastFamily}
use Rattle.zdd_families.proofs.Ways.{answered, finish_one, answers_one, least-minimal, Keeps_same, Keeps_trans, minimal_made}
use Rattle.zdd_families.proofs.narrowing.+minimal_of_wide.Goals as goal

pub returns-then-shape : goal.returns-then-shape
returns-then-shape t c = answered c.args.a c.requires (omega arith) (record { covering = λ set. refl; apart = c.shape-shape.ensures.apart c.if-shape.true })

pub returns-in-Some : goal.returns-in-Some
returns-in-Some t c =
    finish_one c.args.store.now c.args.store.now (λ a r. IsLeastFamily (covers a) r) (least_number (family_of c.args.store.now c.args.a)) c.args.a (Ok c.in-Some.answer)
    (Keeps_same c.args.store.now) c.requires (λ family. least-minimal (family_of c.args.store.now c.args.a) family) c.in-Some.ensures

pub note-requires : goal.note-requires
note-requires t c =
    answers_one c.args.store.now c.join_above.new.store (λ a r. IsLeastFamily (covers a) r) c.args.a c.in_ok-answer.answer
    (Keeps_trans _ _ _ (Keeps_trans c.args.store.now _ _ c.minimal_of_wide.ensures.kept c.minimal_of_wide-2.ensures.kept) c.join_above.ensures.kept)
    c.requires c.in_ok-answer.ensures.answer.found
    (minimal_made c.args.store.now c.minimal_of_wide.new.store c.minimal_of_wide-2.new.store c.join_above.new.store c.args.a c.in_ok-lo.lo c.in_ok-hi.hi c.in_ok-answer.answer
    c.split-parts.result c.first_var-var.result _ _ _ c.split-parts.ensures c.minimal_of_wide.ensures.kept c.minimal_of_wide-2.ensures.kept
    c.in_ok-lo.ensures.answer c.in_ok-hi.ensures.answer c.in_ok-answer.ensures.answer)

pub returns : goal.returns
returns t c =
    finish_one c.args.store.now c.note.new.store (λ a r. IsLeastFamily (covers a) r) (least_number (family_of c.args.store.now c.args.a)) c.args.a c.note.result
    (subst (Keeps c.args.store.now) (sym c.note.ensures.same) (Keeps_trans _ _ _ (Keeps_trans c.args.store.now _ _ c.minimal_of_wide.ensures.kept c.minimal_of_wide-2.ensures.kept) c.join_above.ensures.kept))
    c.requires (λ family. least-minimal (family_of c.args.store.now c.args.a) family) c.note.ensures.right
