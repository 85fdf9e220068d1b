use Rattle.std.proofs.Common.{min, sym, subst, Ok}
use Rattle.zdd_store.specs.inner.Family.{least_number}
use Rattle.zdd_store.specs.inner.Store.{family_of, Keeps}
use Rattle.zdd_store.specs.inner.Answers.{IsLeastFamily}
use Rattle.zdd_families.specs.inner.Steps.{either}
use Rattle.zdd_families.proofs.Ways.{Keeps_same, answers_two, finish_two}
use Rattle.zdd_families.proofs.Pairs.{least-either}
use Rattle.zdd_families.proofs.union.kept_union.Goals as goal

pub returns-in-Some : goal.returns-in-Some
returns-in-Some c =
    finish_two c.args.store.now c.args.store.now (λ a b r. IsLeastFamily (either a b) r) (min (least_number (family_of c.args.store.now c.args.a)) (least_number (family_of c.args.store.now c.args.b)))
    c.args.a c.args.b (Ok c.in-Some.answer) (Keeps_same c.args.store.now) c.requires.a_in c.requires.b_in
    (λ family. least-either (family_of c.args.store.now c.args.a) (family_of c.args.store.now c.args.b) family) c.in-Some.ensures

pub keep-requires : goal.keep-requires
keep-requires c =
    answers_two c.args.store.now c.union_sets.new.store (λ a b r. IsLeastFamily (either a b) r) c.args.a c.args.b c.in_ok-answer.answer c.union_sets.ensures.kept
    c.requires.a_in c.requires.b_in c.in_ok-answer.ensures.answer.found c.in_ok-answer.ensures.answer.right

pub returns : goal.returns
returns c =
    finish_two c.args.store.now c.keep.new.store (λ a b r. IsLeastFamily (either a b) r) (min (least_number (family_of c.args.store.now c.args.a)) (least_number (family_of c.args.store.now c.args.b)))
    c.args.a c.args.b c.keep.result (subst (Keeps c.args.store.now) (sym c.keep.ensures.same) c.union_sets.ensures.kept)
    c.requires.a_in c.requires.b_in (λ family. least-either (family_of c.args.store.now c.args.a) (family_of c.args.store.now c.args.b) family) c.keep.ensures.right
