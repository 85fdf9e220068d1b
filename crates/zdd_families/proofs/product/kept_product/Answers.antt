use Rattle.std.proofs.Common.{min, sym, subst, Ok}
use Rattle.zdd_store.specs.inner.Family.{least_number}
use Rattle.zdd_store.specs.inner.Store.{family_of, Keeps}
use Rattle.zdd_store.specs.inner.Answers.{IsProductUpTo}
use Rattle.zdd_families.proofs.Ways.{Keeps_same, answers_two, finish_two}
use Rattle.zdd_families.proofs.product.kept_product.Goals as goal

pub returns-in-Some : goal.returns-in-Some
returns-in-Some c =
    finish_two c.args.store.now c.args.store.now (IsProductUpTo c.args.most) (min (least_number (family_of c.args.store.now c.args.a)) (least_number (family_of c.args.store.now c.args.b)))
    c.args.a c.args.b (Ok c.in-Some.answer) (Keeps_same c.args.store.now) c.requires.a_in c.requires.b_in (λ family p. p.least) c.in-Some.ensures

pub keep-requires : goal.keep-requires
keep-requires c =
    answers_two c.args.store.now c.whole_product.new.store (IsProductUpTo c.args.most) c.args.a c.args.b c.in_ok-answer.answer c.whole_product.ensures.kept
    c.requires.a_in c.requires.b_in c.in_ok-answer.ensures.answer.found c.in_ok-answer.ensures.answer.right

pub returns : goal.returns
returns c =
    finish_two c.args.store.now c.keep.new.store (IsProductUpTo c.args.most) (min (least_number (family_of c.args.store.now c.args.a)) (least_number (family_of c.args.store.now c.args.b)))
    c.args.a c.args.b c.keep.result (subst (Keeps c.args.store.now) (sym c.keep.ensures.same) c.whole_product.ensures.kept)
    c.requires.a_in c.requires.b_in (λ family p. p.least) c.keep.ensures.right
