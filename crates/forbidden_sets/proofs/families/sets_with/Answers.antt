use Rattle.std.proofs.Common.{◌≡◌, ◌∙◌, ap}
use Rattle.zdd_store.specs.inner.Family.{sets_without}
use Rattle.zdd_store.specs.inner.Store.{family_of}
use Rattle.zdd_families.proofs.Pairs.{found_kept}
use Rattle.zdd_families.proofs.Ways.{Keeps_trans}
use Rattle.forbidden_sets.proofs.Firsts.{minimal-apart}
use Rattle.forbidden_sets.proofs.Parts.{those-with}
use Rattle.forbidden_sets.proofs.Staying.{all-stay}
use Rattle.forbidden_sets.proofs.families.sets_with.Goals as goal

pub without-requires-clause-a_in : goal.without-requires-clause-a_in
without-requires-clause-a_in c = found_kept c.cut_sets.new.store c.single.new.store c.in_ok-all.all c.single.ensures.kept c.in_ok-all.ensures.found

pub without-requires-2-clause-a_in : goal.without-requires-2-clause-a_in
without-requires-2-clause-a_in c =
    found_kept c.cut_sets.new.store c.without.new.store c.in_ok-all.all (Keeps_trans _ _ _ c.single.ensures.kept c.without.ensures.kept) c.in_ok-all.ensures.found

pub returns-clause-exact : goal.returns-clause-exact
returns-clause-exact c =
    let system = c.args.judged.now.system.now in
    let target = c.args.judged.now.slice.now.target in
    let all = c.in_ok-all.all in
    let one = family_of c.single.new.store c.in_ok-one.one in
    let others = family_of c.without.new.store c.in_ok-others.others in
    let kept = Keeps_trans _ _ _ c.single.ensures.kept c.without.ensures.kept in
    let second : family_of c.single.new.store all ≡ family_of c.cut_sets.new.store all = c.single.ensures.kept.same all.position c.in_ok-all.ensures.found in
    let third : family_of c.without.new.store all ≡ family_of c.cut_sets.new.store all = kept.same all.position c.in_ok-all.ensures.found in
    those-with system target c.args.event (family_of c.cut_sets.new.store all) one others (family_of c.without-2.new.store c.in_ok-id.id) c.in_ok-all.ensures.exact c.in_ok-one.ensures.family
    (c.in_ok-others.ensures.family ∙ ap (λ f. sets_without f one) second) (c.in_ok-id.ensures.family ∙ ap (λ f. sets_without f others) third) (minimal-apart system target)

pub returns-in_err-one-clause-families : goal.returns-in_err-one-clause-families
returns-in_err-one-clause-families c =
    all-stay c.args.judged.now.system.now c.cut_sets.new.store c.single.new.store c.cut_sets.new.families c.single.ensures.kept c.cut_sets.ensures.families

pub returns-in_err-others-clause-families : goal.returns-in_err-others-clause-families
returns-in_err-others-clause-families c =
    all-stay c.args.judged.now.system.now c.cut_sets.new.store c.without.new.store c.cut_sets.new.families (Keeps_trans _ _ _ c.single.ensures.kept c.without.ensures.kept) c.cut_sets.ensures.families

pub returns-in_err-id-clause-families : goal.returns-in_err-id-clause-families
returns-in_err-id-clause-families c =
    all-stay c.args.judged.now.system.now c.cut_sets.new.store c.without-2.new.store c.cut_sets.new.families (Keeps_trans _ _ _ (Keeps_trans _ _ _ c.single.ensures.kept c.without.ensures.kept) c.without-2.ensures.kept) c.cut_sets.ensures.families

pub returns-clause-families : goal.returns-clause-families
returns-clause-families c =
    all-stay c.args.judged.now.system.now c.cut_sets.new.store c.without-2.new.store c.cut_sets.new.families (Keeps_trans _ _ _ (Keeps_trans _ _ _ c.single.ensures.kept c.without.ensures.kept) c.without-2.ensures.kept) c.cut_sets.ensures.families
