use Rattle.std.proofs.Common.{◌≡◌, Some, sym, subst}
use Rattle.zdd_store.specs.inner.Store.{family_of}
use Rattle.cutset_engine.specs.inner.Families.{HasMinimalCutSets}
use Rattle.forbidden_sets.proofs.Parts.{others-left}
use Rattle.zdd_families.proofs.Ways.{Keeps_trans}
use Rattle.forbidden_sets.proofs.Staying.{all-stay}
use Rattle.forbidden_sets.proofs.families.other_sets.Goals as goal

pub returns-clause-exact : goal.returns-clause-exact
returns-clause-exact c =
    let system = c.args.judged.now.system.now in
    let target = c.args.judged.now.slice.now.target in
    let sets = c.in_ok-sets.sets in
    let middle = c.sets_family.new.store in
    let same : family_of middle sets ≡ family_of c.cut_sets.new.store sets = c.sets_family.ensures.kept.same sets.position c.in_ok-sets.ensures.found in
    others-left system target c.args.most c.args.parts.now (family_of middle sets) (family_of middle c.in_ok-all.all) (family_of c.without.new.store c.in_ok-id.id)
    (subst (HasMinimalCutSets system target (Some c.args.most)) (sym same) c.in_ok-sets.ensures.exact) c.in_ok-all.ensures.covers c.in_ok-id.ensures.family

pub returns-in_err-all-clause-families : goal.returns-in_err-all-clause-families
returns-in_err-all-clause-families c =
    all-stay c.args.judged.now.system.now c.cut_sets.new.store c.sets_family.new.store c.cut_sets.new.families c.sets_family.ensures.kept c.cut_sets.ensures.families

pub returns-in_err-id-clause-families : goal.returns-in_err-id-clause-families
returns-in_err-id-clause-families c =
    all-stay c.args.judged.now.system.now c.cut_sets.new.store c.without.new.store c.cut_sets.new.families (Keeps_trans _ _ _ c.sets_family.ensures.kept c.without.ensures.kept) c.cut_sets.ensures.families

pub returns-clause-families : goal.returns-clause-families
returns-clause-families c =
    all-stay c.args.judged.now.system.now c.cut_sets.new.store c.without.new.store c.cut_sets.new.families (Keeps_trans _ _ _ c.sets_family.ensures.kept c.without.ensures.kept) c.cut_sets.ensures.families
