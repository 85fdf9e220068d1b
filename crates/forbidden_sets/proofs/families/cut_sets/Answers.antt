use Rattle.std.proofs.Common.{◌≡◌, Contains, sym, subst}
use Rattle.zdd_store.proofs.Orders.{all_contained}
use Rattle.forbidden_sets.specs.declared.found.FoundFamily.{FoundFamily}
use Rattle.forbidden_sets.specs.inner.Families.{AreFound, IsFound}
use Rattle.forbidden_sets.proofs.Staying.{all-stay, one-more}
use Rattle.forbidden_sets.proofs.families.cut_sets.Goals as goal

pub returns-in-Some-clause-found : goal.returns-in-Some-clause-found
returns-in-Some-clause-found c =
    let system = c.args.judged.now.system.now in
    let one : FoundFamily = record { target = c.args.judged.now.slice.now.target; most = c.args.most; id = c.in-Some.id } in
    let has = subst (λ families. Contains families one) c.items.ensures.items c.in-Some.ensures in
    (all_contained (IsFound system c.args.store.now) c.args.families.now one c.requires.families has).there

pub returns-in-Some-clause-exact : goal.returns-in-Some-clause-exact
returns-in-Some-clause-exact c =
    let system = c.args.judged.now.system.now in
    let one : FoundFamily = record { target = c.args.judged.now.slice.now.target; most = c.args.most; id = c.in-Some.id } in
    let has = subst (λ families. Contains families one) c.items.ensures.items c.in-Some.ensures in
    (all_contained (IsFound system c.args.store.now) c.args.families.now one c.requires.families has).exact

pub returns-in_err-id-clause-families : goal.returns-in_err-id-clause-families
returns-in_err-id-clause-families c =
    all-stay c.args.judged.now.system.now c.args.store.now c.new_family.new.store c.args.families.now c.new_family.ensures.kept c.requires.families

pub returns-in_err-push-clause-families : goal.returns-in_err-push-clause-families
returns-in_err-push-clause-families c =
    let system = c.args.judged.now.system.now in
    let store = c.new_family.new.store in
    let stayed = all-stay system c.args.store.now store c.args.families.now c.new_family.ensures.kept c.requires.families in
    subst (AreFound system store) (sym c.in_err-push.ensures.err) stayed

pub returns-clause-families : goal.returns-clause-families
returns-clause-families c =
    let system = c.args.judged.now.system.now in
    let store = c.new_family.new.store in
    let one : FoundFamily = record { target = c.args.judged.now.slice.now.target; most = c.args.most; id = c.in_ok-id.id } in
    let stayed = all-stay system c.args.store.now store c.args.families.now c.new_family.ensures.kept c.requires.families in
    let found : IsFound system store one = record { there = c.in_ok-id.ensures.found; exact = c.in_ok-id.ensures.exact } in
    subst (AreFound system store) (sym c.in_ok-push.ensures.ok) (one-more system store c.args.families.now one stayed found)
