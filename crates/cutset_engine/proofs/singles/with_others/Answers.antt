use Rattle.std.proofs.Common.{◌≡◌, ◌<◌, length, Option, Some, sym, subst}
use Rattle.std.specs.Prelude.{IfSome}
use lib.ListN.{length-map}
use Rattle.fault_system.specs.Systems.{System}
use Rattle.zdd_store.specs.inner.Family.{Family}
use Rattle.zdd_store.specs.inner.Store.{family_of}
use Rattle.zdd_store.specs.declared.id.Id.{Id}
use Rattle.cutset_engine.specs.inner.Families.{HasMinimalCutSets}
use Rattle.cutset_engine.specs.inner.ThinSystems.{AreSingles, thin_fact}
use Rattle.cutset_engine.proofs.Ending.{target-fact}
use Rattle.cutset_engine.proofs.ThinFamilies.{cut-sets-apart, joined-cut-sets}
use Rattle.cutset_engine.proofs.singles.with_others.Goals as goal

pub sliced_family-requires : goal.sliced_family-requires
sliced_family-requires c =
    let target = c.args.asked.now.slice.now.target in
    subst (λ (thin : System). target < length thin.facts) (sym c.in_ok-thin.ensures)
    (subst (λ count. target < count) (sym (length-map c.args.asked.now.system.now.facts (thin_fact c.args.alone.now target))) (target-fact c.args.asked.now.system.now target c.args.asked.now.slice.now c.requires.slice))

pub joined-requires-clause-apart : goal.joined-requires-clause-apart
joined-requires-clause-apart c =
    let target = c.args.asked.now.slice.now.target in
    let most = c.args.asked.now.most in
    let middle = c.sliced_family.new.store in
    cut-sets-apart c.in_ok-thin.thin target most (family_of middle c.in-Some.rest)
    (subst (λ (others : Option Id). IfSome others (λ rest. HasMinimalCutSets c.in_ok-thin.thin target most (family_of middle rest))) c.in-Some.is c.in_ok-others.ensures.exact)

pub returns-in-Some-clause-exact : goal.returns-in-Some-clause-exact
returns-in-Some-clause-exact c =
    let system = c.args.asked.now.system.now in
    let target = c.args.asked.now.slice.now.target in
    let most = c.args.asked.now.most in
    let middle = c.sliced_family.new.store in
    let same : family_of middle c.args.ones ≡ family_of c.args.store.now c.args.ones = c.sliced_family.ensures.kept.same c.args.ones.position c.requires.ones_in in
    let exact : HasMinimalCutSets c.in_ok-thin.thin target most (family_of middle c.in-Some.rest) =
    subst (λ (others : Option Id). IfSome others (λ rest. HasMinimalCutSets c.in_ok-thin.thin target most (family_of middle rest))) c.in-Some.is c.in_ok-others.ensures.exact in
    joined-cut-sets system target most c.args.alone.now (family_of middle c.args.ones) (family_of middle c.in-Some.rest) (family_of c.joined.new.store c.in_ok-joined-in-Some.field-0) c.requires.allowed
    (subst (λ (family : Family). HasMinimalCutSets system target (Some 1) family) (sym same) c.requires.ones)
    (subst (λ (thin : System). HasMinimalCutSets thin target most (family_of middle c.in-Some.rest)) c.in_ok-thin.ensures exact)
    (subst (λ (family : Family). AreSingles family c.args.alone.now) (sym same) c.requires.alone) c.in_ok-joined-in-Some.ensures.minimal
