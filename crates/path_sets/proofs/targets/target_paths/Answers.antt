use Rattle.std.proofs.Common.{Contains, inl, sym, subst}
use Rattle.std.proofs.lemmas.Result.{IfErr-weaker, IfOk-weaker}
use Rattle.round_gates.specs.inner.Targets.{HasNoTree}
use Rattle.zdd_store.specs.inner.Family.{Family}
use Rattle.zdd_store.specs.inner.Store.{family_of}
use Rattle.path_sets.specs.inner.PathSets.{HasMinimalPathSets}
use Rattle.path_sets.proofs.Listings.{clear-constant, clear-tree, constant-among, constant-exact, on_ok, target-exact, tree-refused}
use Rattle.path_sets.proofs.targets.target_paths.Goals as goal

pub returns-in-Ok-clause-exact : goal.returns-in-Ok-clause-exact
returns-in-Ok-clause-exact c =
    let system = c.args.system.now in
    let target = c.args.slice.now.target in
    IfOk-weaker c.tree_paths.result _ _
    (λ paths exact. target-exact system c.facts-facts.ensures.system target c.in-Ok.tree c.in-Ok.ensures.target c.args.most (family_of c.tree_paths.new.store paths.family) exact)
    c.tree_paths.ensures.exact

pub returns-in-Ok-clause-clear : goal.returns-in-Ok-clause-clear
returns-in-Ok-clause-clear c =
    on_ok c.tree_paths.result _
    (λ paths events. clear-tree c.args.system.now c.facts-facts.ensures.system c.args.slice.now.target c.in-Ok.tree c.in-Ok.ensures.target paths.events events)
    c.tree_paths.ensures.events

pub returns-in-Ok-clause-refused : goal.returns-in-Ok-clause-refused
returns-in-Ok-clause-refused c =
    IfErr-weaker c.tree_paths.result _ _
    (λ stop why. tree-refused c.args.system.now c.facts-facts.ensures.system c.args.slice.now.target c.in-Ok.tree c.in-Ok.ensures.target stop why)
    c.tree_paths.ensures.refused

pub returns-in-Err-Constant-clause-exact : goal.returns-in-Err-Constant-clause-exact
returns-in-Err-Constant-clause-exact c =
    let system = c.args.system.now in
    let target = c.args.slice.now.target in
    let sets = rw c.in-Err-Constant.field-0-is at c.constant_family.ensures.sets in
    subst (HasMinimalPathSets system target c.args.most) (sym sets)
    (constant-exact system target c.in-Err-Constant.always c.args.most (subst (HasNoTree system target) c.in-Err-Constant.field-0-is c.in-Err-Constant.ensures.none))

pub returns-in-Err-Constant-clause-among : goal.returns-in-Err-Constant-clause-among
returns-in-Err-Constant-clause-among c = λ set here.
    let sets = rw c.in-Err-Constant.field-0-is at c.constant_family.ensures.sets in
    constant-among c.in-Err-Constant.always c.constant_family.result.events set (subst (λ (family : Family). Contains family set) sets here)

pub returns-in-Err-Constant-clause-clear : goal.returns-in-Err-Constant-clause-clear
returns-in-Err-Constant-clause-clear c =
    let system = c.args.system.now in
    let target = c.args.slice.now.target in
    clear-constant system target c.in-Err-Constant.always (subst (HasNoTree system target) c.in-Err-Constant.field-0-is c.in-Err-Constant.ensures.none)

pub returns-in-Err-Refused-clause-refused : goal.returns-in-Err-Refused-clause-refused
returns-in-Err-Refused-clause-refused c =
    let system = c.args.system.now in
    let target = c.args.slice.now.target in
    rw c.in-Err-Refused.field-0-is (inl (subst (HasNoTree system target) c.in-Err-Refused.field-0-is c.in-Err-Refused.ensures.none))
