use Rattle.std.proofs.Common.{◌<◌, IfErr, IfOk, length, sym, subst}
use Rattle.std.proofs.lemmas.Result.{IfOk-weaker}
use lib.ListN.{length-map}
use Rattle.plain_values.specs.inner.Stops.{StopsFor}
use Rattle.fault_system.specs.Systems.{System}
use Rattle.backward_slice.specs.Slices.{HasLargeSlice}
use Rattle.zdd_store.specs.inner.Store.{family_of}
use Rattle.cutset_engine.specs.inner.Families.{HasMinimalCutSets}
use Rattle.path_sets.specs.Duals.{dual_fact}
use Rattle.path_sets.specs.inner.PathSets.{AreServedEvents}
use Rattle.path_sets.proofs.Listings.{among-events, if_ok_both, paths-are}
use Rattle.path_sets.proofs.families.paths.Goals as goal

pub cut_family-requires : goal.cut_family-requires
cut_family-requires c =
    subst (λ (dual : System). c.args.target < length dual.facts) (sym c.in_ok-dual.ensures.made)
    (subst (λ count. c.args.target < count) (sym (length-map c.args.system.now.facts dual_fact)) c.requires.target)

pub returns-clause-exact : goal.returns-clause-exact
returns-clause-exact c =
    IfOk-weaker c.cut_family.result _ _
    (λ cuts exact. paths-are c.args.system.now c.facts-facts.ensures.system c.requires.free c.args.target c.requires.target c.args.most (family_of c.cut_family.new.store cuts.family)
    (subst (λ (dual : System). HasMinimalCutSets dual c.args.target c.args.most (family_of c.cut_family.new.store cuts.family)) c.in_ok-dual.ensures.made exact))
    c.cut_family.ensures.exact

pub returns-clause-among : goal.returns-clause-among
returns-clause-among c =
    if_ok_both c.cut_family.result _ _ _
    (λ cuts exact events. among-events c.in_ok-dual.dual c.args.target c.args.most (family_of c.cut_family.new.store cuts.family) cuts.events exact events)
    c.cut_family.ensures.exact c.cut_family.ensures.events

pub returns-clause-events : goal.returns-clause-events
returns-clause-events c =
    subst (λ (dual : System). IfOk c.cut_family.result (λ cuts. AreServedEvents dual c.args.target cuts.events)) c.in_ok-dual.ensures.made c.cut_family.ensures.events

pub returns-clause-refused : goal.returns-clause-refused
returns-clause-refused c =
    subst (λ (dual : System). IfErr c.cut_family.result (StopsFor (HasLargeSlice dual c.args.target))) c.in_ok-dual.ensures.made c.cut_family.ensures.refused
