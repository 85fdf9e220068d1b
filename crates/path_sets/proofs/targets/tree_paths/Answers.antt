use Rattle.std.proofs.Common.{IfErr, IfOk, subst}
use Rattle.plain_values.specs.inner.Stops.{StopsFor}
use Rattle.fault_system.specs.Systems.{System}
use Rattle.backward_slice.specs.Slices.{HasLargeSlice}
use Rattle.zdd_store.specs.inner.Store.{family_of}
use Rattle.path_sets.specs.Duals.{dual_of}
use Rattle.path_sets.specs.inner.PathSets.{AreServedEvents, HasMinimalPathSets}
use Rattle.path_sets.proofs.targets.tree_paths.Goals as goal

pub returns-clause-exact : goal.returns-clause-exact
returns-clause-exact c =
    subst (λ (gates : System). IfOk c.paths.result (λ paths. HasMinimalPathSets gates c.args.tree.now.top c.args.most (family_of c.paths.new.store paths.family))) c.in_ok-gates.ensures.gates c.paths.ensures.exact

pub returns-clause-events : goal.returns-clause-events
returns-clause-events c =
    subst (λ (gates : System). IfOk c.paths.result (λ paths. AreServedEvents (dual_of gates) c.args.tree.now.top paths.events)) c.in_ok-gates.ensures.gates c.paths.ensures.events

pub returns-clause-refused : goal.returns-clause-refused
returns-clause-refused c =
    subst (λ (gates : System). IfErr c.paths.result (StopsFor (HasLargeSlice (dual_of gates) c.args.tree.now.top))) c.in_ok-gates.ensures.gates c.paths.ensures.refused
