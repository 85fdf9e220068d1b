use Rattle.std.proofs.Common.{ℕ, ◌<◌, All, sym, ◌∙◌, subst}
use Rattle.fault_system.proofs.NumberSets.{RisesWithin-each}
use Rattle.fault_system.proofs.CutSetLaws.{is_minimal-exact, minimal_answer-no, minimal_answer-yes}
use Rattle.fault_system.proofs.system.FaultSystem.is_minimal_cut_set.Goals as goal
use Rattle.fault_system.proofs.system.FaultSystem.is_minimal_cut_set.Goals.{then-is_cut_set+in_ok-is_minimal, else-is_cut_set}

pub of-requires : goal.of-requires
of-requires c = subst (λ (n : ℕ). All (λ m. m < n) c.args.set.now) (sym c.events.ensures.count) (RisesWithin-each _ _ _ c.requires)

pub returns-clause-computed : goal.returns-clause-computed
returns-clause-computed c = elim c.if-is_cut_set.branch [
  | then-is_cut_set+in_ok-is_minimal w ↦ w.is_minimal-is ∙ minimal_answer-yes c.args.self.now c.args.target c.args.set.now _ _ _ c.in_ok-events.ensures.numbers c.in_ok-is_cut_set.ensures w.if-is_cut_set.true w.in_ok-is_minimal.ensures
  | else-is_cut_set w ↦ w.is_minimal-is ∙ minimal_answer-no c.args.self.now c.args.target c.args.set.now _ _ c.in_ok-events.ensures.numbers c.in_ok-is_cut_set.ensures w.if-is_cut_set.false
]

pub returns-clause-exact : goal.returns-clause-exact
returns-clause-exact c = rw (returns-clause-computed c) (is_minimal-exact c.args.self.now c.args.target c.args.set.now c.requires)
