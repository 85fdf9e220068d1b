use Rattle.std.proofs.Common.{ℕ, ◌<◌, All, sym, subst}
use Rattle.fault_system.proofs.NumberSets.{RisesWithin-each}
use Rattle.system_answers.proofs.derivations_text.events_of.Goals as goal

pub of-requires : goal.of-requires
of-requires c = subst (λ (n : ℕ). All (λ m. m < n) c.args.set.now) (sym c.events.ensures.count) (RisesWithin-each _ _ _ c.requires)
