use Rattle.std.proofs.Common.{ℕ, List, All, ◌<◌, length, subst, sym}
use Rattle.fault_system.specs.Truth.{set_of}
use Rattle.backward_slice.specs.Slices.{HasItsCauses}
use Rattle.dependency_blocks.proofs.AllFacts.{slice-causes, slice-ranged}
use Rattle.dependency_blocks.proofs.finding.blocks.Goals as goal

pub blocks_of-requires-clause-ranged : goal.blocks_of-requires-clause-ranged
blocks_of-requires-clause-ranged c =
    subst (λ (ns : List ℕ). All (λ n. n < length c.args.system.now.facts) ns) (sym c.items.ensures.items) (slice-ranged c.args.system.now c.args.slice.now c.requires)

pub blocks_of-requires-clause-causes : goal.blocks_of-requires-clause-causes
blocks_of-requires-clause-causes c =
    subst (λ (ns : List ℕ). HasItsCauses c.args.system.now (set_of ns)) (sym c.items.ensures.items) (slice-causes c.args.system.now c.args.slice.now c.requires)
