use Rattle.std.proofs.Common.{◌∙◌}
use Rattle.round_gates.specs.inner.Walks.{node_in}
use Rattle.round_gates.proofs.Writing.{places-inside}
use Rattle.round_gates.proofs.unrolling.run_stage.Goals as goal

pub write_all-requires : goal.write_all-requires
write_all-requires c = places-inside c.args.system.now (node_in c.args.nodes.now) c.args.stage _ c.args.members.now c.requires.inside _ (c.as_slice.ensures.value ∙ c.in_ok-found.ensures.found)
