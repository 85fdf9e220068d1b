use Rattle.std.proofs.Common.{get_or, ◌∙◌, rules}
use Rattle.round_gates.specs.declared.node.Node.TheVariants.{Always}
use Rattle.round_gates.specs.declared.node.Part.{Part}
use Rattle.round_gates.proofs.Writing.{written-next}
use Rattle.round_gates.proofs.unrolling.write_all.Goals as goal

pub loop-part-preserved : goal.loop-part-preserved
loop-part-preserved c = λ fact.
    let part : Part = get_or c.args.found.now c.loop-part.part-index (record { place = 0; node = Always }) in
    written-next c.args.found.now c.loop-part.part-index part c.loop-part.nodes c.loop-part-test.true (search rules) (search rules) fact ∙ c.loop-part.invariant fact
