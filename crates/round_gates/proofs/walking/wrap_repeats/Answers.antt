use Rattle.std.proofs.Common.{◌+◌, ◌++◌, get_or, drop, ap, ◌∙◌, rules}
use Rattle.round_gates.specs.declared.node.Node.TheVariants.{Always}
use Rattle.round_gates.specs.declared.node.Part.{Part}
use Rattle.round_gates.specs.Walks.{wrapped}
use Rattle.round_gates.proofs.Kept.{wrapped-next, repeats-next}
use Rattle.round_gates.proofs.walking.wrap_repeats.Goals as goal

pub loop-part-preserved : goal.loop-part-preserved
loop-part-preserved c =
    let part : Part = get_or c.args.parts.now c.loop-part.part-index (record { place = 0; node = Always }) in
    record {
      inputs = ap (λ ns. ns ++ wrapped c.args.stage c.input_of.new.seen.keys (drop (c.loop-part.part-index + 1) c.args.parts.now)) c.in_ok-push.ensures.ok
          ∙ wrapped-next c.args.stage c.loop-part.seen.keys c.input_of.new.seen.keys c.loop-part.inputs part c.args.parts.now c.loop-part.part-index c.in_ok-input_of.field-0 _ c.loop-part-test.true (search rules) c.in_ok-input_of.ensures.seen c.in_ok-input_of.ensures.node c.loop-part.invariant.inputs;
      lines = repeats-next c.args.stage c.loop-part.seen.keys c.input_of.new.seen.keys c.loop-part.lines.items c.input_of.new.lines.items part c.args.parts.now c.loop-part.part-index _ c.loop-part-test.true (search rules) c.in_ok-input_of.ensures.seen c.in_ok-input_of.ensures.lines c.loop-part.invariant.lines;
    }
