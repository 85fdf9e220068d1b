use Rattle.std.proofs.Common.{get_or, ap, ◌∙◌, arith}
use Rattle.round_gates.specs.declared.tree.Input.TheVariants as inputs
use Rattle.round_gates.specs.Trees.{is_gate}
use Rattle.dot_writer.specs.declared.usages.Usage.TheVariants.{Unused}
use Rattle.dot_writer.specs.inner.DotText.{noted}
use Rattle.dot_writer.proofs.Noted.{noted-more}
use Rattle.dot_writer.proofs.usages.note_inputs.Goals as goal

pub loop-input-preserved : goal.loop-input-preserved
loop-input-preserved c = (
  c.note_input.ensures.len ∙ c.loop-input.invariant.0,
  λ n less.
      let start = inputs.Event 0 in
      let i = c.loop-input.input-index in
      let ins = c.args.inputs.now in
      c.note_input.ensures.usage n (omega (arith, less, c.loop-input.invariant.0))
      ∙ ap (noted c.args.position (is_gate n (get_or ins i start))) (c.loop-input.invariant.1 n less)
      ∙ noted-more c.args.position ins i start n (get_or c.args.usages.now n Unused) (omega (arith, c.loop-input-test.true)),
)
