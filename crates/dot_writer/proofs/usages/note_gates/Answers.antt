use Rattle.std.proofs.Common.{length, slice_index_or, ap, ◌∙◌, ◌≡◌, arith}
use Rattle.round_gates.specs.Trees.{has_gate}
use Rattle.dot_writer.specs.declared.usages.Usage.TheVariants.{Unused}
use Rattle.dot_writer.specs.TreePicture.{usage_of, users, uses}
use Rattle.dot_writer.specs.inner.DotText.{noted}
use Rattle.dot_writer.proofs.Noted.{all-noted, gate-more}
use Rattle.dot_writer.proofs.usages.note_gates.Goals as goal

pub loop-position-preserved : goal.loop-position-preserved
loop-position-preserved c = (
  c.note_inputs.ensures.len ∙ c.loop-position.invariant.0,
  omega (arith, c.loop-position-test.true, c.len_u32-position-end.ensures),
  λ n less.
      let gates = c.args.gates.now in
      let position = c.loop-position.position in
      let old = slice_index_or c.loop-position.usages n Unused in
      c.note_inputs.ensures.usage n (omega (arith, less, c.loop-position.invariant.0))
      ∙ ap (λ ins. noted position (has_gate ins n) old) c.inputs_at.ensures.inputs
      ∙ ap (λ all. noted position (uses all position n) old) c.items.ensures.items
      ∙ ap (noted position (uses gates position n)) (c.loop-position.invariant.2 n less)
      ∙ gate-more gates position n,
)

pub returns : goal.returns
returns c =
    let gates = c.args.gates.now in
    let done : c.loop-position.position ≡ length gates = omega (arith, c.loop-position-test.false, c.len_u32-position-end.ensures, c.loop-position.invariant.1) in
    all-noted gates c.loop-position.usages c.loop-position.invariant.0 (λ n less. c.loop-position.invariant.2 n less ∙ ap (λ count. usage_of (users gates count n)) done)
