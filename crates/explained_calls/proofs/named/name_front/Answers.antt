use Rattle.std.proofs.Common.{arith, sym, ◌∙◌}
use Rattle.explained_calls.specs.inner.Texts.{is_name_byte}
use Rattle.explained_calls.proofs.Fronts.{one_more}
use Rattle.explained_calls.proofs.named.name_front.Goals as goal

pub loop-count-preserved : goal.loop-count-preserved
loop-count-preserved c = (
  one_more is_name_byte c.args.text.now c.loop-count.count c.loop-count-test.true (sym c.is_name_byte.ensures ∙ c.if-is_name_byte.true) c.loop-count.invariant.0,
  (let h = c.loop-count-test.true in omega (arith, h)),
)
