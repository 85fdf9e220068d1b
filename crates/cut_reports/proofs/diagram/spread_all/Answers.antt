use Rattle.std.proofs.Common.{◌≡◌, ◌∙◌, ◌+◌, ◌-◌, refl, subst, arith}
use Rattle.cut_reports.specs.inner.Diagram.{IsSpread}
use Rattle.cut_reports.proofs.diagram.spread_all.Goals as goal

pub loop-position-preserved : goal.loop-position-preserved
loop-position-preserved c =
    let at : c.loop-position.position ≡ c.loop-position.position - 1 + 1 = omega (arith, c.loop-position-test.true) in
    record {
      spread = λ root so. c.if-not-spread.ensures.spread refl root
          (subst (IsSpread c.args.store.now root c.loop-position.uses.items c.loop-position.weights.items) at (c.loop-position.invariant.spread root so));
      weights = c.if-not-spread.ensures.weights ∙ c.loop-position.invariant.weights;
      uses = c.if-not-spread.ensures.uses ∙ c.loop-position.invariant.uses;
      inside = omega (arith, c.loop-position.invariant.inside);
    }
