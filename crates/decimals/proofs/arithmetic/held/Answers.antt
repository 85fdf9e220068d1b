use Rattle.std.proofs.Common.{ℕ, zero, suc, refl, ◌<◌, inl, inr, arith}
use Rattle.decimals.specs.inner.Decimals.{IsHeld}
use Rattle.decimals.specs.declared.rounding.Side.TheVariants.{Down}
use Rattle.decimals.proofs.arithmetic.held.Goals as goal

nothing : (m e w : ℕ) → w < e → IsHeld Down m e w 0
nothing zero e w over = inl (omega arith)
nothing (suc m) e w over = inr (omega arith, over, refl)

pub returns-then-exponent-whole-clause-worth : goal.returns-then-exponent-whole-clause-worth
returns-then-exponent-whole-clause-worth c = rw c.in-Down.is (nothing c.args.mantissa c.args.exponent c.args.whole (omega (arith, c.if-exponent-whole.true)))
