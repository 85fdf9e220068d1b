use Rattle.std.proofs.Common.{ℕ, nat_lt, length, drop, ap, sym, ◌∙◌, arith}
use Rattle.std.proofs.lemmas.List.{drop_all}
use Rattle.dependency_blocks.specs.inner.Reach.{comes_before}
use Rattle.dependency_blocks.proofs.Sets.{before-none, before-end}
use Rattle.dependency_blocks.proofs.ranking.comes_before.Goals as goal

pub returns-then-number-size : goal.returns-then-number-size
returns-then-number-size c =
    sym (sym c.loop-number.invariant.1 ∙ ap (comes_before (drop c.loop-number.number c.args.one.now)) (drop_all c.loop-number.number c.args.other.now (omega arith)) ∙ before-none (drop c.loop-number.number c.args.one.now))

pub returns : goal.returns
returns c =
    ap (λ (k : ℕ). nat_lt k c.size-3.result) c.size-2.ensures ∙ ap (nat_lt (length c.args.one.now)) c.size-3.ensures
    ∙ sym (sym c.loop-number.invariant.1 ∙ before-end c.args.one.now c.args.other.now c.loop-number.number (omega arith) c.loop-number.invariant.0)
