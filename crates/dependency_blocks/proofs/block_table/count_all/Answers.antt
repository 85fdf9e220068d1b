use Rattle.std.proofs.Common.{ℕ, ◌≡◌, ◌+◌, List, length, length-set, ap, ◌∙◌, sym, subst, arith}
use Rattle.dependency_blocks.proofs.Counting.{Counts, counts-next, counts-end}
use Rattle.dependency_blocks.proofs.block_table.count_all.Goals as goal

pub loop-number-preserved : goal.loop-number-preserved
loop-number-preserved c =
    let before = c.loop-number.invariant in
    record {
      long = ap length c.count_one.ensures ∙ length-set c.loop-number.sizes _ _ ∙ before.long;
      counts = subst (λ (sizes : List ℕ). Counts c.args.numbers.now sizes (c.loop-number.number-index + 1)) (sym c.count_one.ensures)
          (counts-next c.args.numbers.now c.loop-number.sizes c.loop-number.number-index before.long c.loop-number-test.true before.counts);
    }

pub returns : goal.returns
returns c =
    let all : c.loop-number.number-index ≡ length c.args.numbers.now = omega arith in
    counts-end c.args.numbers.now c.loop-number.sizes c.loop-number.invariant.long c.requires.small
    (subst (λ (i : ℕ). Counts c.args.numbers.now c.loop-number.sizes i) all c.loop-number.invariant.counts)
