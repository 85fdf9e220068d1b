use Rattle.std.proofs.Common.{ℕ, ◌+◌, ◌^◌, ◌≡◌, arith, inr, ap, refl, sym}
use Rattle.decimals.proofs.Cuts.{cut_same, cut_more, long_tenth, short_cut}
use Rattle.decimals.proofs.Powers.{ten_sum}
use Rattle.decimals.proofs.rounding.Side.shortened.Goals as goal
use Rattle.decimals.proofs.rounding.Side.shortened.Goals.{then-loop-rest-test+else-dropped-lt19, else-loop-rest-test}

ten_nineteen : (k : ℕ) → k ≡ 19 → 10 ^ k ≡ 10000000000000000000
ten_nineteen k all = ap (λ t. 10 ^ t) all

pub loop-rest-preserved : goal.loop-rest-preserved
loop-rest-preserved c =
    let i = c.loop-rest.invariant in
    let n = c.args.number in
    let r = c.loop-rest.rest in
    let k = c.loop-rest.dropped in
    let x = c.tenth-rest in (
      omega (arith, c.if-dropped-lt19.true),
      omega (arith, i.1, x.ensures.few),
      cut_same c.args.self refl refl (sym (ten_sum (k + 1) k 1 refl)) (cut_more c.args.self n r x.result (10 ^ k) 10 i.2 x.ensures.cut),
      inr (long_tenth c.args.self r x.result c.loop-rest-test.true x.ensures.cut),
    )

pub returns : goal.returns
returns c =
    let i = c.loop-rest.invariant in
    let n = c.args.number in
    let r = c.loop-rest.rest in
    let k = c.loop-rest.dropped in
    record {
      short = elim c.loop-rest-test.branch [
        | then-loop-rest-test+else-dropped-lt19 w ↦ short_cut c.args.self n r (10 ^ k) c.requires (ten_nineteen k (omega (arith, i.0, w.if-dropped-lt19.false))) i.2
        | else-loop-rest-test w ↦ omega (arith, w.loop-rest-test.false)
      ];
      cut = i.2;
      full = i.3;
    }
