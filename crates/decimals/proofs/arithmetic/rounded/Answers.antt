use Rattle.std.proofs.Common.{◌+◌, ◌*◌, ◌^◌, inl, inr, refl, arith}
use Rattle.decimals.specs.Decimals.{parts, HavePlaces}
use Rattle.decimals.proofs.Powers.{ten_pos, ten_sum}
use Rattle.decimals.proofs.Cuts.{cut_more, cut_none, near_shortened}
use Rattle.decimals.proofs.Bounds.{bound_held, near_held}
use Rattle.decimals.proofs.arithmetic.rounded.Goals as goal

pub returns-clause-value : goal.returns-clause-value
returns-clause-value c n is =
    let x = c.args.exact in
    let s = c.shortened-short in
    let w = c.args.whole in
    let e = ten_sum (x.exponent + s.result.dropped) x.exponent s.result.dropped refl in
    bound_held c.args.side n s.result.mantissa (x.exponent + s.result.dropped) w (parts c.held.result) 1 (10 ^ w) (parts c.held.result) (10 ^ x.exponent * 10 ^ s.result.dropped) (omega arith) (omega arith) (omega arith)
    (cut_more c.args.side n x.number s.result.mantissa (10 ^ x.exponent) (10 ^ s.result.dropped) is.cut s.ensures.cut) c.held.ensures.worth

pub returns-clause-near : goal.returns-clause-near
returns-clause-near c n is =
    let x = c.args.exact in
    let s = c.shortened-short in
    let w = c.args.whole in
    let e = ten_sum (x.exponent + s.result.dropped) x.exponent s.result.dropped refl in
    near_held c.args.side n s.result.mantissa (x.exponent + s.result.dropped) w (parts c.held.result) 1 (10 ^ w) (parts c.held.result) (10 ^ x.exponent * 10 ^ s.result.dropped) (omega arith) (omega arith) (omega arith) (omega arith)
    (cut_more c.args.side n x.number s.result.mantissa (10 ^ x.exponent) (10 ^ s.result.dropped) is.cut s.ensures.cut) (near_shortened c.args.side n x.number (10 ^ x.exponent) s.result is.full is.cut s.ensures) c.held.ensures.worth

pub returns-clause-places : goal.returns-clause-places
returns-clause-places c places have = c.held.ensures.places places (at have)
  where
    at : HavePlaces c.args.whole places c.args.exact.number c.args.exact.exponent → HavePlaces c.args.whole places c.shortened-short.result.mantissa (c.args.exact.exponent + c.shortened-short.result.dropped)
    at (inl none) = inl (cut_none c.args.side c.args.exact.number c.shortened-short.result.mantissa (10 ^ c.shortened-short.result.dropped) (ten_pos c.shortened-short.result.dropped) none c.shortened-short.ensures.cut)
    at (inr some) = inr (omega arith)
