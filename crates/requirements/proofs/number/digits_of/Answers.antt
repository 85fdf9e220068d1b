use Rattle.std.proofs.Common.{ℕ, ◌<◌, ◌≤◌, ◌^◌, arith}
use Rattle.std.proofs.Math.Nat.{pow-le-pow_right}
use Rattle.requirements.proofs.number.digits_of.Goals as goal

few : (n i : ℕ) → n < 10 ^ i → i < 9 → n < 100000000
few n i h w =
    let ten : 0 < 10 = omega arith in
    let small : i ≤ 8 = omega arith in
    let p : 10 ^ i ≤ 10 ^ 8 = pow-le-pow_right ten small in
    let q : 10 ^ i ≤ 100000000 = p in omega arith

pub overflow_mul-number : goal.overflow_mul-number
overflow_mul-number c = let h = few _ _ c.loop-digit.invariant.below (omega (arith, c.requires, c.loop-digit-test.true)) in omega arith

pub overflow_add-number : goal.overflow_add-number
overflow_add-number c = let h = few _ _ c.loop-digit.invariant.below (omega (arith, c.requires, c.loop-digit-test.true)) in omega arith
