-- Bounds and nearness of what is held within the whole.
use Rattle.std.proofs.Common.{ℕ, ◌*◌, ◌^◌, ◌≤◌, ◌<◌, ◌≡◌, inl, inr, ap, arith}
use Rattle.std.proofs.Math.Nat.{mul-le-mul_left}
use Rattle.decimals.specs.declared.rounding.Side.{Side}
use Rattle.decimals.specs.declared.rounding.Side.TheVariants.{Down, Up}
use Rattle.decimals.specs.inner.Decimals.{IsCut, IsHeld, IsBound, IsNearBound}
use Rattle.decimals.proofs.Powers.{ten_pos, above_whole}
use Rattle.decimals.proofs.Cuts.{IsNearTo}

-- a number x is cut to m with e zeros, each u large, of which r is held within the whole w
pub bound_held : (side : Side) (x m e w r u top y p : ℕ) → top ≡ u * 10 ^ w → y ≡ u * r → p ≡ u * 10 ^ e → IsCut side x m p → IsHeld side m e w r → IsBound side top x y
bound_held Down x m e w r u top y p et ey ep cut (inl is) =
    let f : m * p ≡ m * (u * 10 ^ e) = ap (λ t. m * t) ep in
    let g : u * r ≡ u * (m * 10 ^ e) = ap (λ t. u * t) is in
    omega (arith, cut.0)
bound_held Down x m e w r u top y p et ey ep cut (inr over) = let g : u * r ≡ u * 0 = ap (λ t. u * t) over.2 in omega arith
bound_held Up x m e w r u top y p et ey ep cut (inl is) =
    let f : m * p ≡ m * (u * 10 ^ e) = ap (λ t. m * t) ep in
    let g : u * r ≡ u * (m * 10 ^ e) = ap (λ t. u * t) is in
    omega (arith, cut.0)
bound_held Up x m e w r u top y p et ey ep cut (inr over) = let g : u * r ≡ u * 10 ^ w = ap (λ t. u * t) over.2 in omega arith

pub near_held : (side : Side) (x m e w r u top y p : ℕ) → top ≡ u * 10 ^ w → y ≡ u * r → p ≡ u * 10 ^ e → 0 < u → IsCut side x m p → IsNearTo side x (m * p) → IsHeld side m e w r → IsNearBound side top x y
near_held Down x m e w r u top y p et ey ep pos cut near (inl is) =
    λ within.
    let f : m * p ≡ m * (u * 10 ^ e) = ap (λ t. m * t) ep in
    let g : u * r ≡ u * (m * 10 ^ e) = ap (λ t. u * t) is in
    omega arith
near_held Down x m e w r u top y p et ey ep pos cut near (inr over) =
    λ within.
    let f : m * p ≡ m * (u * 10 ^ e) = ap (λ t. m * t) ep in
    let g : u * (10 ^ w * 10) ≤ u * (m * 10 ^ e) = mul-le-mul_left u (above_whole m e w over.0 over.1) in
    let h : u * 1 ≤ u * 10 ^ w = mul-le-mul_left u (ten_pos w) in
    absurd (omega (arith, cut.0))
near_held Up x m e w r u top y p et ey ep pos cut near (inl is) =
    let f : m * p ≡ m * (u * 10 ^ e) = ap (λ t. m * t) ep in
    let g : u * r ≡ u * (m * 10 ^ e) = ap (λ t. u * t) is in
    omega arith
near_held Up x m e w r u top y p et ey ep pos cut near (inr over) =
    let f : m * p ≡ m * (u * 10 ^ e) = ap (λ t. m * t) ep in
    let g : u * (10 ^ w * 10) ≤ u * (m * 10 ^ e) = mul-le-mul_left u (above_whole m e w over.0 over.1) in
    let h : u * r ≡ u * 10 ^ w = ap (λ t. u * t) over.2 in
    omega arith
