-- Rising numbers of which some are left out.
use Rattle.std.proofs.Common.{◌≤◌, ◌+◌, ℕ, Bool, true, false, cond, List, [], ◌∷◌, filter, arith}
use Rattle.plain_values.specs.Rising.{RisesWithin}

rises-lower : (a b high : ℕ) (ns : List ℕ) → a ≤ b → RisesWithin b high ns → RisesWithin a high ns
rises-lower a b high [] le r = tt
rises-lower a b high (n ∷ ns) le r = (omega (arith, le, r.0), r.1, r.2)

-- numbers that rise still do where some are left out
pub rises-filter : (p : ℕ → Bool) (low high : ℕ) (ns : List ℕ) → RisesWithin low high ns → RisesWithin low high (filter p ns)
rises-filter p low high [] r = tt
rises-filter p low high (n ∷ ns) r = by (p n) (rises-filter p (n + 1) high ns r.2)
  where
    by : (b : Bool) → RisesWithin (n + 1) high (filter p ns) → RisesWithin low high (cond b (n ∷ filter p ns) (filter p ns))
    by true rest = (r.0, r.1, rest)
    by false rest = rises-lower low (n + 1) high (filter p ns) (omega (arith, r.0)) rest
