-- Digits without the zeros at their end.
use Rattle.std.proofs.Common.{ℕ, zero, suc, ◌+◌, ◌-◌, ◌*◌, ◌/◌, ◌%◌, ◌^◌, ◌≤◌, ◌<◌, ◌≡◌, ◌==◌, ◌∙◌, refl, sym, ap, Bool, true, false, if◌then◌else◌, arith}
use Rattle.std.proofs.lemmas.Bool.{eqb-true, eq-eqb, false≢true}
use Rattle.std.proofs.Math.Nat.{div-add-mod}
use Rattle.decimals.specs.DecimalTexts.{Trim, trimmed}
use Rattle.decimals.proofs.Powers.{ten_sum}

-- digits with zeros are worth so much, and few
pub record AreWorth (m most : ℕ) (found : Trim) : Type 0 where
  pub worth : found.digits * 10 ^ found.zeros ≡ m
  pub few : found.zeros ≤ most

one_more : (d z : ℕ) → d % 10 ≡ 0 → d / 10 * 10 ^ (z + 1) ≡ d * 10 ^ z
one_more d z none =
    let a = div-add-mod d 10 in
    let b : d / 10 * 10 ^ (z + 1) ≡ d / 10 * (10 ^ z * 10) = ap (λ t. d / 10 * t) (ten_sum (z + 1) z 1 refl) in
    let c : 10 * (d / 10) * 10 ^ z ≡ d * 10 ^ z = ap (λ t. t * 10 ^ z) (omega arith) in
    omega arith

pub trimmed_worth : (k z d : ℕ) → AreWorth (d * 10 ^ z) (z + k) (trimmed k z d)
trimmed_worth zero z d = record { worth = refl; few = omega arith }
trimmed_worth (suc k) z d = at (d % 10 == 0) refl (trimmed_worth k (z + 1) (d / 10))
  where
    at : (b : Bool) → (d % 10 == 0) ≡ b → AreWorth (d / 10 * 10 ^ (z + 1)) (z + 1 + k) (trimmed k (z + 1) (d / 10))
        → AreWorth (d * 10 ^ z) (z + suc k) (if b then trimmed k (z + 1) (d / 10) else record { digits = d; zeros = z })
    at true is more = record { worth = more.worth ∙ one_more d z (eqb-true (d % 10) 0 is); few = let h = more.few in omega arith }
    at false is more = record { worth = refl; few = omega arith }

-- one zero less
pub trimmed_step : (k z d : ℕ) → 0 < k → d % 10 ≡ 0 → trimmed k z d ≡ trimmed (k - 1) (z + 1) (d / 10)
trimmed_step zero z d some none = absurd (omega arith)
trimmed_step (suc k) z d some none =
    let less : suc k - 1 ≡ k = omega arith in
    rw less (at (d % 10 == 0) (eq-eqb (d % 10) 0 none))
  where
    at : (b : Bool) → b ≡ true → (if b then trimmed k (z + 1) (d / 10) else record { digits = d; zeros = z }) ≡ trimmed k (z + 1) (d / 10)
    at true is = refl
    at false is = absurd (false≢true is)

-- no zero is left
pub trimmed_end : (k z d : ℕ) → (d % 10 ≡ 0 → ⊥) → trimmed k z d ≡ record { digits = d; zeros = z }
trimmed_end zero z d some = refl
trimmed_end (suc k) z d some = at (d % 10 == 0) refl
  where
    at : (b : Bool) → (d % 10 == 0) ≡ b → (if b then trimmed k (z + 1) (d / 10) else record { digits = d; zeros = z }) ≡ record { digits = d; zeros = z }
    at true is = absurd (some (eqb-true (d % 10) 0 is))
    at false is = refl

pub trimmed_stays : (k z d : ℕ) → 0 < k → (d % 10 ≡ 0 → ⊥) → trimmed k z d ≡ trimmed (k - 1) z d
trimmed_stays k z d some left = trimmed_end k z d left ∙ sym (trimmed_end (k - 1) z d left)
