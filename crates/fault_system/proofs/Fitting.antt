-- Whether a time fits, as it is tested.
use Rattle.std.proofs.Common.{ℕ, zero, suc, ◌-◌, ◌≡◌, ◌≢◌, ◌≤◌, ◌↔◌, Bool, true, false, not, IsTrue, ap, ◌∙◌, sym, refl, subst, arith}
use Rattle.std.proofs.lemmas.Bool.{false≢true}
use Rattle.fault_system.specs.Truth.{NumberSet, truth}
use Rattle.fault_system.specs.inner.Rounds.{FitsTime, within}
use Rattle.fault_system.specs.declared.formula.Formula.{Formula}
use Rattle.fault_system.proofs.RoundLaws.{within_all}

not_exact : (a b : Bool) → a ≡ b → IsTrue (not a) ↔ (b ≡ false)
not_exact true b e = ((λ h. absurd (false≢true h)), (λ h. absurd (false≢true (sym h ∙ sym e))))
not_exact false b e = ((λ h. sym e), (λ h. refl))

module _ (events : NumberSet) (times : ℕ → ℕ) (f : Formula) (t : ℕ) where
  pub fits_none : (most : ℕ) (answer : Bool) → ((n : ℕ) → times n ≤ most) → t ≡ 0 → answer ≡ truth events (within times most) f → IsTrue (not answer) ↔ FitsTime events times f t
  fits_none most answer h e is = subst (λ k. IsTrue (not answer) ↔ FitsTime events times f k) (sym e)
      (not_exact answer _ (is ∙ ap (λ set. truth events set f) (within_all times most h)))

  pub fits_first : (answer : Bool) → t ≡ 1 → answer ≡ truth events (within times (t - 1)) f → IsTrue answer ↔ FitsTime events times f t
  fits_first answer e is = subst (λ k. IsTrue answer ↔ FitsTime events times f k) (sym e)
      (let less : t - 1 ≡ 0 = omega arith in let now : answer ≡ truth events (within times 0) f = is ∙ ap (λ r. truth events (within times r) f) less in ((λ h. sym now ∙ h), (λ h. now ∙ h)))

  pub fits_not : t ≢ 0 → t ≢ 1 → truth events (within times (t - 1)) f ≡ false → FitsTime events times f t → ⊥
  fits_not some late untrue fits = by t refl fits where
    by : (k : ℕ) → t ≡ k → FitsTime events times f k → ⊥
    by zero e fits = some e
    by (suc zero) e fits = late e
    by (suc (suc r)) e fits = let less : t - 1 ≡ suc r = omega arith in false≢true (sym untrue ∙ ap (λ q. truth events (within times q) f) less ∙ fits.0)

  pub fits_later : (answer : Bool) → t ≢ 0 → t ≢ 1 → truth events (within times (t - 1)) f ≡ true → answer ≡ truth events (within times (t - 2)) f → IsTrue (not answer) ↔ FitsTime events times f t
  fits_later answer some late here is = by t refl where
    by : (k : ℕ) → t ≡ k → IsTrue (not answer) ↔ FitsTime events times f k
    by zero e = absurd (some e)
    by (suc zero) e = absurd (late e)
    by (suc (suc r)) e =
        let one : t - 1 ≡ suc r = omega arith in
        let two : t - 2 ≡ r = omega arith in
        let last = not_exact answer (truth events (within times r) f) (is ∙ ap (λ q. truth events (within times q) f) two) in
        ((λ h. (sym (ap (λ q. truth events (within times q) f) one) ∙ here, last.0 h)), (λ h. last.1 h.1))
