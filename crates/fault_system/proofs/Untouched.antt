-- A table changes only where something does that occurs in a formula.
use Rattle.std.proofs.Common.{ℕ, zero, suc, ◌≡◌, Bool, true, false, ◌||◌, List, [], ◌∷◌, inl, inr, ⊎_elim, ap, ◌∙◌, sym, refl, subst, eqb-true, eq-eqb}
use Rattle.std.specs.Prelude.{nat_lt, nat_le, ◌&&◌, ◌==◌}
use Rattle.std.specs.List.{list_any}
use Rattle.std.proofs.lemmas.Bool.{false≢true, cases_Bool, or_cases}
use Rattle.std.proofs.Math.Bool.{or-true}
use Rattle.fault_system.specs.Truth.{occurs, occurs_event, set_of, truth}
use Rattle.fault_system.specs.Systems.{System}
use Rattle.fault_system.specs.Rounds.{no_event, only, time_of}
use Rattle.fault_system.specs.inner.Rounds.{FitsTime, IsChanged, IsChecked, IsTable, IsUntouched}
use Rattle.fault_system.specs.declared.formula.Formula.{Formula}
use Rattle.fault_system.proofs.Occurring.{truth-same}

not_only : (event n : ℕ) (f : Formula) → occurs_event event f ≡ false → occurs_event n f ≡ true → only event n ≡ false
not_only event n f none some = ⊎_elim
    (λ e. let same : n ≡ event = eqb-true n event e in absurd (false≢true (sym none ∙ ap (λ m. occurs_event m f) (sym same) ∙ some)))
    (λ e. e) (cases_Bool (n == event))

same_over : (event : ℕ) (old new : ℕ → ℕ) (f : Formula) (test : ℕ → Bool) → IsUntouched event old new f → truth (only event) (λ n. test (new n)) f ≡ truth no_event (λ n. test (old n)) f
same_over event old new f test u =
    truth-same (only event) no_event (λ n. test (new n)) (λ n. test (old n)) f (λ n h. not_only event n f u.no_event h) (λ n h. ap test (u.same n h))

pub untouched_fits : (event : ℕ) (old new : ℕ → ℕ) (f : Formula) (t : ℕ) → IsUntouched event old new f → FitsTime no_event old f t → FitsTime (only event) new f t
untouched_fits event old new f zero u fits = same_over event old new f (λ t. nat_lt 0 t) u ∙ fits
untouched_fits event old new f (suc zero) u fits = same_over event old new f (λ t. nat_lt 0 t && nat_le t 0) u ∙ fits
untouched_fits event old new f (suc (suc r)) u fits =
    (same_over event old new f (λ t. nat_lt 0 t && nat_le t (suc r)) u ∙ fits.0, same_over event old new f (λ t. nat_lt 0 t && nat_le t r) u ∙ fits.1)

-- a table that is changed where the event reaches is the table under the event alone
pub changed_table : (system : System) (event : ℕ) (old new : List ℕ) → IsTable system no_event old → IsChanged system event old new → IsTable system (only event) new
changed_table system event old new table changed = record {
  count = changed.count;
  each = λ n fact at. ⊎_elim (λ fits. fits)
      (λ u. subst (FitsTime (only event) (time_of new) fact.formula) (sym u.1) (untouched_fits event (time_of old) (time_of new) fact.formula (time_of old n) u.0 (table.each n fact at)))
      (changed.each n fact at);
}

-- a number of the list that passes
pub any_of : (p : ℕ → Bool) (xs : List ℕ) → list_any p xs ≡ true → (g : ℕ) × (set_of xs g ≡ true) × (p g ≡ true)
any_of p [] e = absurd (false≢true e)
any_of p (x ∷ xs) e = ⊎_elim (λ h. (x, ap (λ b. b || set_of xs x) (eq-eqb x x refl), h))
    (λ h. let t : (g : ℕ) × (set_of xs g ≡ true) × (p g ≡ true) = any_of p xs h in (t.0, ap (λ b. (x == t.0) || b) t.1 ∙ or-true (x == t.0), t.2)) (or_cases (p x) (list_any p xs) e)

pub any_from : (p : ℕ → Bool) (xs : List ℕ) (g : ℕ) → set_of xs g ≡ true → p g ≡ true → list_any p xs ≡ true
any_from p [] g e h = absurd (false≢true e)
any_from p (x ∷ xs) g e h = ⊎_elim (λ f. let same : x ≡ g = eqb-true x g f in ap (λ b. b || list_any p xs) (ap p same ∙ h))
    (λ f. ap (λ b. p x || b) (any_from p xs g f h) ∙ or-true (p x)) (or_cases (x == g) (set_of xs g) e)

-- times that fit wherever something may be felt are changed rightly
pub checked_changed : (system : System) (event : ℕ) (old new changes : List ℕ) → IsChecked system event old new changes → IsChanged system event old new
checked_changed system event old new changes c = record {
  count = c.count;
  each = λ n fact at.
      let touches : ℕ → Bool = λ g. occurs g fact.formula in
      ⊎_elim (λ e. inl (c.changed n e fact at))
      (λ same. ⊎_elim (λ e. inl (c.event_users n fact at e fact at))
      (λ none. ⊎_elim (λ e. let t : (g : ℕ) × (set_of changes g ≡ true) × (touches g ≡ true) = any_of touches changes e in inl (c.users n t.0 fact at t.1 t.2 fact at))
      (λ free. inr (record { no_event = none; same = λ g o. ⊎_elim (λ e. absurd (false≢true (sym free ∙ any_from touches changes g e o))) (λ e. c.others g e) (cases_Bool (set_of changes g)) }, c.others n same))
      (cases_Bool (list_any touches changes)))
      (cases_Bool (occurs_event event fact.formula)))
      (cases_Bool (set_of changes n));
}
