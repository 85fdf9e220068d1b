-- Rising lists as sets, cut sets under more and fewer events, and minimal by single events is minimal.
use Rattle.std.proofs.Common.{ℕ, zero, suc, ◌+◌, ◌≡◌, ◌≢◌, ◌<◌, ◌↔◌, Bool, true, false, not, ◌&&◌, eqb, List, [], ◌∷◌, length, get_or, drop, set, filter, ⊎_elim, ap, ◌∙◌, sym, refl, subst, eqb-true, eq-eqb, ne_eqb}
use Rattle.std.proofs.lemmas.Bool.{false≢true, and_from, and_parts, and_right, cases_Bool, not-true}
use Rattle.std.proofs.lemmas.List.{at_drop_more}
use Rattle.std.specs.List.{list_all}
use Rattle.fault_system.specs.Truth.{NumberSet, Has, member, set_of}
use Rattle.fault_system.specs.Systems.{System, Holds}
use Rattle.fault_system.specs.CutSets.{IsEventSet, IsSubset, IsMinimalCutSet, makes_hold}
use Rattle.fault_system.specs.inner.CutSets.{without, is_minimal}
use Rattle.fault_system.proofs.Marks.{Below-member}
use Rattle.fault_system.proofs.NumberSets.{RisesWithin-filter, list_all-at, list_all-made, same_rising, same_set, set_of-filter}
use Rattle.fault_system.proofs.HoldsLaws.{applied-grows, holds_of-exact}

and_true_is : (s : Bool) → s && true ≡ s
and_true_is true = refl
and_true_is false = refl

-- marks after one is set or taken away
taken-same : (bs : List Bool) (n : ℕ) → member (set bs n false) n ≡ false
taken-same [] n = refl
taken-same (b ∷ bs) zero = refl
taken-same (b ∷ bs) (suc n) = taken-same bs n

taken-other : (bs : List Bool) (n m : ℕ) → m ≢ n → member (set bs n false) m ≡ member bs m
taken-other [] n m h = refl
taken-other (b ∷ bs) zero zero h = absurd (h refl)
taken-other (b ∷ bs) zero (suc m) h = refl
taken-other (b ∷ bs) (suc n) zero h = refl
taken-other (b ∷ bs) (suc n) (suc m) h = taken-other bs n m (λ e. h (ap suc e))

pub member-taken : (bs : List Bool) (n m : ℕ) → member (set bs n false) m ≡ without (member bs) n m
member-taken bs n m = ⊎_elim
    (λ is. let same : m ≡ n = eqb-true m n is in
    subst (λ k. member (set bs n false) k ≡ false) (sym same) (taken-same bs n) ∙ sym (and_right (member bs m) (not (eqb m n)) (ap not is)))
    (λ is. taken-other bs n m (λ e. false≢true (sym is ∙ eq-eqb m n e)) ∙ sym (ap (λ b. member bs m && not b) is ∙ and_true_is (member bs m)))
    (cases_Bool (eqb m n))

pub member-put_back : (bs : List Bool) (n m : ℕ) → Has (member bs) n → member (set (set bs n false) n true) m ≡ member bs m
member-put_back [] n m h = refl
member-put_back (b ∷ bs) zero zero h = sym h
member-put_back (b ∷ bs) zero (suc m) h = refl
member-put_back (b ∷ bs) (suc n) zero h = refl
member-put_back (b ∷ bs) (suc n) (suc m) h = member-put_back bs n m h

module _ (system : System) (target : ℕ) where
  -- under more events no fewer facts hold
  pub Holds-grows : (es es' : NumberSet) → ((n : ℕ) → Has es n → Has es' n) → (n : ℕ) → Holds system es n → Holds system es' n
  Holds-grows es es' more n h xs closed =
      h xs (λ m e. closed m (Below-member _ _ (applied-grows es es' xs xs more (λ k f. f) system) m e))

  pub makes_hold-exact : (es : NumberSet) → (makes_hold system target es ≡ true) ↔ Holds system es target
  makes_hold-exact es = holds_of-exact system es target

  -- a smaller set of events that makes the target hold is one where an event is taken away
  none_taken : (set : List ℕ) → list_all (λ n. not (makes_hold system target (without (set_of set) n))) set ≡ true → (other : List ℕ) → Holds system (set_of other) target → IsSubset other set → IsSubset set other
  none_taken set e other holds part n h = ⊎_elim (λ is_in. is_in) (λ absent. absurd (false≢true (sym off ∙ on absent))) (cases_Bool (set_of other n)) where
    off : makes_hold system target (without (set_of set) n) ≡ false
    off = not-true _ (list_all-at (λ m. not (makes_hold system target (without (set_of set) m))) set n e h)

    within : set_of other n ≡ false → (m : ℕ) → Has (set_of other) m → Has (without (set_of set) n) m
    within absent m k = and_from (set_of set m) (not (eqb m n)) (part m k)
        (ap not (ne_eqb m n (λ is. false≢true (sym absent ∙ subst (λ j. set_of other j ≡ true) is k))))

    on : set_of other n ≡ false → makes_hold system target (without (set_of set) n) ≡ true
    on absent = (makes_hold-exact (without (set_of set) n)).1 (Holds-grows (set_of other) (without (set_of set) n) (within absent) target holds)

  pub is_minimal-sound : (set : List ℕ) → IsEventSet system set → is_minimal system target set ≡ true → IsMinimalCutSet system target set
  is_minimal-sound set rises e =
      let both = and_parts _ _ e in
      ((rises, (makes_hold-exact (set_of set)).0 both.0), λ other cut part. same_rising 0 0 (length system.events) other set cut.0 rises part (none_taken set both.1 other cut.1 part))

  -- a cut set without one of its events is no cut set, if it is minimal
  needs_each : (set : List ℕ) → IsMinimalCutSet system target set → (n : ℕ) → Has (set_of set) n → not (makes_hold system target (without (set_of set) n)) ≡ true
  needs_each set minimal n h = ⊎_elim (λ on. absurd (clash on)) (λ off. ap not off) (cases_Bool (makes_hold system target (without (set_of set) n))) where
    rest : List ℕ
    rest = filter (λ m. not (eqb m n)) set

    rest_is : set_of rest ≡ without (set_of set) n
    rest_is = same_set (set_of-filter (λ m. not (eqb m n)) set)

    gone : set_of rest n ≡ false
    gone = set_of-filter (λ m. not (eqb m n)) set n ∙ and_right (set_of set n) (not (eqb n n)) (ap not (eq-eqb n n refl))

    part : IsSubset rest set
    part m k = (and_parts _ _ (sym (set_of-filter (λ j. not (eqb j n)) set m) ∙ k)).0

    clash : makes_hold system target (without (set_of set) n) ≡ true → ⊥
    clash on = false≢true (sym gone ∙ ap (λ xs. set_of xs n) (minimal.1 rest (
      RisesWithin-filter _ 0 (length system.events) set minimal.0.0,
      (makes_hold-exact (set_of rest)).0 (subst (λ es. makes_hold system target es ≡ true) (sym rest_is) on),
    ) part) ∙ h)

  pub is_minimal-complete : (set : List ℕ) → IsMinimalCutSet system target set → is_minimal system target set ≡ true
  is_minimal-complete set minimal = and_from _ _ ((makes_hold-exact (set_of set)).1 minimal.0.1)
      (list_all-made (λ n. not (makes_hold system target (without (set_of set) n))) set (needs_each set minimal))

  pub is_minimal-exact : (set : List ℕ) → IsEventSet system set → (is_minimal system target set ≡ true) ↔ IsMinimalCutSet system target set
  is_minimal-exact set rises = (is_minimal-sound set rises, is_minimal-complete set)

  -- the steps of the code: an event is taken away and put back, and each event in turn
  pub makes_hold-taken : (bs now : List Bool) (n : ℕ) → now ≡ set bs n false → makes_hold system target (member now) ≡ makes_hold system target (without (member bs) n)
  makes_hold-taken bs now n e = ap (makes_hold system target) (ap member e ∙ same_set (member-taken bs n))

  abbrev pub is_needed : List ℕ → ℕ → Bool
  is_needed set n = not (makes_hold system target (without (set_of set) n))

  module _ (set : List ℕ) (events : List Bool) (same : (n : ℕ) → member events n ≡ set_of set n) (i : ℕ) (fits : i < length set) where
    here : list_all (is_needed set) (drop i set) ≡ is_needed set (get_or set i 0) && list_all (is_needed set) (drop (i + 1) set)
    here = at_drop_more (list_all (is_needed set)) set i 0 fits

    answer_is : (answer : Bool) → answer ≡ makes_hold system target (without (member events) (get_or set i 0)) → not answer ≡ is_needed set (get_or set i 0)
    answer_is answer e = ap not (e ∙ ap (λ es. makes_hold system target (without es (get_or set i 0))) (same_set same))

    pub needs_each-stops : (answer : Bool) → answer ≡ makes_hold system target (without (member events) (get_or set i 0)) → answer ≡ true → list_all (is_needed set) (drop i set) ≡ list_all (is_needed set) set → false ≡ list_all (is_needed set) set
    needs_each-stops answer e on before = ap (λ b. not b && list_all (is_needed set) (drop (i + 1) set)) (sym on) ∙ ap (λ b. b && list_all (is_needed set) (drop (i + 1) set)) (answer_is answer e) ∙ sym here ∙ before

    pub needs_each-goes : (answer : Bool) → answer ≡ makes_hold system target (without (member events) (get_or set i 0)) → answer ≡ false → list_all (is_needed set) (drop i set) ≡ list_all (is_needed set) set → list_all (is_needed set) (drop (i + 1) set) ≡ list_all (is_needed set) set
    needs_each-goes answer e off before = ap (λ b. not b && list_all (is_needed set) (drop (i + 1) set)) (sym off) ∙ ap (λ b. b && list_all (is_needed set) (drop (i + 1) set)) (answer_is answer e) ∙ sym here ∙ before

  -- the code's answer: no cut set, or a cut set that needs each of its events
  pub minimal_answer-no : (set : List ℕ) (events : List Bool) (answer : Bool) → ((n : ℕ) → member events n ≡ set_of set n) → answer ≡ makes_hold system target (member events) → answer ≡ false → answer ≡ is_minimal system target set
  minimal_answer-no set events answer same e off = off ∙ ap (λ b. b && list_all (is_needed set) set) (sym off ∙ e ∙ ap (makes_hold system target) (same_set same))

  pub minimal_answer-yes : (set : List ℕ) (events : List Bool) (answer rest : Bool) → ((n : ℕ) → member events n ≡ set_of set n) → answer ≡ makes_hold system target (member events) → answer ≡ true → rest ≡ list_all (is_needed set) set → rest ≡ is_minimal system target set
  minimal_answer-yes set events answer rest same e on needed = needed ∙ ap (λ b. b && list_all (is_needed set) set) (sym on ∙ e ∙ ap (makes_hold system target) (same_set same))
