-- A family over variables and its renaming over events.
use Rattle.std.proofs.Common.{ℕ, ◌+◌, ◌≡◌, ◌≤◌, ◌↔◌, Bool, true, false, ◌==◌, List, [], ◌∷◌, map, length, Contains, ⊎_elim, inl, inr, ap, ◌∙◌, sym, subst, refl, arith, nat_lt, if◌then◌else◌}
use Rattle.zdd_store.specs.inner.Family.{Family, has, is_within, covers, IsAntichain}
use Rattle.zdd_families.specs.inner.Unions.{with_number}
use Rattle.zdd_families.proofs.Booleans.{same_test}
use Rattle.zdd_families.proofs.Subsets.{has_first, has_rest, has_cases, has_none, within_has, within_from}
use Rattle.zdd_families.proofs.Covers.{covers_member, member_covers}
use Rattle.zdd_families.proofs.Telling.{has_with_number, with_number_has}
use Rattle.family_renaming.specs.inner.Renaming.{name_of, renamed, AreInverse, IsRenamedOf}

-- the numbers of the renamed set
pub named_has : (names : List ℕ) (set : List ℕ) (n : ℕ) → has set n ≡ true → has (renamed names set) (name_of names n) ≡ true
named_has names [] n h = absurd (has_none n h)
named_has names (m ∷ ms) n h =
    with_number_has (name_of names m) (renamed names ms) (name_of names n)
    (⊎_elim (λ same. inl (ap (name_of names) same)) (λ rest. inr (named_has names ms n rest)) (has_cases m ms n h))

-- a number of the renamed set, and the number of which it is the name
pub record Named (names set : List ℕ) (e : ℕ) : Type 0 where
  pub number : ℕ
  pub member : has set number ≡ true
  pub name : name_of names number ≡ e

pub has_named : (names : List ℕ) (set : List ℕ) (e : ℕ) → has (renamed names set) e ≡ true → Named names set e
has_named names [] e h = absurd (has_none e h)
has_named names (m ∷ ms) e h =
    ⊎_elim (λ same. record { number = m; member = has_first m ms; name = same })
    (λ rest. let n = has_named names ms e rest in record { number = n.number; member = has_rest m ms n.number n.member; name = n.name })
    (has_with_number (name_of names m) (renamed names ms) e h)

map_has : (f : ℕ → ℕ) (set : List ℕ) (n : ℕ) → has set n ≡ true → has (map f set) (f n) ≡ true
map_has f [] n h = absurd (has_none n h)
map_has f (m ∷ ms) n h =
    ⊎_elim (λ same. subst (λ x. has (f m ∷ map f ms) (f x) ≡ true) same (has_first (f m) (map f ms))) (λ rest. has_rest (f m) (map f ms) (f n) (map_has f ms n rest)) (has_cases m ms n h)

has_map : (f : ℕ → ℕ) (set : List ℕ) (n : ℕ) → has (map f set) n ≡ true → (m : ℕ) × (has set m ≡ true) × (f m ≡ n)
has_map f [] n h = absurd (has_none n h)
has_map f (m ∷ ms) n h =
    ⊎_elim (λ same. (m, has_first m ms, same)) (λ rest. let r = has_map f ms n rest in (r.0, has_rest m ms r.0 r.1, r.2)) (has_cases (f m) (map f ms) n h)

length-with_number : (n : ℕ) (set : List ℕ) → length (with_number n set) ≤ length set + 1
length-with_number n [] = omega arith
length-with_number n (m ∷ ms) = by (nat_lt n m) (n == m) (length-with_number n ms) where
  by : (lt eq : Bool) → length (with_number n ms) ≤ length ms + 1 → length (if lt then n ∷ m ∷ ms else if eq then m ∷ ms else m ∷ with_number n ms) ≤ length (m ∷ ms) + 1
  by true eq h = omega arith
  by false true h = omega arith
  by false false h = omega arith

-- a renamed set is no longer
pub renamed-shorter : (names set : List ℕ) → length (renamed names set) ≤ length set
renamed-shorter names [] = omega arith
renamed-shorter names (n ∷ ns) = omega (arith, renamed-shorter names ns, length-with_number (name_of names n) (renamed names ns))

module _ (events variables : List ℕ) (inverse : AreInverse events variables) where
  -- the variables of a set of events
  abbrev pub variables_of : List ℕ → List ℕ
  variables_of set = map (name_of variables) set

  pub variables_has : (set : List ℕ) (e : ℕ) → has (variables_of set) (name_of variables e) ≡ has set e
  variables_has set e = same_test _ _ (λ h.
      let r = has_map (name_of variables) set (name_of variables e) h in
      let same : r.0 ≡ e = sym (inverse.back_there r.0) ∙ ap (name_of events) r.2 ∙ inverse.back_there e in
      subst (λ x. has set x ≡ true) same r.1) (map_has (name_of variables) set e)

  -- a renamed set is within a set of events if the set is within the variables of these
  pub renamed-within : (part set : List ℕ) → is_within (renamed events part) set ≡ is_within part (variables_of set)
  renamed-within part set = same_test _ _ (λ h.
      within_from part (variables_of set) (λ n k.
      subst (λ x. has (variables_of set) x ≡ true) (inverse.there_back n)
      (variables_has set (name_of events n) ∙ within_has (renamed events part) set (name_of events n) h (named_has events part n k)))) (λ h.
      within_from (renamed events part) set (λ e k.
      let n = has_named events part e k in
      let there : has (variables_of set) n.number ≡ true = within_has part (variables_of set) n.number h n.member in
      let is : n.number ≡ name_of variables e = sym (inverse.there_back n.number) ∙ ap (name_of variables) n.name in
      sym (variables_has set e) ∙ subst (λ x. has (variables_of set) x ≡ true) is there))

  module _ (inner outer : Family) (sets : (set : List ℕ) → Contains outer set ↔ IsRenamedOf events inner set) where
    pub renamed-covers : (set : List ℕ) → covers outer set ≡ covers inner (variables_of set)
    renamed-covers set = same_test _ _ (λ h.
        let c = member_covers outer set h in
        let p = (sets c.part).0 c.member in
        covers_member inner p.0 (variables_of set) p.1 (sym (renamed-within p.0 set) ∙ subst (λ s. is_within s set ≡ true) p.2 c.within)) (λ h.
        let c = member_covers inner (variables_of set) h in
        covers_member outer (renamed events c.part) set ((sets (renamed events c.part)).1 (c.part, c.member, refl)) (renamed-within c.part set ∙ c.within))

    pub renamed-apart : IsAntichain inner → IsAntichain outer
    renamed-apart apart part whole here there within =
        let p = (sets part).0 here in
        let w = (sets whole).0 there in
        let below : is_within p.0 w.0 ≡ true =
        within_from p.0 w.0 (λ n k.
        let in_whole : has (renamed events w.0) (name_of events n) ≡ true =
        subst (λ s. has s (name_of events n) ≡ true) w.2 (within_has part whole (name_of events n) within (subst (λ s. has s (name_of events n) ≡ true) (sym p.2) (named_has events p.0 n k))) in
        let named = has_named events w.0 (name_of events n) in_whole in
        let is : named.number ≡ n = sym (inverse.there_back named.number) ∙ ap (name_of variables) named.name ∙ inverse.there_back n in
        subst (λ x. has w.0 x ≡ true) is named.member) in
        p.2 ∙ ap (renamed events) (apart p.0 w.0 p.1 w.1 below) ∙ sym w.2
