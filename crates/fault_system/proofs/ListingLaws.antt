-- The sets that are tried, their order, and that those which are minimal are the listing; a listing covers its target.
use Rattle.std.proofs.Common.{ℕ, zero, suc, ◌+◌, ◌≡◌, ◌<◌, ◌≤◌, ◌⊎◌, ◌↔◌, Bool, true, false, cond, not, ◌&&◌, eqb, List, [], ◌∷◌, length, map, filter, Contains, Option, None, Some, unwrap_or, inl, inr, ⊎_elim, ap, ◌∙◌, sym, refl, subst, arith, eq-eqb}
use Rattle.std.proofs.lemmas.Bool.{false≢true, and_parts, cases_Bool}
use Rattle.std.specs.List.{list_all}
use Rattle.fault_system.specs.Truth.{Has, set_of}
use Rattle.fault_system.specs.Systems.{System, Holds}
use Rattle.plain_values.specs.Rising.{RisesWithin}
use Rattle.fault_system.specs.CutSets.{IsEventSet, IsCutSet, IsSubset, IsMinimalCutSet, makes_hold}
use Rattle.fault_system.specs.inner.CutSets.{is_minimal, without}
use Rattle.fault_system.specs.Listings.{IsBefore, IsInListingOrder, IsListing, IsWithinOrder}
use Rattle.fault_system.specs.inner.Listings.{choose, rising_sets_up_to, listing}
use Rattle.fault_system.proofs.CutSetLaws.{Holds-grows, makes_hold-exact, is_minimal-exact, is_minimal-sound}
use Rattle.fault_system.proofs.NumberSets.{RisesWithin-lower, RisesWithin-filter, set_of-filter, set_of-first, set_of-rest, set_of-cases, same_set}
use Rattle.fault_system.proofs.Elements.{In, In-contains, contains_In, In-append, In-front, In-back, In-map, In-mapped, In-filter, In-filtered, each-at, each-made}
use Rattle.fault_system.proofs.Orders.{before_cases, before_made, order-append, order-filter}

equal_or_less : (n m : ℕ) → n ≤ m → (m ≡ n) ⊎ (n < m)
equal_or_less zero zero h = inl refl
equal_or_less zero (suc m) h = inr (omega arith)
equal_or_less (suc n) zero h = absurd (omega arith)
equal_or_less (suc n) (suc m) h = ⊎_elim (λ e. inl (ap suc e)) (λ l. inr (omega arith)) (equal_or_less n m (omega arith))

-- ---- the sets of one size

pub choose-rises : (size low count high : ℕ) → low + count ≡ high → (set : List ℕ) → In set (choose size low count) → RisesWithin low high set × (length set ≡ size)
choose-rises zero low count high e set i = ⊎_elim (λ is. subst (λ s. RisesWithin low high s × (length s ≡ 0)) is (tt, refl)) (λ no. absurd no) i
choose-rises (suc size) low zero high e set i = absurd i
choose-rises (suc size) low (suc count) high e set i = ⊎_elim
    (λ with_low. let t = In-map (λ s. low ∷ s) set (choose size (low + 1) count) with_low in
    let rest = choose-rises size (low + 1) count high (omega arith) t.0 t.1 in
    let below : low < high = omega arith in
    let sized : length t.0 ≡ size = rest.1 in
    let found : RisesWithin low high (low ∷ t.0) × (length (low ∷ t.0) ≡ suc size) = ((omega arith, below, rest.0), omega arith) in
    subst (λ s. RisesWithin low high s × (length s ≡ suc size)) t.2 found)
    (λ above. let rest = choose-rises (suc size) (low + 1) count high (omega arith) set above in (RisesWithin-lower low (low + 1) high set (omega arith) rest.0, rest.1))
    (In-append set (map (λ s. low ∷ s) (choose size (low + 1) count)) (choose (suc size) (low + 1) count) i)

pub rises-choose : (low count high : ℕ) → low + count ≡ high → (set : List ℕ) → RisesWithin low high set → In set (choose (length set) low count)
rises-choose low zero high e [] r = inl refl
rises-choose low (suc count) high e [] r = inl refl
rises-choose low zero high e (x ∷ xs) r = absurd (omega (arith, r.0, r.1))
rises-choose low (suc count) high e (x ∷ xs) r = ⊎_elim
    (λ is. In-front (x ∷ xs) _ (choose (suc (length xs)) (low + 1) count) (subst (λ n. In (x ∷ xs) (map (λ s. n ∷ s) (choose (length xs) (low + 1) count))) is
    (In-mapped (λ s. x ∷ s) xs (choose (length xs) (low + 1) count) (rises-choose (low + 1) count high (omega arith) xs (subst (λ n. RisesWithin (n + 1) high xs) is r.2)))))
    (λ above. In-back (x ∷ xs) (map (λ s. low ∷ s) (choose (length xs) (low + 1) count)) _ (rises-choose (low + 1) count high (omega arith) (x ∷ xs) (omega arith, r.1, r.2)))
    (equal_or_less low x r.0)

pub length_rising : (low high : ℕ) (set : List ℕ) → low ≤ high → RisesWithin low high set → length set + low ≤ high
length_rising low high [] h r = omega arith
length_rising low high (x ∷ xs) h r = omega (arith, length_rising (x + 1) high xs (omega (arith, r.1)) r.2, r.0)

mapped_order : (low : ℕ) (sets : List (List ℕ)) → IsInListingOrder sets → IsInListingOrder (map (λ s. low ∷ s) sets)
mapped_order low [] o = tt
mapped_order low (a ∷ rest) o = (
  each-made (IsBefore (low ∷ a)) (map (λ s. low ∷ s) rest) (λ b i.
      let t = In-map (λ s. low ∷ s) b rest i in
      subst (IsBefore (low ∷ a)) t.2 (before_made (low ∷ a) (low ∷ t.0) (⊎_elim (λ l. inl (omega arith)) (λ h. inr (ap suc h.0, inr (refl, h.1)))
      (before_cases a t.0 (each-at (IsBefore a) t.0 rest o.0 t.1))))),
  mapped_order low rest o.1,
)

pub choose-order : (size low count : ℕ) → IsInListingOrder (choose size low count)
choose-order zero low count = (tt, tt)
choose-order (suc size) low zero = tt
choose-order (suc size) low (suc count) = order-append (map (λ s. low ∷ s) (choose size (low + 1) count)) (choose (suc size) (low + 1) count)
    (mapped_order low _ (choose-order size (low + 1) count)) (choose-order (suc size) (low + 1) count)
    (λ a b i j. low_first a b (In-map (λ s. low ∷ s) a (choose size (low + 1) count) i)
    (λ s k. (choose-rises size (low + 1) count (low + 1 + count) refl s k).1) (choose-rises (suc size) (low + 1) count (low + 1 + count) refl b j))
  where
    low_first : (a b : List ℕ) → (s : List ℕ) × In s (choose size (low + 1) count) × (low ∷ s ≡ a) → ((s : List ℕ) → In s (choose size (low + 1) count) → length s ≡ size) → RisesWithin (low + 1) (low + 1 + count) b × (length b ≡ suc size) → IsBefore a b
    low_first a [] t sized rest = absurd (omega (arith, rest.1))
    low_first a (y ∷ ys) t sized rest = subst (λ s. IsBefore s (y ∷ ys)) t.2 (before_made (low ∷ t.0) (y ∷ ys) (inr (ap suc (sized t.0 t.1) ∙ sym rest.1, inl (omega (arith, rest.0.0)))))

-- ---- the sets of all sizes

pub rising_sets_up_to-rises : (size count : ℕ) (set : List ℕ) → In set (rising_sets_up_to size count) → RisesWithin 0 count set × (length set ≤ size)
rising_sets_up_to-rises zero count set i = let rest = choose-rises zero 0 count count (omega arith) set i in (rest.0, omega (arith, rest.1))
rising_sets_up_to-rises (suc size) count set i = ⊎_elim
    (λ fewer. let rest = rising_sets_up_to-rises size count set fewer in (rest.0, omega (arith, rest.1)))
    (λ full. let rest = choose-rises (suc size) 0 count count (omega arith) set full in (rest.0, omega (arith, rest.1)))
    (In-append set (rising_sets_up_to size count) (choose (suc size) 0 count) i)

pub rises-rising_sets_up_to : (size count : ℕ) (set : List ℕ) → RisesWithin 0 count set → length set ≤ size → In set (rising_sets_up_to size count)
rises-rising_sets_up_to zero count set r h =
    let empty : length set ≡ 0 = omega arith in subst (λ n. In set (choose n 0 count)) empty (rises-choose 0 count count (omega arith) set r)
rises-rising_sets_up_to (suc size) count set r h = ⊎_elim
    (λ is. In-back set (rising_sets_up_to size count) _ (subst (λ n. In set (choose n 0 count)) (sym is) (rises-choose 0 count count (omega arith) set r)))
    (λ fewer. In-front set _ (choose (suc size) 0 count) (rises-rising_sets_up_to size count set r (omega arith)))
    (equal_or_less (length set) (suc size) h)

pub rising_sets_up_to-order : (size count : ℕ) → IsInListingOrder (rising_sets_up_to size count)
rising_sets_up_to-order zero count = choose-order zero 0 count
rising_sets_up_to-order (suc size) count = order-append (rising_sets_up_to size count) (choose (suc size) 0 count) (rising_sets_up_to-order size count) (choose-order (suc size) 0 count)
    (λ a b i j. before_made a b (inl (omega (arith, (rising_sets_up_to-rises size count a i).1, (choose-rises (suc size) 0 count count (omega arith) b j).1))))

-- ---- the listing

within_size : (most : Option ℕ) (count : ℕ) (set : List ℕ) → length set ≤ unwrap_or most count → IsWithinOrder most set
within_size None count set h = tt
within_size (Some k) count set h = h

size_within : (most : Option ℕ) (count : ℕ) (set : List ℕ) → length set ≤ count → IsWithinOrder most set → length set ≤ unwrap_or most count
size_within None count set few h = few
size_within (Some k) count set few h = h

module _ (system : System) (target : ℕ) (most : Option ℕ) where
  listed : (set : List ℕ) → In set (listing system target most) → IsMinimalCutSet system target set × IsWithinOrder most set
  listed set i =
      let found = In-filter (is_minimal system target) set (rising_sets_up_to (unwrap_or most (length system.events)) (length system.events)) i in
      let rises = rising_sets_up_to-rises (unwrap_or most (length system.events)) (length system.events) set found.0 in
      (is_minimal-sound system target set rises.0 found.1, within_size most (length system.events) set rises.1)

  unlisted : (set : List ℕ) → IsMinimalCutSet system target set × IsWithinOrder most set → In set (listing system target most)
  unlisted set h =
      let few : length set ≤ length system.events = omega (arith, length_rising 0 (length system.events) set (omega arith) h.0.0.0) in
      In-filtered (is_minimal system target) set (rising_sets_up_to (unwrap_or most (length system.events)) (length system.events))
      ((is_minimal-exact system target set h.0.0.0).1 h.0)
      (rises-rising_sets_up_to (unwrap_or most (length system.events)) (length system.events) set h.0.0.0 (size_within most (length system.events) set few h.1))

  pub listing-exact : IsListing system target most (listing system target most)
  listing-exact = record {
    exact = λ set. ((λ c. listed set (In-contains set _ c)), (λ h. contains_In set _ (unlisted set h)));
    ordered = order-filter (is_minimal system target) _ (rising_sets_up_to-order (unwrap_or most (length system.events)) (length system.events));
  }

-- ---- the listing covers its target

not_all : (p : ℕ → Bool) (xs : List ℕ) → list_all p xs ≡ false → (n : ℕ) × Has (set_of xs) n × (p n ≡ false)
not_all p [] e = absurd (false≢true (sym e))
not_all p (x ∷ xs) e = ⊎_elim
    (λ on. let t = not_all p xs (subst (λ b. b && list_all p xs ≡ false) on e) in (t.0, set_of-rest x xs t.0 t.1, t.2))
    (λ off. (x, set_of-first x xs, off)) (cases_Bool (p x))

filter_short : (b : Bool) (x : ℕ) (xs : List ℕ) (n : ℕ) → length xs ≤ n → length (cond b (x ∷ xs) xs) ≤ suc n
filter_short true x xs n h = omega arith
filter_short false x xs n h = omega arith

filter_less : (b : Bool) (x : ℕ) (xs : List ℕ) (n : ℕ) → length xs < n → length (cond b (x ∷ xs) xs) < suc n
filter_less true x xs n h = omega arith
filter_less false x xs n h = omega arith

length_filter : (p : ℕ → Bool) (xs : List ℕ) → length (filter p xs) ≤ length xs
length_filter p [] = omega arith
length_filter p (x ∷ xs) = filter_short (p x) x (filter p xs) (length xs) (length_filter p xs)

filter_shorter : (p : ℕ → Bool) (xs : List ℕ) (n : ℕ) → Has (set_of xs) n → p n ≡ false → length (filter p xs) < length xs
filter_shorter p [] n h e = absurd (false≢true h)
filter_shorter p (x ∷ xs) n h e = ⊎_elim
    (λ is. subst (λ b. length (cond b (x ∷ filter p xs) (filter p xs)) < suc (length xs)) (sym (ap p is ∙ e)) (omega (arith, length_filter p xs)))
    (λ r. filter_less (p x) x (filter p xs) (length xs) (filter_shorter p xs n r e)) (set_of-cases x xs n h)

module _ (system : System) (target : ℕ) where
  -- the events of a cut set that is not minimal, without one that it does not need
  fewer_events : (set : List ℕ) → IsCutSet system target set → is_minimal system target set ≡ false → (rest : List ℕ) × IsCutSet system target rest × IsSubset rest set × (length rest < length set)
  fewer_events set cut off =
      let holds : makes_hold system target (set_of set) ≡ true = (makes_hold-exact system target (set_of set)).1 cut.1 in
      let spare = not_all (λ n. not (makes_hold system target (without (set_of set) n))) set (subst (λ b. b && list_all (λ n. not (makes_hold system target (without (set_of set) n))) set ≡ false) holds off) in
      let n = spare.0 in
      let p = λ (m : ℕ). not (eqb m n) in
      let still : makes_hold system target (without (set_of set) n) ≡ true = not_false _ spare.2 in
      let same : set_of (filter p set) ≡ without (set_of set) n = same_set (set_of-filter p set) in (
        filter p set,
        (RisesWithin-filter p 0 (length system.events) set cut.0, (makes_hold-exact system target (set_of (filter p set))).0 (subst (λ es. makes_hold system target es ≡ true) (sym same) still)),
        (λ m k. (and_parts _ _ (sym (set_of-filter p set m) ∙ k)).0),
        filter_shorter p set n spare.1 (ap not (eq-eqb n n refl)),
      )
    where
      not_false : (b : Bool) → not b ≡ false → b ≡ true
      not_false true e = refl
      not_false false e = absurd (false≢true (sym e))

  minimal_within : (k : ℕ) (set : List ℕ) → length set ≤ k → IsCutSet system target set → (found : List ℕ) × IsMinimalCutSet system target found × IsSubset found set × (length found ≤ length set)
  minimal_within zero set few cut = ⊎_elim
      (λ yes. (set, is_minimal-sound system target set cut.0 yes, (λ n h. h), omega arith))
      (λ no. absurd (omega (arith, (fewer_events set cut no).3))) (cases_Bool (is_minimal system target set))
  minimal_within (suc k) set few cut = ⊎_elim
      (λ yes. (set, is_minimal-sound system target set cut.0 yes, (λ n h. h), omega arith))
      (λ no. let less = fewer_events set cut no in
      let found = minimal_within k less.0 (omega (arith, less.3)) less.1 in
      (found.0, found.1, (λ n h. less.2 n (found.2 n h)), omega (arith, found.3, less.3))) (cases_Bool (is_minimal system target set))

  fewer_within : (most : Option ℕ) (a b : List ℕ) → length a ≤ length b → IsWithinOrder most b → IsWithinOrder most a
  fewer_within None a b h w = tt
  fewer_within (Some k) a b h w = omega (arith, w)

  pub covers : (most : Option ℕ) (sets : List (List ℕ)) (events : List ℕ) → IsListing system target most sets → IsEventSet system events → IsWithinOrder most events → (Holds system (set_of events) target ↔ ((set : List ℕ) × Contains sets set × IsSubset set events))
  covers most sets events is_listing rises within = (
    (λ h. let found = minimal_within (length events) events (omega arith) (rises, h) in
        (found.0, (is_listing.exact found.0).1 (found.1, fewer_within most found.0 events found.3 within), found.2)),
    (λ t. Holds-grows system target (set_of t.0) (set_of events) t.2 target ((is_listing.exact t.0).0 t.1).0.0.1),
  )
