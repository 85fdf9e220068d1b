-- When one of the sets of another system has the names of a set: exactly if it has the set of their numbers there.
use Rattle.std.proofs.Common.{ℕ, ◌≡◌, ◌≢◌, ◌<◌, ◌⊎◌, Bool, true, false, ◌||◌, List, [], ◌∷◌, length, Option, Some, Contains, inl, inr, ⊎_elim, refl, sym, ap, ◌∙◌, subst}
use Rattle.std.specs.Prelude.{IsTrue, ◌↔◌}
use Rattle.std.specs.List.{list_all, list_any}
use Rattle.std.specs.List.Sorted.{IsPermutation}
use Rattle.std.proofs.lemmas.Bool.{false≢true, and_from, and_parts}
use Rattle.std.proofs.lemmas.List.Folds.{list_any_at}
use Rattle.std.proofs.lemmas.List.Sorted.{Contains-permutation, IsPermutation-sym}
use Rattle.std.proofs.lemmas.Slice.Eq.{bytes_eq-Decides}
use Rattle.plain_values.specs.Name.{is_same_text}
use Rattle.fault_system.specs.Systems.{System, IsSystem, event_name}
use Rattle.fault_system.specs.CutSets.{IsEventSet}
use Rattle.fault_system.proofs.Elements.{In, In-contains, contains_In, In-map, In-mapped}
use Rattle.fault_system.proofs.NumberSets.{RisesWithin-at, contained-in_set, same_rising, set_of-contained}
use Rattle.listing_changes.specs.Changes.{are_among, have_same_names, is_matched, names_of}
use Rattle.listing_changes.specs.inner.Numbers.{AreNumbers, LacksNumber, number_of, numbers_there}
use Rattle.listing_changes.proofs.Names.{no-name, one-event, same-name}

-- ---- tests on lists

any-made : {X : Type 0} (p : X → Bool) (x : X) (xs : List X) → In x xs → p x ≡ true → list_any p xs ≡ true
any-made p x xs here is = let at = contains_In x xs here in list_any_at p xs at.0 x at.1 (ap p at.2 ∙ is)

any-found : {X : Type 0} (p : X → Bool) (xs : List X) → list_any p xs ≡ true → (x : X) × In x xs × (p x ≡ true)
any-found p [] some = absurd (false≢true some)
any-found {X} p (y ∷ ys) some = by (p y) refl some (any-found p ys) where
  by : (b : Bool) → p y ≡ b → b || list_any p ys ≡ true → (list_any p ys ≡ true → (x : X) × In x ys × (p x ≡ true)) → (x : X) × ((y ≡ x) ⊎ In x ys) × (p x ≡ true)
  by true e h later = (y, inl refl, e)
  by false e h later = let found = later h in (found.0, inr found.1, found.2)

all-made : {X : Type 0} (p : X → Bool) (xs : List X) → ((x : X) → In x xs → p x ≡ true) → list_all p xs ≡ true
all-made p [] each = refl
all-made p (x ∷ xs) each = and_from (p x) (list_all p xs) (each x (inl refl)) (all-made p xs (λ y here. each y (inr here)))

all-at : {X : Type 0} (p : X → Bool) (x : X) (xs : List X) → list_all p xs ≡ true → In x xs → p x ≡ true
all-at p x [] all here = absurd here
all-at p x (y ∷ ys) all here =
    let both = and_parts (p y) (list_all p ys) all in ⊎_elim (λ same. subst (λ z. p z ≡ true) same both.0) (λ later. all-at p x ys both.1 later) here

-- names are among others
among-made : (names others : List (List ℕ)) → ((name : List ℕ) → In name names → In name others) → are_among names others ≡ true
among-made names others each =
    all-made (λ name. list_any (is_same_text name) others) names (λ name here. any-made (is_same_text name) name others (each name here) ((bytes_eq-Decides name name).1 refl))

among-at : (names others : List (List ℕ)) (name : List ℕ) → are_among names others ≡ true → In name names → In name others
among-at names others name all here =
    let found = any-found (is_same_text name) others (all-at (λ n. list_any (is_same_text n) others) name names all here) in
    subst (λ n. In n others) (sym ((bytes_eq-Decides name found.0).0 found.2)) found.1

-- ---- numbers there

module _ (table : List (Option ℕ)) (set numbers : List ℕ) (are : AreNumbers table set numbers) where
  -- each event has a number
  number-of-event : (event : ℕ) → In event set → (number : ℕ) × In number numbers × (number_of table event ≡ Some number)
  number-of-event event here =
      let found = In-map Some (number_of table event) numbers (subst (In (number_of table event)) are (In-mapped (number_of table) event set here)) in
      (found.0, found.1, sym found.2)

  -- and each number is that of an event
  event-of-number : (number : ℕ) → In number numbers → (event : ℕ) × In event set × (number_of table event ≡ Some number)
  event-of-number number here = In-map (number_of table) (Some number) set (subst (In (Some number)) (sym are) (In-mapped Some number numbers here))

-- an event of a set is one of the system
event-in : (system : System) (set : List ℕ) (event : ℕ) → IsEventSet system set → In event set → event < length system.events
event-in system set event rises here = (RisesWithin-at 0 (length system.events) set event rises (contained-in_set set event (contains_In event set here))).1

module _ (here there : System) (others : List (List ℕ)) (set : List ℕ) (rises : IsEventSet here set) where
  abbrev table : List (Option ℕ)
  table = numbers_there here there

  -- the set of the numbers has the names
  names-agree : (numbers sorted : List ℕ) → AreNumbers table set numbers → IsPermutation numbers sorted → have_same_names here set there sorted ≡ true
  names-agree numbers sorted are moved = and_from (are_among (names_of here set) (names_of there sorted)) (are_among (names_of there sorted) (names_of here set))
      (among-made (names_of here set) (names_of there sorted) there-too) (among-made (names_of there sorted) (names_of here set) here-too)
    where
      in-sorted : (number : ℕ) → In number numbers → In number sorted
      in-sorted number is = In-contains number sorted (Contains-permutation numbers sorted number moved (contains_In number numbers is))

      in-numbers : (number : ℕ) → In number sorted → In number numbers
      in-numbers number is = In-contains number numbers (Contains-permutation sorted numbers number (IsPermutation-sym numbers sorted moved) (contains_In number sorted is))

      there-too : (name : List ℕ) → In name (names_of here set) → In name (names_of there sorted)
      there-too name is =
          let event = In-map (event_name here) name set is in
          let number = number-of-event table set numbers are event.0 event.1 in
          let same = same-name here there event.0 number.0 (event-in here set event.0 rises event.1) number.2 in
          subst (λ n. In n (names_of there sorted)) (same.1 ∙ event.2) (In-mapped (event_name there) number.0 sorted (in-sorted number.0 number.1))

      here-too : (name : List ℕ) → In name (names_of there sorted) → In name (names_of here set)
      here-too name is =
          let number = In-map (event_name there) name sorted is in
          let event = event-of-number table set numbers are number.0 (in-numbers number.0 number.1) in
          let same = same-name here there event.0 number.0 (event-in here set event.0 rises event.1) event.2 in
          subst (λ n. In n (names_of here set)) (sym same.1 ∙ number.2) (In-mapped (event_name here) event.0 set event.1)

  -- if the others have the set of the numbers, one of them has the names
  pub matched-by : (numbers sorted : List ℕ) → AreNumbers table set numbers → IsPermutation numbers sorted → Contains others sorted → is_matched here there others set ≡ true
  matched-by numbers sorted are moved has = any-made (have_same_names here set there) sorted others (In-contains sorted others has) (names-agree numbers sorted are moved)

  module _ (is : IsSystem there) (sets : (other : List ℕ) → Contains others other → IsEventSet there other) where
    -- a set of the same names is the set of the numbers
    same-set : (other numbers sorted : List ℕ) → In other others → have_same_names here set there other ≡ true → AreNumbers table set numbers → IsPermutation numbers sorted → IsEventSet there sorted → other ≡ sorted
    same-set other numbers sorted among same are moved up =
        same_rising 0 0 (length there.events) other sorted (sets other (contains_In other others among)) up
        (λ n has. contained-in_set sorted n (Contains-permutation numbers sorted n moved (contains_In n numbers (number-too n (In-contains n other (set_of-contained other n has))))))
        (λ n has. contained-in_set other n (contains_In n other (other-too n (In-contains n numbers (Contains-permutation sorted numbers n (IsPermutation-sym numbers sorted moved) (set_of-contained sorted n has))))))
      where
        both : (are_among (names_of here set) (names_of there other) ≡ true) × (are_among (names_of there other) (names_of here set) ≡ true)
        both = and_parts (are_among (names_of here set) (names_of there other)) (are_among (names_of there other) (names_of here set)) same

        other-in : (n : ℕ) → In n other → n < length there.events
        other-in n has = event-in there other n (sets other (contains_In other others among)) has

        -- a number of the other set is that of an event of this one
        number-too : (n : ℕ) → In n other → In n numbers
        number-too n has =
            let event = In-map (event_name here) (event_name there n) set (among-at (names_of there other) (names_of here set) (event_name there n) both.1 (In-mapped (event_name there) n other has)) in
            let number = number-of-event table set numbers are event.0 event.1 in
            let known = same-name here there event.0 number.0 (event-in here set event.0 rises event.1) number.2 in
            subst (λ m. In m numbers) (one-event there is number.0 n known.0 (other-in n has) (known.1 ∙ event.2)) number.1

        -- and the number of an event of this one is in the other
        other-too : (n : ℕ) → In n numbers → In n other
        other-too n has =
            let event = event-of-number table set numbers are n has in
            let known = same-name here there event.0 n (event-in here set event.0 rises event.1) event.2 in
            let found = In-map (event_name there) (event_name here event.0) other (among-at (names_of here set) (names_of there other) (event_name here event.0) both.0 (In-mapped (event_name here) event.0 set event.1)) in
            subst (λ m. In m other) (one-event there is found.0 n (other-in found.0 found.1) known.0 (found.2 ∙ sym known.1)) found.1

    -- if one of the others has the names, they have the set of the numbers
    pub matched-has : (numbers sorted : List ℕ) → AreNumbers table set numbers → IsPermutation numbers sorted → IsEventSet there sorted → is_matched here there others set ≡ true → Contains others sorted
    matched-has numbers sorted are moved up matched =
        let other = any-found (have_same_names here set there) others matched in
        subst (Contains others) (same-set other.0 numbers sorted other.1 other.2 are moved up) (contains_In other.0 others other.1)

    -- where an event has no number none of the others has the names
    pub unmatched-without : LacksNumber table set → is_matched here there others set ≡ true → ⊥
    unmatched-without lacks matched =
        let other = any-found (have_same_names here set there) others matched in
        let both = and_parts (are_among (names_of here set) (names_of there other.0)) (are_among (names_of there other.0) (names_of here set)) other.2 in
        let event_here = In-contains lacks.0 set lacks.1 in
        let found = In-map (event_name there) (event_name here lacks.0) other.0 (among-at (names_of here set) (names_of there other.0) (event_name here lacks.0) both.0 (In-mapped (event_name here) lacks.0 set event_here)) in
        no-name here there lacks.0 found.0 (event-in here set lacks.0 rises event_here) (event-in there other.0 found.0 (sets other.0 (contains_In other.0 others other.1)) found.1) lacks.2 found.2

pub same-bool : (a b : Bool) → (a ≡ true → b ≡ true) → (b ≡ true → a ≡ true) → a ≡ b
same-bool true b to from = sym (to refl)
same-bool false true to from = from refl
same-bool false false to from = refl

-- the answer where all events have numbers
pub matched-is : (here there : System) (others : List (List ℕ)) (set numbers sorted : List ℕ) (answer : Bool) → IsSystem there → ((other : List ℕ) → Contains others other → IsEventSet there other) → IsEventSet here set
    → AreNumbers (numbers_there here there) set numbers → IsPermutation numbers sorted → IsEventSet there sorted → (IsTrue answer ↔ Contains others sorted) → answer ≡ is_matched here there others set
matched-is here there others set numbers sorted answer is sets rises are moved up has =
    same-bool answer (is_matched here there others set) (λ e. matched-by here there others set rises numbers sorted are moved (has.0 e))
    (λ e. has.1 (matched-has here there others set rises is sets numbers sorted are moved up e))

-- and where one has none
pub matched-not : (here there : System) (others : List (List ℕ)) (set : List ℕ) → IsSystem there → ((other : List ℕ) → Contains others other → IsEventSet there other) → IsEventSet here set
    → LacksNumber (numbers_there here there) set → false ≡ is_matched here there others set
matched-not here there others set is sets rises lacks =
    same-bool false (is_matched here there others set) (λ e. absurd (false≢true e)) (λ e. absurd (unmatched-without here there others set rises is sets lacks e))

-- of two families with the same sets both match alike
pub matched-same : (here there : System) (others more : List (List ℕ)) (set : List ℕ) → ((other : List ℕ) → Contains others other ↔ Contains more other) → is_matched here there others set ≡ is_matched here there more set
matched-same here there others more set same =
    same-bool (is_matched here there others set) (is_matched here there more set) (λ e. through others more (λ other. (same other).0) e) (λ e. through more others (λ other. (same other).1) e)
  where
    through : (xs ys : List (List ℕ)) → ((other : List ℕ) → Contains xs other → Contains ys other) → is_matched here there xs set ≡ true → is_matched here there ys set ≡ true
    through xs ys into e =
        let found = any-found (have_same_names here set there) xs e in
        any-made (have_same_names here set there) found.0 ys (In-contains found.0 ys (into found.0 (contains_In found.0 xs found.1))) found.2

-- a set with the same names as one of the others is matched
pub equal-names : (here there : System) (others : List (List ℕ)) (set other : List ℕ) → Contains others other → ((name : List ℕ) → Contains (names_of here set) name ↔ Contains (names_of there other) name) → is_matched here there others set ≡ true
equal-names here there others set other among same =
    any-made (have_same_names here set there) other others (In-contains other others among)
    (and_from (are_among (names_of here set) (names_of there other)) (are_among (names_of there other) (names_of here set))
    (among-made (names_of here set) (names_of there other) (λ name is. In-contains name (names_of there other) ((same name).0 (contains_In name (names_of here set) is))))
    (among-made (names_of there other) (names_of here set) (λ name is. In-contains name (names_of here set) ((same name).1 (contains_In name (names_of there other) is)))))

-- and nothing else
pub matched-equal : (here there : System) (others : List (List ℕ)) (set : List ℕ) → is_matched here there others set ≡ true
    → (other : List ℕ) × Contains others other × ((name : List ℕ) → Contains (names_of here set) name ↔ Contains (names_of there other) name)
matched-equal here there others set matched =
    let other = any-found (have_same_names here set there) others matched in
    let both = and_parts (are_among (names_of here set) (names_of there other.0)) (are_among (names_of there other.0) (names_of here set)) other.2 in (
      other.0,
      contains_In other.0 others other.1,
      λ name. (
        (λ is. contains_In name (names_of there other.0) (among-at (names_of here set) (names_of there other.0) name both.0 (In-contains name (names_of here set) is))),
        (λ is. contains_In name (names_of here set) (among-at (names_of there other.0) (names_of here set) name both.1 (In-contains name (names_of there other.0) is))),
      ),
    )
