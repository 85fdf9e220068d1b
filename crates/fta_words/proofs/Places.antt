-- Lists of places that rise, and names with a sign between them.
use Rattle.std.proofs.Common.{◌≡◌, ◌≢◌, ◌≤◌, ◌<◌, ◌+◌, ℕ, true, false, List, [], ◌∷◌, ◌++◌, length, Option, Some, None, IsSome, MatchOption, refl, sym, ap, subst, ◌∙◌, inl, inr, ◌⊎◌, arith, append_assoc, append-nil, length-append}
use Rattle.std.specs.Prelude.{Contains}
use Rattle.std.specs.List.{AllByRecursion, flat_map, join_with_byte}
use Rattle.std.proofs.lemmas.Bool.{false≢true, cases_lt}
use Rattle.std.proofs.lemmas.List.Elements.{Contains-append_cases, Contains-append_right, Contains-append_left, Contains-push_cases, Contains-push}
use Rattle.std.proofs.lemmas.Option.{slice_get_within}
use Rattle.plain_values.specs.Rising.{RisesWithin}
use Rattle.fta_words.specs.Words.{AreAll, AreChosen, AreDifferent, AreNames, IsReport, Rise}
use Rattle.fta_words.specs.inner.Naming.{AreCut, AreInOrder, NamesNoPlaces, NamesPlaces, Stand, Without}
use Rattle.fta_words.proofs.Roots.{none_there, one_cut, same_cut}

-- ---- items of lists

-- an item of a list is the first or one of the others
pub one_of : {X : Type 0} (x y : X) (xs : List X) → Contains (x ∷ xs) y → (x ≡ y) ⊎ Contains xs y
one_of x y xs has = elim (Contains-append_cases (x ∷ []) xs y has) [
  | inl here ↦ elim (Contains-push_cases [] x y here) [ inl none ↦ absurd (omega (arith, none.1)) | inr same ↦ inl same ]
  | inr there ↦ inr there
]

pub none_of : {X : Type 0} (y : X) → Contains [] y → ⊥
none_of y has = omega (arith, has.1)

pub first_of : {X : Type 0} (x : X) (xs : List X) → Contains (x ∷ xs) x
first_of x xs = Contains-append_left (x ∷ []) xs x (Contains-push [] x)

pub later_of : {X : Type 0} (x y : X) (xs : List X) → Contains xs y → Contains (x ∷ xs) y
later_of x y xs has = Contains-append_right (x ∷ []) xs y has

pub each_of : {X : Type 0} (P : X → Type 0) (xs : List X) (y : X) → AllByRecursion P xs → Contains xs y → P y
each_of P [] y all has = absurd (none_of y has)
each_of P (x ∷ xs) y all has = elim (one_of x y xs has) [ inl same ↦ subst P same all.0 | inr there ↦ each_of P xs y all.1 there ]

pub each_from : {X : Type 0} (P : X → Type 0) (xs : List X) → ((y : X) → Contains xs y → P y) → AllByRecursion P xs
each_from P [] each = tt
each_from P (x ∷ xs) each = (each x (first_of x xs), each_from P xs (λ y has. each y (later_of x y xs has)))

pub each_push : {X : Type 0} (P : X → Type 0) (xs : List X) (y : X) → AllByRecursion P xs → P y → AllByRecursion P (xs ++ y ∷ [])
each_push P [] y all one = (one, tt)
each_push P (x ∷ xs) y all one = (all.0, each_push P xs y all.1 one)

-- ---- lists that rise

rise_push : (xs : List ℕ) (k : ℕ) → Rise xs → ((p : ℕ) → Contains xs p → p < k) → Rise (xs ++ k ∷ [])
rise_push [] k rise below = (tt, tt)
rise_push (x ∷ xs) k rise below = (each_push (λ other. x < other) xs k rise.0 (below x (first_of x xs)), rise_push xs k rise.1 (λ p has. below p (later_of x p xs has)))

pub none_in_order : (IsAmong : ℕ → Type 0) → AreInOrder 0 IsAmong []
none_in_order IsAmong = record { rise = tt; chosen_are = λ place. (λ has. absurd (none_of place has), λ is. absurd (omega (arith, is.0))) }

pub one_in_order : (IsAmong : ℕ → Type 0) (k : ℕ) (xs : List ℕ) → AreInOrder k IsAmong xs → IsAmong k → AreInOrder (k + 1) IsAmong (xs ++ k ∷ [])
one_in_order IsAmong k xs so_far is =
    record {
      rise = rise_push xs k so_far.rise (λ p has. ((so_far.chosen_are p).0 has).0);
      chosen_are =
          λ place. (
            λ has. elim (Contains-push_cases xs k place has) [
              | inl before ↦ let old = (so_far.chosen_are place).0 before in (omega (arith, old.0), old.1)
              | inr same ↦ (omega (arith, same), subst IsAmong same is)
            ],
            λ among. elim (cases_lt place k) [
              | inl less ↦ Contains-append_left xs (k ∷ []) place ((so_far.chosen_are place).1 (less, among.1))
              | inr more ↦ let same : k ≡ place = omega (arith, among.0) in subst (Contains (xs ++ k ∷ [])) same (Contains-push xs k)
            ],
          );
    }

pub other_in_order : (IsAmong : ℕ → Type 0) (k : ℕ) (xs : List ℕ) → AreInOrder k IsAmong xs → (IsAmong k → ⊥) → AreInOrder (k + 1) IsAmong xs
other_in_order IsAmong k xs so_far not =
    record {
      rise = so_far.rise;
      chosen_are =
          λ place. (
            λ has. let old = (so_far.chosen_are place).0 has in (omega (arith, old.0), old.1),
            λ among. elim (cases_lt place k) [
              | inl less ↦ (so_far.chosen_are place).1 (less, among.1)
              | inr more ↦ let same : place ≡ k = omega (arith, among.0) in absurd (not (subst IsAmong same among.1))
            ],
          );
    }

-- lists that rise and have the same items are the same
pub same_rising : (a b : List ℕ) → Rise a → Rise b → ((p : ℕ) → Contains a p → Contains b p) → ((p : ℕ) → Contains b p → Contains a p) → a ≡ b
same_rising [] [] ra rb to from = refl
same_rising [] (y ∷ b) ra rb to from = absurd (none_of y (from y (first_of y b)))
same_rising (x ∷ a) [] ra rb to from = absurd (none_of x (to x (first_of x a)))
same_rising (x ∷ a) (y ∷ b) ra rb to from =
    let head : y ≡ x = elim (one_of y x b (to x (first_of x a))) [
      | inl same ↦ same
      | inr later ↦ elim (one_of x y a (from y (first_of y b))) [
        | inl same ↦ sym same
        | inr other ↦ let less = each_of (λ o. y < o) b x rb.0 later in let more = each_of (λ o. x < o) a y ra.0 other in absurd (omega (arith, less, more))
      ]
    ] in
    let tail : a ≡ b = same_rising a b ra.1 rb.1
    (λ p has. elim (one_of y p b (to p (later_of x p a has))) [
      | inl same ↦ let less = each_of (λ o. x < o) a p ra.0 has in absurd (omega (arith, less, same, head))
      | inr later ↦ later
    ])
    (λ p has. elim (one_of x p a (from p (later_of y p b has))) [
      | inl same ↦ let less = each_of (λ o. y < o) b p rb.0 has in absurd (omega (arith, less, same, head))
      | inr later ↦ later
    ]) in
    cc (head, tail)

-- ---- names

pub without_from : (bytes : List ℕ) → (Contains bytes 43 → ⊥) → Without 43 bytes
without_from bytes none = each_from (λ byte. byte ≡ 43 → ⊥) bytes (λ byte has same. none (subst (Contains bytes) same has))

pub without_to : (bytes : List ℕ) → Without 43 bytes → Contains bytes 43 → ⊥
without_to bytes none has = each_of (λ byte. byte ≡ 43 → ⊥) bytes 43 none has refl

pub weaken : {X : Type 0} (P Q : X → Type 0) (xs : List X) → ((x : X) → P x → Q x) → AllByRecursion P xs → AllByRecursion Q xs
weaken P Q [] to all = tt
weaken P Q (x ∷ xs) to all = (to x all.0, weaken P Q xs to all.1)

same_cut_names : (a b : List (List ℕ)) → 0 < length a → 0 < length b → AllByRecursion (Without 43) a → AllByRecursion (Without 43) b → join_with_byte 43 a ≡ join_with_byte 43 b → a ≡ b
same_cut_names [] b some more wa wb e = absurd (omega arith)
same_cut_names (n ∷ a) [] some more wa wb e = absurd (omega arith)
same_cut_names (n ∷ []) (m ∷ []) some more wa wb e = ap (λ l. l ∷ []) e
same_cut_names (n ∷ []) (m ∷ k ∷ b) some more wa wb e = absurd (none_there 43 m (join_with_byte 43 (k ∷ b)) (subst (Without 43) e wa.0))
same_cut_names (n ∷ k ∷ a) (m ∷ []) some more wa wb e = absurd (none_there 43 n (join_with_byte 43 (k ∷ a)) (subst (Without 43) (sym e) wb.0))
same_cut_names (n ∷ k ∷ a) (m ∷ l ∷ b) some more wa wb e =
    let cut = same_cut 43 n (join_with_byte 43 (k ∷ a)) m (join_with_byte 43 (l ∷ b)) wa.0 wb.0 e in
    let rest : k ∷ a ≡ l ∷ b = same_cut_names (k ∷ a) (l ∷ b) (omega arith) (omega arith) wa.1 wb.1 cut.1 in
    cc (cut.0, rest)

-- a text is cut in one way
pub one_cut_text : (text : List ℕ) (a b : List (List ℕ)) → AreCut text a → AreCut text b → a ≡ b
one_cut_text text a b x y = same_cut_names a b x.some_name y.some_name x.no_plus y.no_plus (sym x.text_is ∙ y.text_is)

-- the part of a text before the first sign is its first name, and the others are what stands after it
pub next_piece : {R : Type 0} (now : R → List ℕ) (more : Option R) (rest name : List ℕ) (others : List (List ℕ)) → AreCut rest others
    → MatchOption more (name ≡ rest) (λ after. rest ≡ name ++ (43 ∷ now after))
    → ((front back : List ℕ) → rest ≡ front ++ (43 ∷ back) → IsSome more × (length name ≤ length front))
    → MatchOption more (others ≡ name ∷ []) (λ after. (later : List (List ℕ)) × AreCut (now after) later × (others ≡ name ∷ later))
next_piece now more rest name [] j parts first = absurd (omega (arith, j.some_name))
next_piece now None rest name (n ∷ []) j parts first = ap (λ l. l ∷ []) (sym (parts ∙ j.text_is))
next_piece now (Some after) rest name (n ∷ []) j parts first =
    absurd (none_there 43 name (now after) (subst (Without 43) (sym j.text_is ∙ parts) j.no_plus.0))
next_piece now None rest name (n ∷ m ∷ ms) j parts first = absurd (false≢true (first n (join_with_byte 43 (m ∷ ms)) j.text_is).0)
next_piece now (Some after) rest name (n ∷ m ∷ ms) j parts first =
    let cut = one_cut 43 n (join_with_byte 43 (m ∷ ms)) name (now after) j.no_plus.0 (sym j.text_is ∙ parts) (first n (join_with_byte 43 (m ∷ ms)) j.text_is).1 in
    let later : AreCut (now after) (m ∷ ms) = record { text_is = sym cut.1; some_name = omega arith; no_plus = j.no_plus.1 } in
    (m ∷ ms, later, ap (λ l. l ∷ m ∷ ms) cut.0)

-- the first name of a cut text holds no sign
first_piece : (text : List ℕ) (name : List ℕ) (later : List (List ℕ)) → AreCut text (name ∷ later) → Without 43 name
first_piece text name later cut = cut.no_plus.0

-- the part before the first sign holds none
pub front_without : (name after text : List ℕ) → text ≡ name ++ (43 ∷ after) → ((front back : List ℕ) → text ≡ front ++ (43 ∷ back) → length name ≤ length front) → Without 43 name
front_without name after text whole first =
    without_from name (λ has. let split = cut_at name has in
    let shorter = first split.0 (split.1 ++ (43 ∷ after)) (whole ∙ ap (λ l. l ++ (43 ∷ after)) split.2 ∙ append_assoc split.0 (43 ∷ split.1) (43 ∷ after)) in
    let long = ap length split.2 in
    omega (arith, shorter, long, length-append split.0 (43 ∷ split.1)))
  where
    cut_at : (bytes : List ℕ) → Contains bytes 43 → (front : List ℕ) × (back : List ℕ) × (bytes ≡ front ++ (43 ∷ back))
    cut_at [] has = absurd (none_of 43 has)
    cut_at (byte ∷ bytes) has = elim (one_of byte 43 bytes has) [
      | inl same ↦ ([], bytes, ap (λ b. b ∷ bytes) same)
      | inr there ↦ let rest = cut_at bytes there in (byte ∷ rest.0, rest.1, ap (λ l. byte ∷ l) rest.2)
    ]

-- ---- places of names

pub one_report : (reports : List (List ℕ)) (name : List ℕ) (a b : ℕ) → IsReport reports name a → IsReport reports name b → a ≡ b
one_report reports name a b x y = let less = x.first b y.here in let more = y.first a x.here in omega (arith, less, more)

pub one_name : (reports : List (List ℕ)) (a b : List ℕ) (place : ℕ) → IsReport reports a place → IsReport reports b place → a ≡ b
one_name reports a b place x y = let same : Some a ≡ Some b = sym x.here ∙ y.here in cc (same)

pub stand_push : (reports : List (List ℕ)) (names : List (List ℕ)) (places : List ℕ) (name : List ℕ) (place : ℕ) → Stand reports names places → IsReport reports name place → Stand reports (names ++ name ∷ []) (places ++ place ∷ [])
stand_push reports [] [] name place stand is = (is, tt)
stand_push reports [] (p ∷ places) name place stand is = absurd stand
stand_push reports (n ∷ names) [] name place stand is = absurd stand
stand_push reports (n ∷ names) (p ∷ places) name place stand is = (stand.0, stand_push reports names places name place stand.1 is)

-- a name has its place among them
pub place_there : (reports : List (List ℕ)) (names : List (List ℕ)) (places : List ℕ) → Stand reports names places → (name : List ℕ) → Contains names name → (place : ℕ) × IsReport reports name place × Contains places place
place_there reports [] places stand name has = absurd (none_of name has)
place_there reports (n ∷ names) [] stand name has = absurd stand
place_there reports (n ∷ names) (p ∷ places) stand name has = elim (one_of n name names has) [
  | inl same ↦ (p, subst (λ m. IsReport reports m p) same stand.0, first_of p places)
  | inr there ↦ let rest = place_there reports names places stand.1 name there in (rest.0, rest.1, later_of p rest.0 places rest.2)
]

-- a place has its name among them
pub name_there : (reports : List (List ℕ)) (names : List (List ℕ)) (places : List ℕ) → Stand reports names places → (place : ℕ) → Contains places place → (name : List ℕ) × IsReport reports name place × Contains names name
name_there reports names [] stand place has = absurd (none_of place has)
name_there reports [] (p ∷ places) stand place has = absurd stand
name_there reports (n ∷ names) (p ∷ places) stand place has = elim (one_of p place places has) [
  | inl same ↦ (n, subst (IsReport reports n) same stand.0, first_of n names)
  | inr there ↦ let rest = name_there reports names places stand.1 place there in (rest.0, rest.1, later_of n rest.0 names rest.2)
]

-- ---- one more name, and names that differ

pub different_push : (names : List (List ℕ)) (name : List ℕ) → AreDifferent names → (Contains names name → ⊥) → AreDifferent (names ++ name ∷ [])
different_push [] name differ not = (tt, tt)
different_push (n ∷ names) name differ not =
    (each_push (λ other. n ≢ other) names name differ.0 (λ same. not (subst (Contains (n ∷ names)) same (first_of n names))), different_push names name differ.1 (λ has. not (later_of n name names has)))

pub twice_there : (names : List (List ℕ)) (name : List ℕ) (later : List (List ℕ)) → AreDifferent (names ++ (name ∷ later)) → Contains names name → ⊥
twice_there [] name later differ has = none_of name has
twice_there (n ∷ names) name later differ has = elim (one_of n name names has) [
  | inl same ↦ each_of (λ other. n ≢ other) (names ++ (name ∷ later)) name differ.0 (Contains-append_right names (name ∷ later) name (first_of name later)) same
  | inr there ↦ twice_there names name later differ.1 there
]

pub joined_push : (names : List (List ℕ)) (last : List ℕ) → join_with_byte 43 (names ++ last ∷ []) ≡ flat_map (λ name. name ++ (43 ∷ [])) names ++ last
joined_push [] last = refl
joined_push (name ∷ []) last = sym (ap (λ l. l ++ last) (append-nil (name ++ (43 ∷ []))) ∙ append_assoc name (43 ∷ []) last)
joined_push (name ∷ next ∷ names) last =
    let others = flat_map (λ n. n ++ (43 ∷ [])) (next ∷ names) in
    ap (λ l. name ++ (43 ∷ l)) (joined_push (next ∷ names) last) ∙ sym (append_assoc (name ++ (43 ∷ [])) others last ∙ append_assoc name (43 ∷ []) (others ++ last))

-- The names before a rest of the text, and their places.
pub record AreNamed (reports : List (List ℕ)) (text rest : List ℕ) (places : List ℕ) : Type 0 where
  pub names : List (List ℕ)
  pub so_far : text ≡ flat_map (λ name. name ++ (43 ∷ [])) names ++ rest
  pub no_plus : AllByRecursion (Without 43) names
  pub once : AreDifferent names
  pub stand : Stand reports names places
  pub left : (all : List (List ℕ)) → AreCut text all → (others : List (List ℕ)) × AreCut rest others × (all ≡ names ++ others)

pub none_named : (reports : List (List ℕ)) (text : List ℕ) → AreNamed reports text text []
none_named reports text = record { names = []; so_far = refl; no_plus = tt; once = tt; stand = tt; left = λ all cut. (all, cut, refl) }

flat_push : (names : List (List ℕ)) (name : List ℕ) (rest : List ℕ) → flat_map (λ n. n ++ (43 ∷ [])) (names ++ name ∷ []) ++ rest ≡ flat_map (λ n. n ++ (43 ∷ [])) names ++ (name ++ (43 ∷ rest))
flat_push [] name rest = ap (λ l. l ++ rest) (append-nil (name ++ (43 ∷ []))) ∙ append_assoc name (43 ∷ []) rest
flat_push (n ∷ names) name rest =
    let f = flat_map (λ m. m ++ (43 ∷ [])) in
    append_assoc (n ++ (43 ∷ [])) (f (names ++ name ∷ [])) rest ∙ ap (λ l. (n ++ (43 ∷ [])) ++ l) (flat_push names name rest) ∙ sym (append_assoc (n ++ (43 ∷ [])) (f names) (name ++ (43 ∷ rest)))

-- a name is new exactly where its place is
pub new_name : (reports : List (List ℕ)) (names : List (List ℕ)) (places : List ℕ) → Stand reports names places → (name : List ℕ) (place : ℕ) → IsReport reports name place → (Contains places place → ⊥) → Contains names name → ⊥
new_name reports names places stand name place is not has =
    let there = place_there reports names places stand name has in not (subst (Contains places) (one_report reports name there.0 place there.1 is) there.2)

pub one_named : {R : Type 0} (now : R → List ℕ) (more : Option R) (reports : List (List ℕ)) (text rest name : List ℕ) (places : List ℕ) (place : ℕ) → AreNamed reports text rest places
    → MatchOption more (name ≡ rest) (λ after. rest ≡ name ++ (43 ∷ now after))
    → ((front back : List ℕ) → rest ≡ front ++ (43 ∷ back) → IsSome more × (length name ≤ length front))
    → IsReport reports name place → (Contains places place → ⊥)
    → MatchOption more (NamesPlaces reports text (places ++ place ∷ [])) (λ after. AreNamed reports text (now after) (places ++ place ∷ []))
one_named now None reports text rest name places place so_far parts first is not =
    let new = new_name reports so_far.names places so_far.stand name place is not in
    let no_plus : Without 43 name = without_from name (λ has. absurd (false≢true (at_end has))) in
    record {
      names = so_far.names ++ name ∷ [];
      cut =
          record {
            some_name = some_push so_far.names name;
            text_is = so_far.so_far ∙ ap (λ l. flat_map (λ n. n ++ (43 ∷ [])) so_far.names ++ l) (sym parts) ∙ sym (joined_push so_far.names name);
            no_plus = each_push (Without 43) so_far.names name so_far.no_plus no_plus;
          };
      once = different_push so_far.names name so_far.once new;
      stand = stand_push reports so_far.names places name place so_far.stand is;
    }
  where
    some_push : (names : List (List ℕ)) (last : List ℕ) → 0 < length (names ++ last ∷ [])
    some_push [] last = omega arith
    some_push (n ∷ names) last = omega arith

    split_at_plus : (bytes : List ℕ) → Contains bytes 43 → (front : List ℕ) × (back : List ℕ) × (bytes ≡ front ++ (43 ∷ back))
    split_at_plus [] has = absurd (none_of 43 has)
    split_at_plus (byte ∷ bytes) has = elim (one_of byte 43 bytes has) [
      | inl same ↦ ([], bytes, ap (λ b. b ∷ bytes) same)
      | inr there ↦ let more = split_at_plus bytes there in (byte ∷ more.0, more.1, ap (λ l. byte ∷ l) more.2)
    ]

    at_end : Contains name 43 → false ≡ true
    at_end has = let split = split_at_plus name has in (first split.0 split.1 (sym parts ∙ split.2)).0
one_named now (Some after) reports text rest name places place so_far parts first is not =
    let new = new_name reports so_far.names places so_far.stand name place is not in
    record {
      names = so_far.names ++ name ∷ [];
      so_far = so_far.so_far ∙ ap (λ l. flat_map (λ n. n ++ (43 ∷ [])) so_far.names ++ l) parts ∙ sym (flat_push so_far.names name (now after));
      no_plus = each_push (Without 43) so_far.names name so_far.no_plus (front_without name (now after) rest parts (λ front back whole. (first front back whole).1));
      once = different_push so_far.names name so_far.once new;
      stand = stand_push reports so_far.names places name place so_far.stand is;
      left =
          λ all cut.
          let left = so_far.left all cut in
          let next = next_piece now (Some after) rest name left.0 left.1 parts first in
          (next.0, next.1, left.2 ∙ ap (λ l. so_far.names ++ l) next.2 ∙ sym (append_assoc so_far.names (name ∷ []) next.0));
    }

-- ---- what is chosen

pub all_from_order : (reports : List (List ℕ)) (k : ℕ) (xs : List ℕ) → k ≡ length reports → AreInOrder k (λ place. Unit {0}) xs → AreAll reports xs
all_from_order reports k xs all order =
    record {
      rise = order.rise;
      chosen_are = λ place. (λ has. let is = (order.chosen_are place).0 has in omega (arith, is.0, all), λ less. (order.chosen_are place).1 (omega (arith, less, all), tt));
    }

pub names_from : (reports : List (List ℕ)) (text places chosen : List ℕ) → NamesPlaces reports text places → AreInOrder (length reports) (Contains places) chosen → AreNames reports text chosen
names_from reports text places chosen named order =
    record {
      names = named.names;
      some_name = named.cut.some_name;
      text_is = named.cut.text_is;
      no_plus = weaken (Without 43) (λ name. Contains name 43 → ⊥) named.names without_to named.cut.no_plus;
      once = named.once;
      rise = order.rise;
      each = λ name has. let there = place_there reports named.names places named.stand name has in (there.0, there.1);
      chosen_are =
          λ place. (
            λ has. let is = (order.chosen_are place).0 has in let there = name_there reports named.names places named.stand place is.1 in (there.0, there.2, there.1),
            λ is.
                let there = place_there reports named.names places named.stand is.0 is.1 in
                let same : there.0 ≡ place = one_report reports is.0 there.0 place there.1 is.2 in
                (order.chosen_are place).1 (slice_get_within reports place is.0 is.2.here, subst (Contains places) same there.2),
          );
    }

pub cut_of : (reports : List (List ℕ)) (text chosen : List ℕ) (named : AreNames reports text chosen) → AreCut text named.names
cut_of reports text chosen named =
    record { some_name = named.some_name; text_is = named.text_is; no_plus = weaken (λ name. Contains name 43 → ⊥) (Without 43) named.names without_from named.no_plus }

pub not_named : (reports : List (List ℕ)) (text : List ℕ) → NamesNoPlaces reports text → (chosen : List ℕ) → AreNames reports text chosen → ⊥
not_named reports text none chosen named =
    none named.names (cut_of reports text chosen named) named.once (each_from (λ name. (place : ℕ) × IsReport reports name place) named.names named.each)

names_within : (reports : List (List ℕ)) (text a b : List ℕ) → AreNames reports text a → AreNames reports text b → (p : ℕ) → Contains a p → Contains b p
names_within reports text a b x y p has =
    let is = (x.chosen_are p).0 has in
    let same : x.names ≡ y.names = one_cut_text text x.names y.names (cut_of reports text a x) (cut_of reports text b y) in
    (y.chosen_are p).1 (is.0, subst (λ names. Contains names is.0) same is.1, is.2)

-- one list is chosen at most
pub one_chosen : (reports : List (List ℕ)) (said : Option (List ℕ)) (a b : List ℕ) → AreChosen reports said a → AreChosen reports said b → a ≡ b
one_chosen reports None a b x y =
    same_rising a b x.rise y.rise (λ p has. (y.chosen_are p).1 ((x.chosen_are p).0 has)) (λ p has. (x.chosen_are p).1 ((y.chosen_are p).0 has))
one_chosen reports (Some text) a b x y =
    same_rising a b x.rise y.rise (names_within reports text a b x y) (names_within reports text b a y x)

-- the part before the first sign is the first name
pub piece_first : {R : Type 0} (now : R → List ℕ) (more : Option R) (name : List ℕ) (others : List (List ℕ))
    → MatchOption more (others ≡ name ∷ []) (λ after. (later : List (List ℕ)) × AreCut (now after) later × (others ≡ name ∷ later)) → (later : List (List ℕ)) × (others ≡ name ∷ later)
piece_first now None name others next = ([], next)
piece_first now (Some after) name others next = (next.0, next.2)

pub first_there : {R : Type 0} (now : R → List ℕ) (more : Option R) (reports : List (List ℕ)) (text rest name : List ℕ) (places : List ℕ) (so_far : AreNamed reports text rest places)
    → MatchOption more (name ≡ rest) (λ after. rest ≡ name ++ (43 ∷ now after))
    → ((front back : List ℕ) → rest ≡ front ++ (43 ∷ back) → IsSome more × (length name ≤ length front))
    → (names : List (List ℕ)) → AreCut text names → (later : List (List ℕ)) × (names ≡ so_far.names ++ (name ∷ later))
first_there now more reports text rest name places so_far parts first names cut =
    let left = so_far.left names cut in
    let next = piece_first now more name left.0 (next_piece now more rest name left.0 left.1 parts first) in
    (next.0, left.2 ∙ ap (λ l. so_far.names ++ l) next.1)

pub no_place : (reports : List (List ℕ)) (before : List (List ℕ)) (name : List ℕ) (later names : List (List ℕ)) → names ≡ before ++ (name ∷ later)
    → ((place : ℕ) → IsReport reports name place → ⊥) → AllByRecursion (λ n. (place : ℕ) × IsReport reports n place) names → ⊥
no_place reports before name later names is none each =
    let has : Contains names name = subst (λ l. Contains l name) (sym is) (Contains-append_right before (name ∷ later) name (first_of name later)) in
    let place = each_of (λ n. (place : ℕ) × IsReport reports n place) names name each has in
    none place.0 place.1

pub named_twice : (reports : List (List ℕ)) (before : List (List ℕ)) (places : List ℕ) → Stand reports before places → (name : List ℕ) (place : ℕ) → IsReport reports name place → Contains places place
    → (later names : List (List ℕ)) → names ≡ before ++ (name ∷ later) → AreDifferent names → ⊥
named_twice reports before places stand name place report has later names is differ =
    let there = name_there reports before places stand place has in
    let same : there.0 ≡ name = one_name reports there.0 name place there.1 report in
    twice_there before name later (subst AreDifferent is differ) (subst (Contains before) same there.2)

-- ---- chosen places

rise_within : (low high : ℕ) (places : List ℕ) → Rise places → ((place : ℕ) → Contains places place → low ≤ place) → ((place : ℕ) → Contains places place → place < high) → RisesWithin low high places
rise_within low high [] rise above below = tt
rise_within low high (place ∷ places) rise above below = (
  above place (first_of place places),
  below place (first_of place places),
  rise_within (place + 1) high places rise.1
      (λ other here. let more : place < other = each_of (λ its. place < its) places other rise.0 here in omega (arith, more))
      (λ other here. below other (later_of place other places here)),
)

-- the chosen places rise below the number of reports
pub chosen_rise : (reports : List (List ℕ)) (text : Option (List ℕ)) (chosen : List ℕ) → AreChosen reports text chosen → RisesWithin 0 (length reports) chosen
chosen_rise reports None chosen are = rise_within 0 (length reports) chosen are.rise (λ place here. omega arith) (λ place here. (are.chosen_are place).0 here)
chosen_rise reports (Some text) chosen are =
    rise_within 0 (length reports) chosen are.rise (λ place here. omega arith)
    (λ place here. let named = (are.chosen_are place).0 here in slice_get_within reports place named.0 named.2.here)
