-- Marks of numbers.
use Rattle.std.proofs.Common.{ℕ, ◌+◌, ◌≡◌, ◌≢◌, ◌<◌, ◌≤◌, Bool, true, false, ◌||◌, nat_eq, List, [], ◌∷◌, ◌++◌, length, flat_map, filter, take, get_or, set, replicate, refl, sym, ap, ◌∙◌, subst, ◌⊎◌, inl, inr, arith}
use Rattle.std.proofs.lemmas.Bool.Decides.{eqb_tells}
use Rattle.std.proofs.lemmas.List.{append-nil, get_or-replicate, get_or-set_other, length-replicate, length-set, take_all, take_more}
use Rattle.std.proofs.lemmas.List.Folds.{list_any-append}
use Rattle.std.proofs.lemmas.Grind.{flat_map-append, get_or-set_at}
use Rattle.error_libraries.specs.Search.{is_number_in}
use Rattle.plain_values.specs.Numbered.{numbers_below}
use Rattle.error_types.proofs.RowLaws.{filter-below}
use Rattle.model_facts.specs.inner.Steps.{Marks}

or-none : (b : Bool) → (b || false) ≡ b
or-none true = refl
or-none false = refl

or-true : (b : Bool) → (b || true) ≡ true
or-true true = refl
or-true false = refl

or-assoc : (a b c : Bool) → ((a || b) || c) ≡ (a || (b || c))
or-assoc true b c = refl
or-assoc false b c = refl

pub marks-none : (old : List Bool) → Marks old [] old
marks-none old = record { long = refl; each = λ number less. sym (or-none (get_or old number false)) }

pub marks-then : (old mid new : List Bool) (xs ys : List ℕ) → Marks old xs mid → Marks mid ys new → Marks old (xs ++ ys) new
marks-then old mid new xs ys first second = record {
  long = second.long ∙ first.long;
  each = λ number less.
      let less_mid : number < length mid = omega (arith, less, first.long) in
      second.each number less_mid ∙ ap (λ b. b || is_number_in ys number) (first.each number less)
      ∙ or-assoc (get_or old number false) (is_number_in xs number) (is_number_in ys number)
      ∙ ap (λ b. get_or old number false || b) (sym (list_any-append (λ other. nat_eq other number) xs ys));
}

-- the marks of one part more
pub marks-more : {Part : Type 0} (give : Part → List ℕ) (parts : List Part) (i : ℕ) (part : Part) (old mid new : List Bool) → i < length parts → part ≡ get_or parts i part
    → Marks old (flat_map give (take i parts)) mid → Marks mid (give part) new → Marks old (flat_map give (take (i + 1) parts)) new
marks-more give parts i part old mid new within is so_far one =
    let front = take_more parts i part within ∙ ap (λ x. take i parts ++ x ∷ []) (sym is) in
    let step = ap (flat_map give) front ∙ flat_map-append give (take i parts) (part ∷ []) ∙ ap (λ rest. flat_map give (take i parts) ++ rest) (append-nil (give part)) in
    subst (λ numbers. Marks old numbers new) (sym step) (marks-then old mid new (flat_map give (take i parts)) (give part) so_far one)

pub marks-all : {Part : Type 0} (give : Part → List ℕ) (parts : List Part) (i : ℕ) (old new : List Bool) → length parts ≤ i → Marks old (flat_map give (take i parts)) new → Marks old (flat_map give parts) new
marks-all give parts i old new past so_far = subst (λ met. Marks old (flat_map give met) new) (take_all i parts past) so_far

-- the marks of one number more
pub marks-number : (numbers : List ℕ) (i number : ℕ) (old mid new : List Bool) → i < length numbers → number ≡ get_or numbers i number → Marks old (take i numbers) mid → Marks mid (number ∷ []) new → Marks old (take (i + 1) numbers) new
marks-number numbers i number old mid new within is so_far one =
    let front = take_more numbers i number within ∙ ap (λ x. take i numbers ++ x ∷ []) (sym is) in
    subst (λ met. Marks old met new) (sym front) (marks-then old mid new (take i numbers) (number ∷ []) so_far one)

-- a mark that is set
pub marks-set : (old : List Bool) (number : ℕ) → number < length old → Marks old (number ∷ []) (set old number true)
marks-set old number within = record { long = length-set old number true; each = λ other less. by other (eqb_tells number other) }
  where
    by : (other : ℕ) → ((nat_eq number other ≡ true) × (number ≡ other)) ⊎ ((nat_eq number other ≡ false) × (number ≢ other))
        → get_or (set old number true) other false ≡ (get_or old other false || (nat_eq number other || false))
    by other (inl (is, same)) = get_or-set_at old number other true false (sym same) within ∙ sym (ap (λ b. get_or old other false || (b || false)) is ∙ or-true (get_or old other false))
    by other (inr (is, apart)) = get_or-set_other old number other true false (λ e. apart (sym e)) ∙ sym (ap (λ b. get_or old other false || (b || false)) is ∙ or-none (get_or old other false))

-- a number that has no mark
pub marks-past : (old : List Bool) (number : ℕ) → length old ≤ number → Marks old (number ∷ []) old
marks-past old number past = record { long = refl; each = λ other less. by other less (eqb_tells number other) }
  where
    by : (other : ℕ) → other < length old → ((nat_eq number other ≡ true) × (number ≡ other)) ⊎ ((nat_eq number other ≡ false) × (number ≢ other))
        → get_or old other false ≡ (get_or old other false || (nat_eq number other || false))
    by other less (inl (is, same)) = absurd (omega (arith, same, less, past))
    by other less (inr (is, apart)) = sym (ap (λ b. get_or old other false || (b || false)) is ∙ or-none (get_or old other false))

-- the numbers that are marked, where none was before
pub marked-are : (count : ℕ) (numbers : List ℕ) (marks : List Bool) → Marks (replicate count false) numbers marks → filter (λ number. get_or marks number false) (numbers_below (length marks)) ≡ filter (is_number_in numbers) (numbers_below count)
marked-are count numbers marks are =
    let long : length marks ≡ count = are.long ∙ length-replicate count false in
    ap (λ n. filter (λ number. get_or marks number false) (numbers_below n)) long
    ∙ filter-below (λ number. get_or marks number false) (is_number_in numbers) count
    (λ number less.
    let within : number < length (replicate count false) = omega (arith, less, length-replicate count false) in
    are.each number within ∙ ap (λ b. b || is_number_in numbers number) (get_or-replicate count number false false less))
