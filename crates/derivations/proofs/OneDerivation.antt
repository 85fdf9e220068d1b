-- A target has one derivation by rounds at most, and a text one reading.
use Rattle.std.proofs.Common.{ℕ, zero, suc, ◌+◌, ◌≡◌, ◌<◌, ◌≤◌, ◌^◌, ◌==◌, Bool, true, false, List, [], ◌∷◌, ◌++◌, length, length-append, append_assoc, map, slice_get, slice_index_or, Option, Some, None, AllPairs, ap, ◌∙◌, sym, refl, subst, arith, ⊎_elim, eq-eqb, eqb-true}
use Rattle.std.proofs.lemmas.Bool.{false≢true, or_cases, or_left, or_right, cases_order}
use Rattle.std.proofs.lemmas.List.{length-map}
use Rattle.fault_system.specs.Truth.{NumberSet, Has, set_of}
use Rattle.fault_system.specs.Systems.{System, NamesDiffer}
use Rattle.fault_system.specs.Rounds.{AreRounds, IsRoundOf, time_of}
use Rattle.fault_system.proofs.HoldsLaws.{round-least}
use Rattle.derivations.specs.declared.derivation.Firing.{Firing}
use Rattle.derivations.specs.Derived.{IsByRounds, IsDerivation, comes_before, is_used_by, numbers_in, uses_event, uses_fact}
use Rattle.derivations.specs.Text.{IsBadAt, IsTextOf, line_of, lines_of}
use Rattle.derivations.specs.inner.Text.{AreLineNames}
use Rattle.derivations.proofs.NumbersIn.{found-at}
use Rattle.derivations.proofs.Keys.{comes-parts}
use Rattle.derivations.proofs.Unique.{Follows, follows, never-bad, only-steps}

-- a fact has one round
one-round : (system : System) (events : NumberSet) (n t u : ℕ) → IsRoundOf system events n t → IsRoundOf system events n u → t ≡ u
one-round system events n zero zero a b = refl
one-round system events n zero (suc u) a b = absurd (a (λ xs closed. round-least system events xs closed (suc u) n b.there))
one-round system events n (suc t) zero a b = absurd (b (λ xs closed. round-least system events xs closed (suc t) n a.there))
one-round system events n (suc t) (suc u) a b =
    ⊎_elim (λ same. same)
    (λ differ. ⊎_elim
    (λ l. absurd (false≢true (sym (b.first (suc t) l) ∙ a.there)))
    (λ g. absurd (false≢true (sym (a.first (suc u) g) ∙ b.there)))
    differ)
    (cases_order (suc t) (suc u))

same-numbers : (xs ys : List ℕ) → length xs ≡ length ys → ((n : ℕ) → time_of xs n ≡ time_of ys n) → xs ≡ ys
same-numbers [] [] len each = refl
same-numbers [] (y ∷ ys) len each = absurd (omega arith)
same-numbers (x ∷ xs) [] len each = absurd (omega arith)
same-numbers (x ∷ xs) (y ∷ ys) len each =
    let head : x ≡ y = each 0 in
    let tail : xs ≡ ys = same-numbers xs ys (omega arith) (λ n. each (suc n)) in
    λ i. head i ∷ tail i

one-rounds : (system : System) (events : NumberSet) (a b : List ℕ) → AreRounds system events a → AreRounds system events b → a ≡ b
one-rounds system events a b x y = same-numbers a b (x.count ∙ sym y.count) (λ n. one-round system events n (time_of a n) (time_of b n) (x.each n) (y.each n))

-- lists that stand in the order of the steps and have the same members are the same
module _ (rounds : List ℕ) where
  abbrev Stand : List ℕ → Type 0
  Stand xs = AllPairs (λ f g. comes_before rounds f g ≡ true) xs

  never-both : (f g : ℕ) → comes_before rounds f g ≡ true → comes_before rounds g f ≡ true → ⊥
  never-both f g e h =
      ⊎_elim
      (λ l. ⊎_elim (λ m. omega arith) (λ k. omega (arith, k.0)) (comes-parts rounds g f h))
      (λ both. ⊎_elim (λ m. omega (arith, both.0)) (λ k. omega (arith, both.1, k.1)) (comes-parts rounds g f h))
      (comes-parts rounds f g e)

  first-before : (x : ℕ) (xs : List ℕ) (n : ℕ) → Stand (x ∷ xs) → Has (set_of xs) n → comes_before rounds x n ≡ true
  first-before x xs n stand h =
      let found = found-at xs n h in
      subst (λ m. comes_before rounds x m ≡ true) found.2 (stand 0 (suc found.0) 0 (omega arith) (omega (arith, found.1)))

  rest-stand : (x : ℕ) (xs : List ℕ) → Stand (x ∷ xs) → Stand xs
  rest-stand x xs stand = λ i j d less fits. stand (suc i) (suc j) d (omega arith) (omega arith)

  rest-in : (x y : ℕ) (xs ys : List ℕ) → x ≡ y → Stand (x ∷ xs) → ((n : ℕ) → Has (set_of (x ∷ xs)) n → Has (set_of (y ∷ ys)) n) → (n : ℕ) → Has (set_of xs) n → Has (set_of ys) n
  rest-in x y xs ys e stand into n h =
      ⊎_elim
      (λ same.
      let before : comes_before rounds x n ≡ true = first-before x xs n stand h in
      let itself : comes_before rounds x x ≡ true = subst (λ m. comes_before rounds x m ≡ true) (sym (e ∙ eqb-true y n same)) before in
      absurd (never-both x x itself itself))
      (λ later. later)
      (or_cases (y == n) (set_of ys n) (into n (or_right (x == n) (set_of xs n) h)))

  one-standing : (xs ys : List ℕ) → Stand xs → Stand ys → ((n : ℕ) → Has (set_of xs) n → Has (set_of ys) n) → ((n : ℕ) → Has (set_of ys) n → Has (set_of xs) n) → xs ≡ ys
  one-standing [] [] o q f g = refl
  one-standing [] (y ∷ ys) o q f g = absurd (false≢true (g y (or_left (y == y) (set_of ys y) (eq-eqb y y refl))))
  one-standing (x ∷ xs) [] o q f g = absurd (false≢true (f x (or_left (x == x) (set_of xs x) (eq-eqb x x refl))))
  one-standing (x ∷ xs) (y ∷ ys) o q f g =
      let head : x ≡ y = ⊎_elim
      (λ same. sym (eqb-true y x same))
      (λ there. ⊎_elim
      (λ same. eqb-true x y same)
      (λ here. absurd (never-both x y (first-before x xs y o here) (first-before y ys x q there)))
      (or_cases (x == y) (set_of xs y) (g y (or_left (y == y) (set_of ys y) (eq-eqb y y refl)))))
      (or_cases (y == x) (set_of ys x) (f x (or_left (x == x) (set_of xs x) (eq-eqb x x refl)))) in
      let tail : xs ≡ ys = one-standing xs ys (rest-stand x xs o) (rest-stand y ys q) (rest-in x y xs ys head o f) (rest-in y x ys xs (sym head) q g) in
      λ i. head i ∷ tail i

-- the steps are made of their facts
module _ (system : System) (events : NumberSet) (rounds : List ℕ) where
  abbrev facts_in : List Firing → List ℕ
  facts_in steps = map (λ (step : Firing). step.fact) steps

  abbrev uses_other : ℕ → Option ℕ → Bool
  uses_other fact None = false
  uses_other fact (Some other) = uses_fact system rounds fact other

  used-of : (fact : ℕ) (steps : List Firing) (n : ℕ) → is_used_by system rounds fact (slice_get steps n) ≡ uses_other fact (slice_get (facts_in steps) n)
  used-of fact [] n = refl
  used-of fact (step ∷ steps) zero = refl
  used-of fact (step ∷ steps) (suc n) = used-of fact steps n

  abbrev step_made : List ℕ → ℕ → Firing
  step_made facts fact = record {
    fact = fact;
    events = numbers_in (length system.events) (uses_event system events fact);
    uses = numbers_in (length facts) (λ number. uses_other fact (slice_get facts number));
  }

  each-again : (make : ℕ → Firing) (steps : List Firing) → ((n : ℕ) (d : Firing) → n < length steps → slice_index_or steps n d ≡ make (slice_index_or steps n d).fact) → steps ≡ map make (facts_in steps)
  each-again make [] each = refl
  each-again make (step ∷ steps) each =
      let head : step ≡ make step.fact = each 0 step (omega arith) in
      let tail : steps ≡ map make (facts_in steps) = each-again make steps (λ n d fits. each (suc n) d (omega arith)) in
      λ i. head i ∷ tail i

  step-again : (steps : List Firing) (step : Firing) → step.events ≡ numbers_in (length system.events) (uses_event system events step.fact) → step.uses ≡ numbers_in (length steps) (λ number. is_used_by system rounds step.fact (slice_get steps number)) → step ≡ step_made (facts_in steps) step.fact
  step-again steps step its_events its_uses =
      let uses : step.uses ≡ numbers_in (length (facts_in steps)) (λ number. uses_other step.fact (slice_get (facts_in steps) number)) =
      its_uses ∙ ap (λ set. numbers_in (length steps) set) (λ i number. used-of step.fact steps number i)
      ∙ ap (λ size. numbers_in size (λ number. uses_other step.fact (slice_get (facts_in steps) number))) (sym (length-map steps (λ (its : Firing). its.fact))) in
      λ i. record { fact = step.fact; events = its_events i; uses = uses i }

  steps-again : (target : ℕ) (steps : List Firing) → IsDerivation system events rounds target steps → steps ≡ map (step_made (facts_in steps)) (facts_in steps)
  steps-again target steps is = each-again (step_made (facts_in steps)) steps (λ n d fits. step-again steps (slice_index_or steps n d) (is.events_are n d fits) (is.uses_are n d fits))

  one-of-rounds : (target : ℕ) (a b : List Firing) → IsDerivation system events rounds target a → IsDerivation system events rounds target b → a ≡ b
  one-of-rounds target a b x y =
      let facts : facts_in a ≡ facts_in b = one-standing rounds (facts_in a) (facts_in b) x.ordered y.ordered (λ n h. (y.facts n).1 ((x.facts n).0 h)) (λ n h. (x.facts n).1 ((y.facts n).0 h)) in
      steps-again target a x ∙ ap (λ facts. map (step_made facts) facts) facts ∙ sym (steps-again target b y)

pub one-derivation : (system : System) (target : ℕ) (events : NumberSet) (a b : List Firing) → IsByRounds system events target a → IsByRounds system events target b → a ≡ b
one-derivation system target events a b x y =
    let same : y.rounds ≡ x.rounds = one-rounds system events y.rounds x.rounds y.are_rounds x.are_rounds in
    one-of-rounds system events x.rounds target a b x.derivation (subst (λ rounds. IsDerivation system events rounds target b) same y.derivation)

-- of two texts that go on alike, the longer one goes on from the shorter
split-text : (u v r s : List ℕ) → u ++ r ≡ v ++ s → length u ≤ length v → (t : List ℕ) × (v ≡ u ++ t) × (r ≡ t ++ s)
split-text [] v r s e l = (v, refl, e)
split-text (x ∷ u) [] r s e l = absurd (omega arith)
split-text (x ∷ u) (y ∷ v) r s e l =
    let head : x ≡ y = cc (e) in
    let rest : u ++ r ≡ v ++ s = cc (e) in
    let more = split-text u v r s rest (omega arith) in
    let tail : v ≡ u ++ more.0 = more.1 in
    (more.0, λ i. sym head i ∷ tail i, more.2)

-- each line has a byte
pub long-text : (facts names : List (List ℕ)) (number : ℕ) (steps : List Firing) → length steps ≤ length (lines_of facts names number steps)
long-text facts names number [] = omega arith
long-text facts names number (step ∷ steps) =
    let line = line_of facts names number step in
    let more = lines_of facts names (number + 1) steps in
    let long : length (line ++ (10 ∷ more)) ≡ length line + length (10 ∷ more) = length-append line (10 ∷ more) in
    let rest : length steps ≤ length more = long-text facts names (number + 1) steps in
    omega (arith, long, rest)

module _ (facts names : List (List ℕ)) (events : NumberSet) (facts_differ : NamesDiffer facts) (differ : NamesDiffer names) (fact_names : AreLineNames facts) (line_names : AreLineNames names) (bytes : List ℕ) (few : length bytes < 2 ^ 32) where
  few-steps : (steps : List Firing) → IsTextOf facts names events bytes steps → length steps < 2 ^ 32
  few-steps steps is = omega (arith, long-text facts names 0 steps, ap length is.text)

  pub one-reading : (a b : List Firing) → IsTextOf facts names events bytes a → IsTextOf facts names events bytes b → a ≡ b
  one-reading a b x y = only-steps facts names events facts_differ differ fact_names line_names bytes a b (few-steps b y) x y

  pub read-or-bad : (steps : List Firing) (at : ℕ) → IsTextOf facts names events bytes steps → IsBadAt facts names events bytes at → ⊥
  read-or-bad steps at is bad = never-bad facts names events facts_differ differ fact_names line_names bytes at steps (few-steps steps is) is bad

  no-later : (m n : ℕ) → IsBadAt facts names events bytes m → IsBadAt facts names events bytes n → m < n → ⊥
  no-later m n x y less =
      let first = lines_of facts names 0 x.steps in
      let later = lines_of facts names 0 y.steps in
      let long : length bytes ≡ length later + length y.rest = ap length y.text ∙ length-append later y.rest in
      let fits : length y.steps < 2 ^ 32 = omega (arith, long, long-text facts names 0 y.steps) in
      let order : length first ≤ length later = omega (arith, x.place, y.place) in
      let split = split-text first later x.rest y.rest (sym x.text ∙ y.text) order in
      let between : length later ≡ length first + length split.0 = ap length split.1 ∙ length-append first split.0 in
      let some : 0 < length split.0 = omega (arith, between, x.place, y.place) in
      let zero_more : 0 + length x.steps ≡ length x.steps = omega arith in
      let next : Follows facts names events facts_differ differ fact_names line_names (length x.steps) split.0 = subst (λ k. Follows facts names events facts_differ differ fact_names line_names k split.0) zero_more
      (follows facts names events facts_differ differ fact_names line_names x.steps y.steps 0 split.0 (omega (arith, fits)) x.lines y.lines split.1 some) in
      x.bad next.step (next.more ++ y.rest) next.has
      (split.2 ∙ ap (λ text. text ++ y.rest) next.is ∙ append_assoc (line_of facts names (length x.steps) next.step) (10 ∷ next.more) y.rest)

  pub one-bad : (m n : ℕ) → IsBadAt facts names events bytes m → IsBadAt facts names events bytes n → m ≡ n
  one-bad m n x y =
      ⊎_elim (λ same. same)
      (λ differ. ⊎_elim (λ l. absurd (no-later m n x y l)) (λ g. absurd (no-later n m y x g)) differ)
      (cases_order m n)
