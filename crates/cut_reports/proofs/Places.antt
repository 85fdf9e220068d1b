-- Chosen places, and lists that changed at some of them.
use Rattle.std.proofs.Common.{◌≡◌, ℕ, zero, suc, ◌+◌, ◌<◌, ◌≤◌, List, [], ◌∷◌, length, take, get_or, Option, Some, None, Bool, true, false, refl, sym, ap, subst, ◌∙◌, arith, ⊎_elim}
use Rattle.std.specs.Prelude.{slice_get, ◌==◌, ◌||◌}
use Rattle.std.proofs.lemmas.Bool.{or_cases, eqb-true, eq-eqb, false≢true}
use Rattle.std.proofs.lemmas.List.{take_more}
use Rattle.std.proofs.lemmas.List.Folds.{list_any-append}
use Rattle.std.proofs.Math.Bool.{or-true}
use Rattle.plain_values.specs.Rising.{RisesWithin}
use Rattle.cut_reports.specs.Places.{AtChosen, AtEach, Both, SoOrSame, is_among}

-- ---- rising numbers

pub rises_at : (low high : ℕ) (ns : List ℕ) (k d : ℕ) → RisesWithin low high ns → k < length ns → (low ≤ get_or ns k d) × (get_or ns k d < high)
rises_at low high [] k d r h = absurd (omega arith)
rises_at low high (n ∷ ns) zero d r h = (r.0, r.1)
rises_at low high (n ∷ ns) (suc k) d r h = let t = rises_at (n + 1) high ns k d r.2 (omega arith) in (omega (arith, r.0, t.0), t.1)

pub before_less : (low high : ℕ) (ns : List ℕ) (k d i : ℕ) → RisesWithin low high ns → k < length ns → is_among (take k ns) i ≡ true → i < get_or ns k d
before_less low high [] k d i r h e = absurd (omega arith)
before_less low high (n ∷ ns) zero d i r h e = absurd (false≢true e)
before_less low high (n ∷ ns) (suc k) d i r h e =
    ⊎_elim (λ f. omega (arith, eqb-true i n f, (rises_at (n + 1) high ns k d r.2 (omega arith)).0))
    (λ f. before_less (n + 1) high ns k d i r.2 (omega arith) f) (or_cases (i == n) (is_among (take k ns) i) e)

pub among_at : (ns : List ℕ) (k d : ℕ) → k < length ns → is_among ns (get_or ns k d) ≡ true
among_at [] k d h = absurd (omega arith)
among_at (n ∷ ns) zero d h = ap (λ b. b || is_among ns n) (eq-eqb n n refl)
among_at (n ∷ ns) (suc k) d h = ap (λ b. (get_or ns k d == n) || b) (among_at ns k d (omega arith)) ∙ or-true (get_or ns k d == n)

pub among_front : (ns : List ℕ) (k i : ℕ) → is_among (take k ns) i ≡ true → is_among ns i ≡ true
among_front [] zero i e = e
among_front [] (suc k) i e = e
among_front (n ∷ ns) zero i e = absurd (false≢true e)
among_front (n ∷ ns) (suc k) i e =
    ⊎_elim (λ f. ap (λ b. b || is_among ns i) f) (λ f. ap (λ b. (i == n) || b) (among_front ns k i f) ∙ or-true (i == n)) (or_cases (i == n) (is_among (take k ns) i) e)

pub or-last : (a b : Bool) → (a || (b || false)) ≡ (a || b)
or-last true b = refl
or-last false true = refl
or-last false false = refl

pub among_more : (ns : List ℕ) (k d i : ℕ) → k < length ns → is_among (take (k + 1) ns) i ≡ (is_among (take k ns) i || (i == get_or ns k d))
among_more ns k d i h =
    ap (λ w. is_among w i) (take_more ns k d h) ∙ list_any-append (λ n. i == n) (take k ns) (get_or ns k d ∷ []) ∙ or-last (is_among (take k ns) i) (i == get_or ns k d)

-- ---- two calls at one place

pub joined : {R : Type 0} (P : R → R → Type 0) (a b : Bool) (x y z : Option R) → (a ≡ true → b ≡ true → ⊥) → Both (SoOrSame a P) x y → Both (SoOrSame b P) y z → Both (SoOrSame (a || b) P) x z
joined P a b None None None apart h k = tt
joined P a b None None (Some z) apart h k = k
joined P a b None (Some y) z apart h k = absurd h
joined P a b (Some x) None z apart h k = absurd h
joined P a b (Some x) (Some y) None apart h k = k
joined P true true (Some x) (Some y) (Some z) apart h k = absurd (apart refl refl)
joined P true false (Some x) (Some y) (Some z) apart h k = subst (λ w. P x w) (sym k) h
joined P false true (Some x) (Some y) (Some z) apart h k = subst (λ w. P w z) h k
joined P false false (Some x) (Some y) (Some z) apart h k = k ∙ h

pub weaker : {R : Type 0} (P : R → R → Type 0) (a c : Bool) (x z : Option R) → ((r : R) → P r r) → (a ≡ true → c ≡ true) → Both (SoOrSame a P) x z → Both (SoOrSame c P) x z
weaker P a c None None same more h = tt
weaker P a c None (Some z) same more h = h
weaker P a c (Some x) None same more h = h
weaker P true true (Some x) (Some z) same more h = h
weaker P true false (Some x) (Some z) same more h = absurd (false≢true (more refl))
weaker P false true (Some x) (Some z) same more h = subst (λ w. P x w) (sym h) (same x)
weaker P false false (Some x) (Some z) same more h = h

pub unmoved : {R : Type 0} (P : R → R → Type 0) (a : Bool) (x y : Option R) → (a ≡ true → ⊥) → Both (SoOrSame a P) x y → y ≡ x
unmoved P a None None apart h = refl
unmoved P a None (Some y) apart h = absurd h
unmoved P a (Some x) None apart h = absurd h
unmoved P true (Some x) (Some y) apart h = absurd (apart refl)
unmoved P false (Some x) (Some y) apart h = ap Some h

-- the same calls after one another
pub chained : {R : Type 0} (P Q S : R → R → Type 0) (a : Bool) (x y z : Option R) → ((u v w : R) → P u v → Q v w → S u w) → Both (SoOrSame a P) x y → Both (SoOrSame a Q) y z → Both (SoOrSame a S) x z
chained P Q S a None None None both h k = tt
chained P Q S a None None (Some z) both h k = k
chained P Q S a None (Some y) z both h k = absurd h
chained P Q S a (Some x) None z both h k = absurd h
chained P Q S a (Some x) (Some y) None both h k = k
chained P Q S true (Some x) (Some y) (Some z) both h k = both x y z h k
chained P Q S false (Some x) (Some y) (Some z) both h k = k ∙ h

-- ---- lists of reports

pub none_yet : {R : Type 0} (P : R → R → Type 0) (xs : List R) → AtChosen [] P xs xs
none_yet {R = R} P xs i = same (slice_get xs i) where
  same : (x : Option R) → Both (SoOrSame false P) x x
  same None = tt
  same (Some x) = refl

-- one more of the chosen
pub one_more : {R : Type 0} (P : R → R → Type 0) (high : ℕ) (chosen : List ℕ) (k d : ℕ) (before mid after : List R)
    → RisesWithin 0 high chosen → k < length chosen → AtChosen (take k chosen) P before mid → AtEach (λ i. SoOrSame (i == get_or chosen k d) P) mid after
    → AtChosen (take (k + 1) chosen) P before after
one_more P high chosen k d before mid after r h so step i =
    subst (λ b. Both (SoOrSame b P) (slice_get before i) (slice_get after i)) (sym (among_more chosen k d i h))
    (joined P (is_among (take k chosen) i) (i == get_or chosen k d) (slice_get before i) (slice_get mid i) (slice_get after i)
    (λ a b. let less : i < get_or chosen k d = before_less 0 high chosen k d i r h a in let is : i ≡ get_or chosen k d = eqb-true i (get_or chosen k d) b in omega arith) (so i) (step i))

-- the call failed at one more of the chosen
pub some_of_them : {R : Type 0} (P : R → R → Type 0) (high : ℕ) (chosen : List ℕ) (k d : ℕ) (before mid after : List R) → ((r : R) → P r r)
    → RisesWithin 0 high chosen → k < length chosen → AtChosen (take k chosen) P before mid → AtEach (λ i. SoOrSame (i == get_or chosen k d) P) mid after
    → AtChosen chosen P before after
some_of_them P high chosen k d before mid after same r h so step i =
    weaker P (is_among (take (k + 1) chosen) i) (is_among chosen i) (slice_get before i) (slice_get after i) same (among_front chosen (k + 1) i)
    (one_more P high chosen k d before mid after r h so step i)

-- the next of the chosen is as before
pub next_unmoved : {R : Type 0} (P : R → R → Type 0) (high : ℕ) (chosen : List ℕ) (k d : ℕ) (before mid : List R)
    → RisesWithin 0 high chosen → k < length chosen → AtChosen (take k chosen) P before mid → slice_get mid (get_or chosen k d) ≡ slice_get before (get_or chosen k d)
next_unmoved P high chosen k d before mid r h so =
    unmoved P (is_among (take k chosen) (get_or chosen k d)) (slice_get before (get_or chosen k d)) (slice_get mid (get_or chosen k d))
    (λ a. let less : get_or chosen k d < get_or chosen k d = before_less 0 high chosen k d (get_or chosen k d) r h a in omega arith) (so (get_or chosen k d))

-- nothing was changed
pub all_same : {R : Type 0} (P : R → R → Type 0) (chosen : List ℕ) (xs : List R) → ((r : R) → P r r) → AtChosen chosen P xs xs
all_same {R = R} P chosen xs same i = weaker P false (is_among chosen i) (slice_get xs i) (slice_get xs i) same (λ e. absurd (false≢true e)) (none_yet P xs i)
