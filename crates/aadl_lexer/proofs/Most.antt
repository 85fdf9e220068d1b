-- The longest front of a text that is of a form.
use Rattle.std.proofs.Common.{◌≡◌, ℕ, zero, suc, ◌+◌, ◌<◌, ◌≤◌, Bool, true, false, cond, eqb, List, [], ◌∷◌, ◌++◌, length, take, drop, refl, sym, ap, subst, ◌∙◌, inl, inr, append_assoc, arith}
use Rattle.std.proofs.lemmas.Bool.{cases_Bool, cases_lt, cond-true, cond-false, false≢true, eqb-true, ne_eqb}
use Rattle.std.proofs.lemmas.List.{length-append, drop_at}
use Rattle.std.proofs.Math.Seq.{take-add}
use Rattle.aadl_syntax.specs.Form.{One, ◌followed_by◌, Perhaps}
use Rattle.aadl_lexer.specs.Scan.{after_one}
use Rattle.aadl_lexer.proofs.Runs.{one_byte}

-- where a number of bytes is not 0 they are of the form, and no front of the form is longer
pub record IsMost (Form : List ℕ → Type 0) (text : List ℕ) (len : ℕ) : Type 0 where
  pub within : len ≤ length text
  pub form : (len ≡ 0 → ⊥) → Form (take len text)
  pub most : (front back : List ℕ) → text ≡ front ++ back → Form front → length front ≤ len

-- no front is of the form
pub none_most : (Form : List ℕ → Type 0) (text : List ℕ) → ((front back : List ℕ) → text ≡ front ++ back → Form front → ⊥) → IsMost Form text 0
none_most Form text absent = record { within = omega arith; form = λ h. absurd (h refl); most = λ f b e h. absurd (absent f b e h) }

-- where the length is 0, and the form has no form without bytes, no front is of the form
pub most_none : (Form : List ℕ → Type 0) → (Form [] → ⊥) → (text : List ℕ) (len : ℕ) → IsMost Form text len → len ≡ 0 → (front back : List ℕ) → text ≡ front ++ back → Form front → ⊥
most_none Form filled text len m zero_len [] back e h = filled h
most_none Form filled text len m zero_len (a ∷ front) back e h = absurd (omega (arith, m.most (a ∷ front) back e h, zero_len))

-- no byte of one class is of the other, where the one class is a byte
pub no_such : (class : ℕ → Bool) (b n : ℕ) → eqb b n ≡ true → class n ≡ false → class b ≡ true → ⊥
no_such class b n e f t = false≢true (sym f ∙ ap class (sym (eqb-true b n e)) ∙ t)

-- ---- one byte, and then a form

module _ (class : ℕ → Bool) (Form : List ℕ → Type 0) where
  -- the parts of it
  pub lead : (b : ℕ) (x : List ℕ) → (One class followed_by Form) (b ∷ x) → (class b ≡ true) × Form x
  lead b x j = from j.front j.whole j.first j.second
    where
      from : (front : List ℕ) → b ∷ x ≡ front ++ j.back → One class front → Form j.back → (class b ≡ true) × Form x
      from [] e h k = absurd h
      from (a ∷ f) e h k =
          let o = one_byte class a f h in
          let same : a ≡ b = cc in
          let rest : x ≡ f ++ j.back = cc in
          (subst (λ (c : ℕ). class c ≡ true) same o.0, subst Form (sym (rest ∙ ap (λ (p : List ℕ). p ++ j.back) o.1)) k)

  pub lead_nil : (One class followed_by Form) [] → ⊥
  lead_nil j = from j.front j.whole j.first
    where
      from : (front : List ℕ) → [] ≡ front ++ j.back → One class front → ⊥
      from [] e h = h
      from (a ∷ f) e h = absurd cc

  pub led : (b : ℕ) (x : List ℕ) → class b ≡ true → Form x → (One class followed_by Form) (b ∷ x)
  led b x t h = record { front = b ∷ []; back = x; whole = refl; first = t; second = h }

  pub lead_most : (Form [] → ⊥) → (b : ℕ) (x : List ℕ) (n : ℕ) → IsMost Form x n → IsMost (One class followed_by Form) (b ∷ x) (cond (class b) (after_one n) 0)
  lead_most filled b x n m = elim (cases_Bool (class b)) [ inl t ↦ rw (cond-true (class b) (after_one n) 0 t) (there t n m) | inr f ↦ rw (cond-false (class b) (after_one n) 0 f) (none_most _ _ (absent f)) ]
    where
      absent : class b ≡ false → (front back : List ℕ) → b ∷ x ≡ front ++ back → (One class followed_by Form) front → ⊥
      absent f [] back e j = lead_nil j
      absent f (a ∷ front) back e j = let same : a ≡ b = cc in false≢true (sym f ∙ subst (λ (c : ℕ). class c ≡ true) same (lead a front j).0)

      none : (k : ℕ) → IsMost Form x k → k ≡ 0 → (front back : List ℕ) → b ∷ x ≡ front ++ back → (One class followed_by Form) front → ⊥
      none k m z [] back e j = lead_nil j
      none k m z (a ∷ front) back e j = most_none Form filled x k m z front back (cc) (lead a front j).1

      there : class b ≡ true → (k : ℕ) → IsMost Form x k → IsMost (One class followed_by Form) (b ∷ x) (after_one k)
      there t zero m = none_most _ _ (none zero m refl)
      there t (suc k) m = rw after_one_suc (record {
        within = omega (arith, m.within);
        form = λ _. led b _ t (m.form (λ e. absurd (omega arith)));
        most = most;
      })
        where
          after_one_suc : after_one (suc k) ≡ suc (suc k)
          after_one_suc = cond-false (eqb (suc k) 0) 0 (suc (suc k)) (ne_eqb (suc k) 0 (λ e. absurd (omega arith)))

          most : (front back : List ℕ) → b ∷ x ≡ front ++ back → (One class followed_by Form) front → length front ≤ suc (suc k)
          most [] back e j = omega arith
          most (a ∷ front) back e j = omega (arith, m.most front back (cc) (lead a front j).1)

-- ---- two forms

-- A front of both is no longer than the longest of each, where nothing of the second form follows a shorter front of the first.
pub joined_most : (First Second : List ℕ → Type 0) (text : List ℕ) (n m : ℕ)
    → ((front back : List ℕ) → text ≡ front ++ back → First front → length front ≤ n)
    → ((front back : List ℕ) → drop n text ≡ front ++ back → Second front → length front ≤ m)
    → ((front middle back : List ℕ) → text ≡ front ++ (middle ++ back) → First front → Second middle → length front < n → middle ≡ [])
    → (front back : List ℕ) → text ≡ front ++ back → (First followed_by Second) front → length front ≤ n + m
joined_most First Second text n m first second apart front back e j =
    let parts : text ≡ j.front ++ (j.back ++ back) = e ∙ ap (λ (x : List ℕ). x ++ back) j.whole ∙ append_assoc j.front j.back back in
    let counted : length front ≡ length j.front + length j.back = ap length j.whole ∙ length-append j.front j.back in
    let short = first j.front (j.back ++ back) parts j.first in
    elim (cases_lt (length j.front) n) [
      | inl lt ↦ omega (arith, counted, ap length (apart j.front j.back back parts j.first j.second lt))
      | inr ge ↦
          let same : length j.front ≡ n = omega (arith, short) in
          let rest : drop n text ≡ j.back ++ back = ap (λ (x : List ℕ). drop n x) parts ∙ drop_at j.front (j.back ++ back) n same in
          omega (arith, counted, second j.back back rest j.second)
    ]

pub joined_is : (First Second : List ℕ → Type 0) (text : List ℕ) (n m : ℕ) → First (take n text) → Second (take m (drop n text)) → (First followed_by Second) (take (n + m) text)
joined_is First Second text n m h k = record { front = take n text; back = take m (drop n text); whole = take-add n m text; first = h; second = k }

-- the same fronts are of both forms
pub same_most : (F G : List ℕ → Type 0) (text : List ℕ) (n : ℕ) → ((x : List ℕ) → F x → G x) → ((front back : List ℕ) → text ≡ front ++ back → G front → F front) → IsMost F text n → IsMost G text n
same_most F G text n there back m = record { within = m.within; form = λ h. there _ (m.form h); most = λ f b e h. m.most f b e (back f b e h) }

-- with the form or without it
pub perhaps_is : (Form : List ℕ → Type 0) (text : List ℕ) (n : ℕ) → IsMost Form text n → Perhaps Form (take n text)
perhaps_is Form text zero m = inl refl
perhaps_is Form text (suc n) m = inr (m.form (λ e. absurd (omega arith)))

pub perhaps_most : (Form : List ℕ → Type 0) (text : List ℕ) (n : ℕ) → IsMost Form text n → (front back : List ℕ) → text ≡ front ++ back → Perhaps Form front → length front ≤ n
perhaps_most Form text n m front back e (inl h) = omega (arith, ap length h)
perhaps_most Form text n m front back e (inr h) = m.most front back e h
