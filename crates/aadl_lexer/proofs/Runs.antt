-- Repeated parts, and the longest run of bytes of a class.
use Rattle.std.proofs.Common.{◌≡◌, ℕ, ◌+◌, ◌<◌, ◌≤◌, Bool, true, List, [], ◌∷◌, ◌++◌, length, take, refl, sym, ap, subst, ◌∙◌, inl, inr, arith}
use Rattle.std.specs.List.{concat, AllByRecursion, prefix_len}
use Rattle.std.proofs.lemmas.Bool.{cases_Bool, cond-true, cond-false}
use Rattle.std.proofs.Math.Numerals.{one-add}
use Rattle.aadl_syntax.specs.Form.{One, Repeated}

-- no part at all
pub rep_none : (P : List ℕ → Type 0) → Repeated P []
rep_none P = record { parts = []; whole = refl; each = tt }

-- one part more, in front
pub rep_more : (P : List ℕ → Type 0) (p q : List ℕ) → P p → Repeated P q → Repeated P (p ++ q)
rep_more P p q first r = record { parts = p ∷ r.parts; whole = ap (λ (x : List ℕ). p ++ x) r.whole; each = (first, r.each) }

-- the first part, where no part is empty
pub record FirstPart (P : List ℕ → Type 0) (b : ℕ) (x : List ℕ) : Type 0 where
  pub part : List ℕ
  pub others : List ℕ
  pub first : P (b ∷ part)
  pub whole : x ≡ part ++ others
  pub more : Repeated P others

pub rep_first : (P : List ℕ → Type 0) → (P [] → ⊥) → (b : ℕ) (x : List ℕ) → Repeated P (b ∷ x) → FirstPart P b x
rep_first P filled b x r = from r.parts r.whole r.each
  where
    from : (parts : List (List ℕ)) → b ∷ x ≡ concat parts → AllByRecursion P parts → FirstPart P b x
    from [] e each = absurd cc
    from ([] ∷ ps) e each = absurd (filled each.0)
    from ((a ∷ p) ∷ ps) e each =
        let same : a ≡ b = cc in
        record { part = p; others = concat ps; first = subst (λ (c : ℕ). P (c ∷ p)) same each.0; whole = cc; more = record { parts = ps; whole = refl; each = each.1 } }

-- ---- bytes of a class

module _ (class : ℕ → Bool) where
  pub one_byte : (b : ℕ) (x : List ℕ) → One class (b ∷ x) → (class b ≡ true) × (x ≡ [])
  one_byte b [] h = (h, refl)
  one_byte b (c ∷ x) h = absurd h

  pub run_first : (b : ℕ) (x : List ℕ) → Repeated (One class) (b ∷ x) → (class b ≡ true) × Repeated (One class) x
  run_first b x r =
      let f = rep_first (One class) (λ h. h) b x r in
      let o = one_byte b f.part f.first in
      (o.0, subst (Repeated (One class)) (sym (f.whole ∙ ap (λ (p : List ℕ). p ++ f.others) o.1)) f.more)

  pub run_more : (b : ℕ) (x : List ℕ) → class b ≡ true → Repeated (One class) x → Repeated (One class) (b ∷ x)
  run_more b x h r = rep_more (One class) (b ∷ []) x h r

  pub run_is : (text : List ℕ) → Repeated (One class) (take (prefix_len class text) text)
  run_is [] = rep_none (One class)
  run_is (b ∷ text) =
      let P : ℕ → Type 0 = λ n. Repeated (One class) (take n (b ∷ text)) in
      elim (cases_Bool (class b)) [
        | inl t ↦ subst P (sym (cond-true (class b) _ _ t ∙ one-add _)) (run_more b _ t (run_is text))
        | inr f ↦ subst P (sym (cond-false (class b) _ _ f)) (rep_none (One class))
      ]

  -- a run in front is no longer, and where it is shorter a byte of the class follows it
  pub record Within (text front back : List ℕ) : Type 0 where
    pub most : length front ≤ prefix_len class text
    pub next : length front < prefix_len class text → (c : ℕ) × (more : List ℕ) × (back ≡ c ∷ more) × (class c ≡ true)

  pub run_within : (text front back : List ℕ) → text ≡ front ++ back → Repeated (One class) front → Within text front back
  run_within [] [] back e r = record { most = omega arith; next = λ lt. absurd (omega arith) }
  run_within [] (a ∷ front) back e r = absurd cc
  run_within (b ∷ text) [] back e r = record {
    most = omega arith;
    next = λ lt. elim (cases_Bool (class b)) [
      | inl t ↦ (b, text, sym e, t)
      | inr f ↦ absurd (omega (arith, cond-false (class b) (1 + prefix_len class text) 0 f))
    ];
  }
  run_within (b ∷ text) (a ∷ front) back e r =
      let same : a ≡ b = cc in
      let f = run_first a front r in
      let rest = run_within text front back (cc) f.1 in
      let counted = cond-true (class b) (1 + prefix_len class text) 0 (subst (λ (c : ℕ). class c ≡ true) same f.0) in
      record { most = omega (arith, counted, rest.most); next = λ lt. rest.next (omega (arith, counted)) }
