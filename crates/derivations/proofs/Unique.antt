-- No text is that of two derivations, and none that is one has a bad place.
use Rattle.std.proofs.Common.{ℕ, suc, ◌+◌, ◌≡◌, ◌<◌, ◌^◌, true, List, [], ◌∷◌, ◌++◌, length, take, drop, append_assoc, ap, ◌∙◌, sym, refl, subst, arith}
use Rattle.std.specs.List.{list_all, prefix_len}
use Rattle.fault_system.specs.Truth.{NumberSet}
use Rattle.fault_system.specs.Systems.{NamesDiffer}
use Rattle.derivations.specs.declared.derivation.Firing.{Firing}
use Rattle.derivations.specs.Text.{line_of, lines_of, HasLine, HaveLines, IsBadAt, IsTextOf}
use Rattle.derivations.specs.inner.Text.{AreLineNames}
use Rattle.derivations.specs.inner.Reading.{step_of}
use Rattle.derivations.proofs.Numbers.{some-same}
use Rattle.derivations.proofs.Lines.{unfed, line-unfed, line-again, fed-at, take-front}

pub after-feed : (u rest : List ℕ) → drop (suc (length u)) (u ++ (10 ∷ rest)) ≡ rest
after-feed [] rest = refl
after-feed (byte ∷ bytes) rest = after-feed bytes rest

same-front : (u v p q : List ℕ) → list_all unfed u ≡ true → list_all unfed v ≡ true → u ++ (10 ∷ p) ≡ v ++ (10 ∷ q) → (u ≡ v) × (p ≡ q)
same-front u v p q plain_u plain_v e =
    let len : length u ≡ length v = sym (fed-at u p plain_u) ∙ ap (prefix_len unfed) e ∙ fed-at v q plain_v in (
      sym (take-front u (10 ∷ p)) ∙ ap (take (length u)) e ∙ ap (λ n. take n (v ++ (10 ∷ q))) len ∙ take-front v (10 ∷ q),
      sym (after-feed u p) ∙ ap (drop (suc (length u))) e ∙ ap (λ n. drop (suc n) (v ++ (10 ∷ q))) len ∙ after-feed v q,
    )

no-bytes : (u p : List ℕ) → u ++ (10 ∷ p) ≡ [] → ⊥
no-bytes [] p e = cc
no-bytes (byte ∷ bytes) p e = cc

module _ (facts names : List (List ℕ)) (events : NumberSet) (facts_differ : NamesDiffer facts) (differ : NamesDiffer names) (fact_names : AreLineNames facts) (line_names : AreLineNames names) where
  one-step : (number : ℕ) → number < 2 ^ 32 → (a b : Firing) (p q : List ℕ) → HasLine facts names events number a → HasLine facts names events number b → line_of facts names number a ++ (10 ∷ p) ≡ line_of facts names number b ++ (10 ∷ q) → (a ≡ b) × (p ≡ q)
  one-step number few a b p q has_a has_b e =
      let same = same-front (line_of facts names number a) (line_of facts names number b) p q (line-unfed facts names events number few fact_names line_names a has_a) (line-unfed facts names events number few fact_names line_names b has_b) e in (
        some-same a b (sym (line-again facts names events number few fact_names line_names a has_a facts_differ differ) ∙ ap (step_of facts names events number) same.0 ∙ line-again facts names events number few fact_names line_names b has_b facts_differ differ),
        same.1,
      )

  pub one-text : (xs ys : List Firing) (number : ℕ) → number + length ys < 2 ^ 32 → HaveLines facts names events number xs → HaveLines facts names events number ys → lines_of facts names number xs ≡ lines_of facts names number ys → xs ≡ ys
  one-text [] [] number few have_a have_b e = refl
  one-text [] (b ∷ ys) number few have_a have_b e = absurd (no-bytes (line_of facts names number b) _ (sym e))
  one-text (a ∷ xs) [] number few have_a have_b e = absurd (no-bytes (line_of facts names number a) _ e)
  one-text (a ∷ xs) (b ∷ ys) number few have_a have_b e =
      let first = one-step number (omega arith) a b (lines_of facts names (number + 1) xs) (lines_of facts names (number + 1) ys) have_a.0 have_b.0 e in
      let later : xs ≡ ys = one-text xs ys (number + 1) (omega arith) have_a.1 have_b.1 first.1 in
      λ i. first.0 i ∷ later i

  -- what follows the text of some steps in a text of steps is a line
  pub record Follows (number : ℕ) (rest : List ℕ) : Type 0 where
    pub step : Firing
    pub more : List ℕ
    pub has : HasLine facts names events number step
    pub is : rest ≡ line_of facts names number step ++ (10 ∷ more)

  pub follows : (xs ys : List Firing) (number : ℕ) (rest : List ℕ) → number + length ys < 2 ^ 32 → HaveLines facts names events number xs → HaveLines facts names events number ys → lines_of facts names number ys ≡ lines_of facts names number xs ++ rest → 0 < length rest → Follows (number + length xs) rest
  follows [] [] number rest few have_a have_b e some = let n : length rest ≡ 0 = ap length (sym e) in absurd (omega arith)
  follows [] (b ∷ ys) number rest few have_a have_b e some =
      let z : number ≡ number + length {A = Firing} [] = omega arith in
      subst (λ n. Follows n rest) z (record { step = b; more = lines_of facts names (number + 1) ys; has = have_b.0; is = sym e })
  follows (a ∷ xs) [] number rest few have_a have_b e some = absurd (no-bytes (line_of facts names number a) (lines_of facts names (number + 1) xs ++ rest) (sym (e ∙ append_assoc (line_of facts names number a) (10 ∷ lines_of facts names (number + 1) xs) rest)))
  follows (a ∷ xs) (b ∷ ys) number rest few have_a have_b e some =
      let first = one-step number (omega arith) b a (lines_of facts names (number + 1) ys) (lines_of facts names (number + 1) xs ++ rest) have_b.0 have_a.0 (e ∙ append_assoc (line_of facts names number a) (10 ∷ lines_of facts names (number + 1) xs) rest) in
      let s : (number + 1) + length xs ≡ number + length (a ∷ xs) = omega arith in
      subst (λ n. Follows n rest) s (follows xs ys (number + 1) rest (omega arith) have_a.1 have_b.1 first.1 some)

  -- a text of steps has no bad place, and is read xs these steps
  pub never-bad : (bytes : List ℕ) (at : ℕ) (steps : List Firing) → length steps < 2 ^ 32 → IsTextOf facts names events bytes steps → IsBadAt facts names events bytes at → ⊥
  never-bad bytes at steps few text bad =
      let next = follows bad.steps steps 0 bad.rest (omega arith) bad.lines text.lines (sym text.text ∙ bad.text) bad.some in
      let z : 0 + length bad.steps ≡ length bad.steps = omega arith in
      let found : Follows (length bad.steps) bad.rest = subst (λ n. Follows n bad.rest) z next in
      bad.bad found.step found.more found.has found.is

  pub only-steps : (bytes : List ℕ) (xs ys : List Firing) → length ys < 2 ^ 32 → IsTextOf facts names events bytes xs → IsTextOf facts names events bytes ys → xs ≡ ys
  only-steps bytes xs ys few a b = one-text xs ys 0 (omega arith) a.lines b.lines (sym a.text ∙ b.text)
