-- Where the line of a step begins.
use Rattle.std.proofs.Common.{ℕ, zero, suc, ◌+◌, ◌-◌, ◌≡◌, ◌<◌, ◌≤◌, ◌^◌, nat_lt, true, false, cond, List, [], ◌∷◌, ◌++◌, length, take, drop, length-append, length-drop, ap, ◌∙◌, refl, arith, leb-true, le-leb}
use Rattle.std.proofs.lemmas.Bool.{false_from_ne_true}
use Rattle.std.proofs.lemmas.List.{drop-drop}
use Rattle.std.specs.List.{prefix_len}
use Rattle.fault_system.specs.Truth.{NumberSet}
use Rattle.derivations.specs.declared.derivation.Firing.{Firing}
use Rattle.derivations.specs.Text.{line_of, lines_of, HaveLines}
use Rattle.derivations.specs.inner.Text.{AreLineNames}
use Rattle.derivations.specs.inner.Reading.{line_place}
use Rattle.derivations.proofs.Lines.{unfed, line-unfed, fed-at}
use Rattle.derivations.proofs.Unique.{after-feed}

-- one line further
pub place-on : (bytes : List ℕ) (at end more : ℕ) → at ≤ length bytes → end ≡ at + prefix_len unfed (drop at bytes) → end < length bytes → 0 < more → at + line_place more (drop at bytes) ≡ (end + 1) + line_place (more - 1) (drop (end + 1) bytes)
place-on bytes at end zero within is inside some = absurd (omega arith)
place-on bytes at end (suc more) within is inside some =
    let p = prefix_len unfed (drop at bytes) in
    let fits : p < length (drop at bytes) = omega (arith, length-drop at bytes) in
    let test : nat_lt p (length (drop at bytes)) ≡ true = le-leb (suc p) (length (drop at bytes)) fits in
    let after : at + suc p ≡ end + 1 = omega arith in
    let rest : drop (suc p) (drop at bytes) ≡ drop (end + 1) bytes = drop-drop (suc p) at bytes ∙ ap (λ n. drop n bytes) after in
    let one_less : more ≡ suc more - 1 = omega arith in
    let sums : (q : ℕ) → at + (suc p + q) ≡ (end + 1) + q = λ q. omega arith in
    ap (λ b. at + cond b (suc p + line_place more (drop (suc p) (drop at bytes))) (length (drop at bytes))) test
    ∙ ap (λ text. at + (suc p + line_place more text)) rest
    ∙ sums (line_place more (drop (end + 1) bytes))
    ∙ ap (λ n. (end + 1) + line_place n (drop (end + 1) bytes)) one_less

-- no line feed follows
pub place-out : (bytes : List ℕ) (at end more : ℕ) → at ≤ length bytes → end ≡ at + prefix_len unfed (drop at bytes) → length bytes ≤ end → 0 < more → at + line_place more (drop at bytes) ≡ length bytes
place-out bytes at end zero within is out some = absurd (omega arith)
place-out bytes at end (suc more) within is out some =
    let p = prefix_len unfed (drop at bytes) in
    let test : nat_lt p (length (drop at bytes)) ≡ false = false_from_ne_true _ (λ e. let fits : suc p ≤ length (drop at bytes) = leb-true _ _ e in omega (arith, length-drop at bytes)) in
    let sums : at + length (drop at bytes) ≡ length bytes = omega (arith, length-drop at bytes) in
    ap (λ b. at + cond b (suc p + line_place more (drop (suc p) (drop at bytes))) (length (drop at bytes))) test ∙ sums

module _ (facts names : List (List ℕ)) (events : NumberSet) (fact_names : AreLineNames facts) (line_names : AreLineNames names) where
  pub place-of : (steps : List Firing) (n number : ℕ) → n < length steps → number + length steps < 2 ^ 32 → HaveLines facts names events number steps → line_place n (lines_of facts names number steps) ≡ length (lines_of facts names number (take n steps))
  place-of [] n number within few have = absurd (omega arith)
  place-of (step ∷ steps) zero number within few have = refl
  place-of (step ∷ steps) (suc n) number within few have =
      let line = line_of facts names number step in
      let more = lines_of facts names (number + 1) steps in
      let front = lines_of facts names (number + 1) (take n steps) in
      let text = line ++ (10 ∷ more) in
      let p = prefix_len unfed text in
      let len : p ≡ length line = fed-at line more (line-unfed facts names events number (omega arith) fact_names line_names step have.0) in
      let fits : p < length text = omega (arith, length-append line (10 ∷ more)) in
      let test : nat_lt p (length text) ≡ true = le-leb (suc p) (length text) fits in
      let rest : drop (suc p) text ≡ more = ap (λ n. drop (suc n) text) len ∙ after-feed line more in
      let later : line_place n more ≡ length front = place-of steps n (number + 1) (omega arith) (omega arith) have.1 in
      let sums : suc p + length front ≡ length (line ++ (10 ∷ front)) = omega (arith, length-append line (10 ∷ front)) in
      ap (λ b. cond b (suc p + line_place n (drop (suc p) text)) (length text)) test
      ∙ ap (λ t. suc p + line_place n t) rest ∙ ap (λ k. suc p + k) later ∙ sums
