-- Line after line.
use Rattle.std.proofs.Common.{ℕ, suc, ◌+◌, ◌-◌, ◌≡◌, ◌<◌, ◌≤◌, ◌^◌, not, ◌==◌, Bool, true, false, cond, List, [], ◌∷◌, ◌++◌, length, take, drop, length-append, length-drop, append_assoc, Some, None, ap, ◌∙◌, sym, refl, subst, arith}
use Rattle.std.proofs.lemmas.Bool.{false≢true, eqb-true}
use Rattle.std.proofs.lemmas.List.{drop-drop}
use Rattle.std.specs.List.{prefix_len}
use lib.ListN.{drop_of_length-le}
use mathlib.Core.List.{append-nil}
use Rattle.fault_system.specs.Truth.{NumberSet}
use Rattle.fault_system.specs.Systems.{NamesDiffer}
use Rattle.derivations.specs.declared.derivation.Firing.{Firing}
use Rattle.derivations.specs.Text.{line_of, lines_of, HasLine, HaveLines, IsBadAt, IsTextOf}
use Rattle.derivations.specs.inner.Text.{AreLineNames}
use Rattle.derivations.specs.inner.Reading.{step_of}
use Rattle.derivations.proofs.Numbers.{none-some}
use Rattle.derivations.proofs.Lines.{unfed, line-unfed, line-again, line-sound, fed-at, take-front}

split-by : (b : Bool) (byte k : ℕ) (bytes : List ℕ) → not (byte == 10) ≡ b → (k < length bytes → bytes ≡ take k bytes ++ (10 ∷ drop (suc k) bytes)) → cond b (1 + k) 0 < length (byte ∷ bytes) → byte ∷ bytes ≡ take (cond b (1 + k) 0) (byte ∷ bytes) ++ (10 ∷ drop (suc (cond b (1 + k) 0)) (byte ∷ bytes))
split-by true byte k bytes is rest l =
    let s : 1 + k ≡ suc k = omega arith in
    rw s (ap (λ more. byte ∷ more) (rest (omega arith)))
split-by false byte k bytes is rest l = ap (λ first. first ∷ bytes) (eqb-true byte 10 (truth (byte == 10) is))
  where
    truth : (b : Bool) → not b ≡ false → b ≡ true
    truth true e = refl
    truth false e = absurd (false≢true (sym e))

split-at : (rest : List ℕ) → prefix_len unfed rest < length rest → rest ≡ take (prefix_len unfed rest) rest ++ (10 ∷ drop (suc (prefix_len unfed rest)) rest)
split-at [] l = absurd (omega arith)
split-at (byte ∷ bytes) l = split-by (unfed byte) byte (prefix_len unfed bytes) bytes refl (split-at bytes) l

module _ (facts names : List (List ℕ)) (events : NumberSet) where
  lines-push : (steps : List Firing) (number : ℕ) (step : Firing) → lines_of facts names number (steps ++ step ∷ []) ≡ lines_of facts names number steps ++ (line_of facts names (number + length steps) step ++ 10 ∷ [])
  lines-push [] number step = let e : number ≡ number + length {A = Firing} [] = omega arith in ap (λ n. line_of facts names n step ++ 10 ∷ []) e
  lines-push (first ∷ steps) number step =
      let e : (number + 1) + length steps ≡ number + length (first ∷ steps) = omega arith in
      ap (λ more. line_of facts names number first ++ (10 ∷ more)) (lines-push steps (number + 1) step ∙ ap (λ n. lines_of facts names (number + 1) steps ++ (line_of facts names n step ++ 10 ∷ [])) e)
      ∙ sym (append_assoc (line_of facts names number first) (10 ∷ lines_of facts names (number + 1) steps) (line_of facts names (number + length (first ∷ steps)) step ++ 10 ∷ []))

  have-push : (steps : List Firing) (number : ℕ) (step : Firing) → HaveLines facts names events number steps → HasLine facts names events (number + length steps) step → HaveLines facts names events number (steps ++ step ∷ [])
  have-push [] number step have has = let e : number + length {A = Firing} [] ≡ number = omega arith in (subst (λ n. HasLine facts names events n step) e has, tt)
  have-push (first ∷ steps) number step have has =
      let e : number + length (first ∷ steps) ≡ (number + 1) + length steps = omega arith in
      (have.0, have-push steps (number + 1) step have.1 (subst (λ n. HasLine facts names events n step) e has))

  module _ (facts_differ : NamesDiffer facts) (differ : NamesDiffer names) (fact_names : AreLineNames facts) (line_names : AreLineNames names) (bytes : List ℕ) (at : ℕ) (steps : List Firing) (few : length steps < 2 ^ 32) (within : at < length bytes) (lines : HaveLines facts names events 0 steps) (text : bytes ≡ lines_of facts names 0 steps ++ drop at bytes) where
    place : at ≡ length (lines_of facts names 0 steps)
    place = let e : length bytes ≡ length (lines_of facts names 0 steps) + length (drop at bytes) = ap length text ∙ length-append (lines_of facts names 0 steps) (drop at bytes) in omega (arith, length-drop at bytes)

    rest_some : 0 < length (drop at bytes)
    rest_some = omega (arith, length-drop at bytes)

    -- no line feed follows
    pub bad-end : (end : ℕ) → end ≡ at + prefix_len unfed (drop at bytes) → length bytes ≤ end → IsBadAt facts names events bytes at
    bad-end end is out =
        record {
          steps = steps;
          rest = drop at bytes;
          lines = lines;
          text = text;
          place = place;
          some = rest_some;
          bad = λ step more has same.
              let e : prefix_len unfed (drop at bytes) ≡ length (line_of facts names (length steps) step) = ap (prefix_len unfed) same ∙ fed-at (line_of facts names (length steps) step) more (line-unfed facts names events (length steps) few fact_names line_names step has) in
              let f : length (drop at bytes) ≡ length (line_of facts names (length steps) step) + length (10 ∷ more) = ap length same ∙ length-append (line_of facts names (length steps) step) (10 ∷ more) in
              omega (arith, length-drop at bytes);
        }

    -- a line follows that is none of a step
    pub bad-line : (end : ℕ) (line : List ℕ) → end ≡ at + prefix_len unfed (drop at bytes) → line ≡ take (end - at) (drop at bytes) → step_of facts names events (length steps) line ≡ None → IsBadAt facts names events bytes at
    bad-line end line is cut none =
        record {
          steps = steps;
          rest = drop at bytes;
          lines = lines;
          text = text;
          place = place;
          some = rest_some;
          bad = λ step more has same.
              let len : prefix_len unfed (drop at bytes) ≡ length (line_of facts names (length steps) step) = ap (prefix_len unfed) same ∙ fed-at (line_of facts names (length steps) step) more (line-unfed facts names events (length steps) few fact_names line_names step has) in
              let count : end - at ≡ length (line_of facts names (length steps) step) = omega arith in
              let e : line ≡ line_of facts names (length steps) step = cut ∙ ap (λ n. take n (drop at bytes)) count ∙ ap (take (length (line_of facts names (length steps) step))) same ∙ take-front (line_of facts names (length steps) step) (10 ∷ more) in
              none-some step (sym none ∙ ap (step_of facts names events (length steps)) e ∙ line-again facts names events (length steps) few fact_names line_names step has facts_differ differ);
        }

    -- what is kept when a line of a step was read
    pub record Kept (next : ℕ) (more : List Firing) : Type 0 where
      pub fits : next ≤ length bytes
      pub have : HaveLines facts names events 0 more
      pub whole : bytes ≡ lines_of facts names 0 more ++ drop next bytes

    pub next-line : (end : ℕ) (line : List ℕ) (step : Firing) → end ≡ at + prefix_len unfed (drop at bytes) → end < length bytes → line ≡ take (end - at) (drop at bytes) → step_of facts names events (length steps) line ≡ Some step → Kept (end + 1) (steps ++ step ∷ [])
    next-line end line step is inside cut read =
        let sound = line-sound facts names events (length steps) line step read in
        let k = prefix_len unfed (drop at bytes) in
        let count : end - at ≡ k = omega arith in
        let fits : k < length (drop at bytes) = omega (arith, length-drop at bytes) in
        let first : take k (drop at bytes) ≡ line_of facts names (length steps) step = sym (cut ∙ ap (λ n. take n (drop at bytes)) count) ∙ sound.1 in
        let after : at + suc k ≡ end + 1 = omega arith in
        let rest : drop (suc k) (drop at bytes) ≡ drop (end + 1) bytes = drop-drop (suc k) at bytes ∙ ap (λ n. drop n bytes) after in
        let split : drop at bytes ≡ line_of facts names (length steps) step ++ (10 ∷ drop (end + 1) bytes) = split-at (drop at bytes) fits ∙ ap (λ w. w ++ (10 ∷ drop (suc k) (drop at bytes))) first ∙ ap (λ r. line_of facts names (length steps) step ++ (10 ∷ r)) rest in
        let zero_more : length steps ≡ 0 + length steps = omega arith in
        let has : HasLine facts names events (0 + length steps) step = subst (λ n. HasLine facts names events n step) zero_more sound.0 in
        let pushed : lines_of facts names 0 (steps ++ step ∷ []) ≡ lines_of facts names 0 steps ++ (line_of facts names (length steps) step ++ 10 ∷ []) = lines-push steps 0 step ∙ ap (λ n. lines_of facts names 0 steps ++ (line_of facts names n step ++ 10 ∷ [])) (sym zero_more) in
        record {
          fits = omega arith;
          have = have-push steps 0 step lines has;
          whole = text ∙ ap (λ r. lines_of facts names 0 steps ++ r) (split ∙ sym (append_assoc (line_of facts names (length steps) step) (10 ∷ []) (drop (end + 1) bytes)))
              ∙ sym (append_assoc (lines_of facts names 0 steps) (line_of facts names (length steps) step ++ 10 ∷ []) (drop (end + 1) bytes)) ∙ ap (λ w. w ++ drop (end + 1) bytes) (sym pushed);
        }

  pub whole-text : (bytes : List ℕ) (at : ℕ) (steps : List Firing) → length bytes ≤ at → HaveLines facts names events 0 steps → bytes ≡ lines_of facts names 0 steps ++ drop at bytes → IsTextOf facts names events bytes steps
  whole-text bytes at steps l lines text = record { lines = lines; text = text ∙ ap (λ r. lines_of facts names 0 steps ++ r) (drop_of_length-le bytes l) ∙ append-nil (lines_of facts names 0 steps) }
