-- One word more of a line.
use Rattle.std.proofs.Common.{ℕ, zero, suc, ◌+◌, ◌≡◌, ◌<◌, Bool, true, false, cond, List, [], ◌∷◌, length, take, drop, ◌-◌, decimal, if◌then◌else◌, Option, Some, None, Result, Ok, Err, IfOk, IsTrue, ◌↔◌, ◌≤◌, ap, ◌∙◌, sym, refl, arith}
use Rattle.std.proofs.lemmas.Bool.{false≢true, false_from_ne_true}
use Rattle.std.specs.declared.alloc.AllocError.{AllocError}
use lib.ListN.{drop_of_length-le}
use Rattle.derivations.specs.declared.derivation.Firing.{Firing}
use Rattle.derivations.proofs.Numbers.{same-of, of-same}
use Rattle.std.specs.Option.{option_and_then}
use Rattle.std.specs.List.{slice_range}
use Rattle.fault_system.specs.Truth.{NumberSet}
use Rattle.derivations.specs.inner.Reading.{Items, cut, one_more, words_behind, place_of, with_word, with_words, step_of_fact, step_of_words, step_of}

turn : (line : List ℕ) (at : ℕ) → at < length line → words_behind (drop at line) ≡ one_more (cut (drop (suc at) line))
turn [] at l = absurd (omega arith)
turn (byte ∷ bytes) zero l = refl
turn (byte ∷ bytes) (suc at) l = turn bytes at (omega arith)

turned : (line : List ℕ) (at : ℕ) → at < length line → words_behind (drop at line) ≡ one_more (cut (drop (at + 1) line))
turned line at l = let e : suc at ≡ at + 1 = omega arith in turn line at l ∙ ap (λ n. one_more (cut (drop n line))) e

module _ (names : List (List ℕ)) (events : NumberSet) (number : ℕ) (items new : Items) (line : List ℕ) (at end : ℕ) (word : List ℕ) (read : Bool) where
  cases : (more : List (List ℕ)) → with_word names events number items word ≡ cond read (Some new) None → with_words names events number items (word ∷ more) ≡ cond read (with_words names events number new more) None
  cases more e = ap (option_and_then (λ after. with_words names events number after more)) e ∙ by read
    where
      by : (b : Bool) → option_and_then (λ after. with_words names events number after more) (cond b (Some new) None) ≡ cond b (with_words names events number new more) None
      by true = refl
      by false = refl

  pub read-yes : at < length line → word ≡ (cut (drop (at + 1) line)).first → words_behind (drop end line) ≡ (cut (drop (at + 1) line)).later → read ≡ true → with_word names events number items word ≡ cond read (Some new) None → with_words names events number items (words_behind (drop at line)) ≡ with_words names events number new (words_behind (drop end line))
  read-yes l is later yes_read e =
      ap (with_words names events number items) (turned line at l ∙ ap (λ w. w ∷ (cut (drop (at + 1) line)).later) (sym is))
      ∙ cases (cut (drop (at + 1) line)).later e ∙ ap (λ b. cond b (with_words names events number new (cut (drop (at + 1) line)).later) None) yes_read ∙ ap (with_words names events number new) (sym later)

  pub read-no : at < length line → word ≡ (cut (drop (at + 1) line)).first → read ≡ false → with_word names events number items word ≡ cond read (Some new) None → with_words names events number items (words_behind (drop at line)) ≡ None
  read-no l is not_read e =
      ap (with_words names events number items) (turned line at l ∙ ap (λ w. w ∷ (cut (drop (at + 1) line)).later) (sym is))
      ∙ cases (cut (drop (at + 1) line)).later e ∙ ap (λ b. cond b (with_words names events number new (cut (drop (at + 1) line)).later) None) not_read

along : {A E : Type 0} (r : Result A E) (x y : A) → x ≡ y → IfOk r (λ s. y ≡ s) → IfOk r (λ s. x ≡ s)
along (Ok s) x y e h = e ∙ h
along (Err error) x y e h = h

module _ (facts names : List (List ℕ)) (events : NumberSet) (number : ℕ) (line : List ℕ) where
  pub fact-read : (end later_end : ℕ) (word : List ℕ) (o : Option ℕ) → end < length line → word ≡ (cut (drop (end + 1) line)).first → words_behind (drop later_end line) ≡ (cut (drop (end + 1) line)).later → o ≡ place_of facts word → step_of_words facts names events number (words_behind (drop end line)) ≡ step_of_fact names events number (words_behind (drop later_end line)) o
  fact-read end later_end word o l is later place =
      ap (step_of_words facts names events number) (turned line end l)
      ∙ ap (λ w. step_of_fact names events number (cut (drop (end + 1) line)).later (place_of facts w)) (sym is)
      ∙ ap (step_of_fact names events number (cut (drop (end + 1) line)).later) (sym place)
      ∙ ap (λ ws. step_of_fact names events number ws o) (sym later)

  -- a line without its number
  pub no-number : (text : List ℕ) (yes_number : Bool) → text ≡ (cut line).first → (IsTrue yes_number ↔ (text ≡ decimal (number + 1))) → yes_number ≡ false → step_of facts names events number line ≡ None
  no-number text yes_number is exact e =
      ap (λ b. if b then step_of_words facts names events number (cut line).later else None) (false_from_ne_true _ (λ same. false≢true (sym e ∙ exact.1 (is ∙ same-of _ _ same))))

  pub has-number : (text : List ℕ) (end : ℕ) → text ≡ (cut line).first → words_behind (drop end line) ≡ (cut line).later → text ≡ decimal (number + 1) → step_of facts names events number line ≡ step_of_words facts names events number (words_behind (drop end line))
  has-number text end is later e =
      ap (λ b. if b then step_of_words facts names events number (cut line).later else None) (of-same _ _ (sym is ∙ e)) ∙ ap (step_of_words facts names events number) (sym later)

  pub nothing-later : (end : ℕ) → length line ≤ end → step_of_words facts names events number (words_behind (drop end line)) ≡ None
  nothing-later end l = ap (λ text. step_of_words facts names events number (words_behind text)) (drop_of_length-le line l)

  pub read-fact : (r : Result (Option Firing) AllocError) (end later_end fact : ℕ) (word : List ℕ) (o : Option ℕ) → end < length line → word ≡ (cut (drop (end + 1) line)).first → words_behind (drop later_end line) ≡ (cut (drop (end + 1) line)).later → o ≡ place_of facts word → o ≡ Some fact → IfOk r (λ s. step_of_fact names events number (words_behind (drop later_end line)) (Some fact) ≡ s) → IfOk r (λ s. step_of_words facts names events number (words_behind (drop end line)) ≡ s)
  read-fact r end later_end fact word o l is later place some h =
      along r _ _ (fact-read end later_end word o l is later place ∙ ap (step_of_fact names events number (words_behind (drop later_end line))) some) h

  pub read-line : (r : Result (Option Firing) AllocError) (text : List ℕ) (end : ℕ) → text ≡ (cut line).first → words_behind (drop end line) ≡ (cut line).later → text ≡ decimal (number + 1) → IfOk r (λ s. step_of_words facts names events number (words_behind (drop end line)) ≡ s) → IfOk r (λ s. step_of facts names events number line ≡ s)
  read-line r text end is later e h = along r _ _ (has-number text end is later e) h

pub front : (line : List ℕ) (end : ℕ) → take end line ≡ slice_range line 0 end
front line end = let e : end ≡ end - 0 = omega arith in ap (λ n. take n line) e
