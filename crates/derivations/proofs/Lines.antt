-- A line is read as the one step that has it.
use Rattle.std.proofs.Common.{ℕ, zero, suc, ◌+◌, ◌%◌, ◌≡◌, ◌<◌, ◌≤◌, ◌^◌, ◌==◌, ◌&&◌, not, Bool, true, false, cond, if◌then◌else◌, nat_le, nat_lt, List, [], ◌∷◌, ◌++◌, length, map, take, drop, decimal, Option, Some, None, append_assoc, ap, ◌∙◌, sym, refl, subst, arith, le-leb, leb-true}
use Rattle.std.proofs.lemmas.Bool.{false≢true, eqb-true, eq-eqb, false_from_ne_true, and_parts}
use Rattle.std.proofs.lemmas.List.Sums.{position_or_len_is}
use Rattle.std.proofs.lemmas.List.Quantifiers.{position-Some}
use Rattle.std.specs.List.{list_all, prefix_len, position_or_len}
use Rattle.std.specs.Option.{option_and_then}
use Rattle.plain_values.specs.Name.{is_same_text}
use Rattle.fault_system.specs.Truth.{NumberSet}
use Rattle.fault_system.specs.Systems.{NamesDiffer}
use Rattle.plain_values.specs.Rising.{RisesWithin}
use Rattle.derivations.specs.declared.derivation.Firing.{Firing}
use Rattle.derivations.specs.Text.{name_at, use_text, behind_blanks, later_words, line_of, HasLine}
use Rattle.derivations.specs.inner.Text.{is_line_name, is_plain, AreLineNames}
use Rattle.derivations.specs.inner.Reading.{Items, Words, no_items, begins_use, cut, place_of, use_of, with_event, with_use, with_word, with_words, step_with, step_of_fact, step_of_words, step_of}
use Rattle.derivations.proofs.Words.{AreUnblank, unblank, cut-words, cut-joined}
use Rattle.std.proofs.lemmas.Fmt.{decimal_by_steps}
use Rattle.std.proofs.lemmas.List.Folds.{list_all-append}
use mathlib.Core.List.{append-nil}
use Rattle.derivations.proofs.Numbers.{none-some, some-same, same-of, of-same, use_of-some, use_of-sound}

module _ (names : List (List ℕ)) where
  pub place-sound : (word : List ℕ) (n : ℕ) → place_of names word ≡ Some n → (n < length names) × (word ≡ name_at names n)
  place-sound word n e =
      let found = position-Some (λ other. is_same_text other word) names n [] e in
      (found.0, sym (same-of _ _ found.1))

  pub place-some : NamesDiffer names → (n : ℕ) → n < length names → place_of names (name_at names n) ≡ Some n
  place-some differ n l =
      let at : position_or_len (λ other. is_same_text other (name_at names n)) names ≡ n =
      position_or_len_is (λ other. is_same_text other (name_at names n)) names n [] (omega arith)
      (λ k h. false_from_ne_true _ (λ same. differ k n [] h l (same-of _ _ same))) (λ _. of-same (name_at names n) (name_at names n) refl) in
      rw at (within (le-leb (suc n) (length names) l))
    where
      within : nat_lt n (length names) ≡ true → cond (nat_lt n (length names)) (Some n) None ≡ Some n
      within e = rw e refl

-- a conditional answer that is there
if-some : (b : Bool) (x y : Items) → (if b then Some x else None) ≡ Some y → (b ≡ true) × (x ≡ y)
if-some true x y e = (refl, cc)
if-some false x y e = absurd (none-some y e)

-- what is read from some items on is theirs and then these events and uses
pub record ReadsOn (names : List (List ℕ)) (events : NumberSet) (number : ℕ) (items after : Items) (words : List (List ℕ)) : Type 0 where
  pub more_events : List ℕ
  pub more_uses : List ℕ
  pub events_are : after.events ≡ items.events ++ more_events
  pub uses_are : after.uses ≡ items.uses ++ more_uses
  pub rising : RisesWithin items.next_event (length names) more_events
  pub within : list_all events more_events ≡ true
  pub uses_rise : RisesWithin items.next_use number more_uses
  pub words_are : words ≡ map (name_at names) more_events ++ map use_text more_uses
  pub uses_last : 0 < items.next_use → more_events ≡ []

module _ (names : List (List ℕ)) (events : NumberSet) (number : ℕ) where
  abbrev Reads : Items → Items → List (List ℕ) → Type 0
  Reads items after words = ReadsOn names events number items after words

  event-on : (items after : Items) (word : List ℕ) (words : List (List ℕ)) (o : Option ℕ) (mid : Items) → place_of names word ≡ o → with_event events items o ≡ Some mid → Reads mid after words → Reads items after (word ∷ words)
  event-on items after word words None mid is e on = absurd (none-some mid e)
  event-on items after word words (Some event) mid is e on =
      let chosen = if-some _ _ _ e in
      let first = and_parts _ _ chosen.0 in
      let second = and_parts _ _ first.1 in
      let place = place-sound names word event is in
      let on_now : Reads (record items { events = items.events ++ event ∷ []; next_event = event + 1 }) after words = subst (λ m. Reads m after words) (sym chosen.1) on in
      record {
        more_events = event ∷ on_now.more_events;
        more_uses = on_now.more_uses;
        events_are = on_now.events_are ∙ append_assoc items.events (event ∷ []) on_now.more_events;
        uses_are = on_now.uses_are;
        rising = (leb-true _ _ second.0, place.0, on_now.rising);
        within = rw (second.1, on_now.within) refl;
        uses_rise = on_now.uses_rise;
        words_are = rw (place.1, on_now.words_are) refl;
        uses_last = λ h. absurd (omega (arith, eqb-true items.next_use 0 first.0));
      }

  use-on : (items after : Items) (digits : List ℕ) (words : List (List ℕ)) (o : Option ℕ) (mid : Items) → use_of number digits ≡ o → with_use items o ≡ Some mid → Reads mid after words → Reads items after ((35 ∷ digits) ∷ words)
  use-on items after digits words None mid is e on = absurd (none-some mid e)
  use-on items after digits words (Some earlier) mid is e on =
      let chosen = if-some _ _ _ e in
      let place = use_of-sound number earlier digits is in
      let on_now : Reads (record items { uses = items.uses ++ earlier ∷ []; next_use = earlier + 1 }) after words = subst (λ m. Reads m after words) (sym chosen.1) on in
      let no_events : on_now.more_events ≡ [] = on_now.uses_last (omega arith) in
      record {
        more_events = [];
        more_uses = earlier ∷ on_now.more_uses;
        events_are = on_now.events_are ∙ ap (λ es. items.events ++ es) no_events;
        uses_are = on_now.uses_are ∙ append_assoc items.uses (earlier ∷ []) on_now.more_uses;
        rising = tt;
        within = refl;
        uses_rise = (leb-true _ _ chosen.0, place.0, on_now.uses_rise);
        words_are = rw place.1 (ap (λ ws. (35 ∷ decimal (earlier + 1)) ∷ ws) (on_now.words_are ∙ ap (λ es. map (name_at names) es ++ map use_text on_now.more_uses) no_events));
        uses_last = λ h. refl;
      }

  word-by : (b : Bool) (items after : Items) (byte : ℕ) (bytes : List ℕ) (words : List (List ℕ)) (mid : Items) → byte == 35 ≡ b → (if b then with_use items (use_of number bytes) else with_event events items (place_of names (byte ∷ bytes))) ≡ Some mid → Reads mid after words → Reads items after ((byte ∷ bytes) ∷ words)
  word-by true items after byte bytes words mid is e on =
      subst (λ (first : ℕ). Reads items after ((first ∷ bytes) ∷ words)) (sym (eqb-true byte 35 is)) (use-on items after bytes words (use_of number bytes) mid refl e on)
  word-by false items after byte bytes words mid is e on = event-on items after (byte ∷ bytes) words (place_of names (byte ∷ bytes)) mid refl e on

  word-on : (items after : Items) (word : List ℕ) (words : List (List ℕ)) (mid : Items) → with_word names events number items word ≡ Some mid → Reads mid after words → Reads items after (word ∷ words)
  word-on items after [] words mid e on = event-on items after [] words (place_of names []) mid refl e on
  word-on items after (byte ∷ bytes) words mid e on = word-by (byte == 35) items after byte bytes words mid refl e on

  pub words-on : (words : List (List ℕ)) (items after : Items) → with_words names events number items words ≡ Some after → Reads items after words
  words-on [] items after e =
      let same : items ≡ after = some-same items after e in
      record {
        more_events = [];
        more_uses = [];
        events_are = ap (λ (i : Items). i.events) (sym same) ∙ sym (append-nil items.events);
        uses_are = ap (λ (i : Items). i.uses) (sym same) ∙ sym (append-nil items.uses);
        rising = tt;
        within = refl;
        uses_rise = tt;
        words_are = refl;
        uses_last = λ h. refl;
      }
  words-on (word ∷ words) items after e = at (with_word names events number items word) refl e (λ mid f. words-on words mid after f)
    where
      at : (o : Option Items) → with_word names events number items word ≡ o → option_and_then (λ more. with_words names events number more words) o ≡ Some after → ((mid : Items) → with_words names events number mid words ≡ Some after → Reads mid after words) → Reads items after (word ∷ words)
      at None is f next = absurd (none-some after f)
      at (Some mid) is f next = word-on items after word words mid is (next mid f)

-- what has these events and uses more
pub record Gives (names : List (List ℕ)) (events : NumberSet) (number : ℕ) (items : Items) (words : List (List ℕ)) (es us : List ℕ) : Type 0 where
  pub after : Items
  pub read : with_words names events number items words ≡ Some after
  pub events_are : after.events ≡ items.events ++ es
  pub uses_are : after.uses ≡ items.uses ++ us

begins-no : (word : List ℕ) → is_line_name word ≡ true → begins_use word ≡ false
begins-no [] e = absurd (false≢true e)
begins-no (byte ∷ bytes) e = not-true _ (and_parts _ _ e).0 where
  not-true : (b : Bool) → not b ≡ true → b ≡ false
  not-true true h = absurd (false≢true h)
  not-true false h = refl

module _ (names : List (List ℕ)) (events : NumberSet) (number : ℕ) (few : number ≤ 2 ^ 32) (differ : NamesDiffer names) (line_names : AreLineNames names) where
  use-read : (items : Items) (u : ℕ) → items.next_use ≤ u → u < number → with_word names events number items (use_text u) ≡ Some (record items { uses = items.uses ++ u ∷ []; next_use = u + 1 })
  use-read items u low high =
      ap (with_use items) (use_of-some number u (decimal (u + 1)) few high refl) ∙ ap (λ b. if b then Some (record items { uses = items.uses ++ u ∷ []; next_use = u + 1 }) else None) (le-leb items.next_use u low)

  event-read : (items : Items) (n : ℕ) → items.next_use ≡ 0 → items.next_event ≤ n → n < length names → events n ≡ true → with_word names events number items (name_at names n) ≡ Some (record items { events = items.events ++ n ∷ []; next_event = n + 1 })
  event-read items n first low high has =
      ap (λ b. if b then with_use items (use_of number (drop 1 (name_at names n))) else with_event events items (place_of names (name_at names n))) (begins-no (name_at names n) (line_names n high))
      ∙ ap (with_event events items) (place-some names differ n high)
      ∙ ap (λ b. if b then Some (record items { events = items.events ++ n ∷ []; next_event = n + 1 }) else None) tests
    where
      tests : (items.next_use == 0) && (nat_le items.next_event n && events n) ≡ true
      tests = rw (eq-eqb items.next_use 0 first, le-leb items.next_event n low, has) refl

  pub words-again : (es us : List ℕ) (items : Items) → RisesWithin items.next_event (length names) es → list_all events es ≡ true → RisesWithin items.next_use number us → (0 < items.next_use → es ≡ []) → Gives names events number items (map (name_at names) es ++ map use_text us) es us
  words-again [] [] items r w u last = record { after = items; read = refl; events_are = sym (append-nil items.events); uses_are = sym (append-nil items.uses) }
  words-again [] (n ∷ us) items r w u last =
      let mid : Items = record items { uses = items.uses ++ n ∷ []; next_use = n + 1 } in
      let rest = words-again [] us mid tt refl u.2 (λ h. refl) in
      record {
        after = rest.after;
        read = ap (option_and_then (λ more. with_words names events number more (map use_text us))) (use-read items n u.0 u.1) ∙ rest.read;
        events_are = rest.events_are;
        uses_are = rest.uses_are ∙ append_assoc items.uses (n ∷ []) us;
      }
  words-again (n ∷ es) us items r w u last =
      let parts = and_parts _ _ w in
      let first : items.next_use ≡ 0 = zero-of items.next_use last in
      let mid : Items = record items { events = items.events ++ n ∷ []; next_event = n + 1 } in
      let rest = words-again es us mid r.2 parts.1 u (λ h. absurd (omega (arith, first))) in
      record {
        after = rest.after;
        read = ap (option_and_then (λ more. with_words names events number more (map (name_at names) es ++ map use_text us))) (event-read items n first r.0 r.1 parts.0) ∙ rest.read;
        events_are = rest.events_are ∙ append_assoc items.events (n ∷ []) es;
        uses_are = rest.uses_are;
      }
    where
      zero-of : (k : ℕ) → (0 < k → n ∷ es ≡ []) → k ≡ 0
      zero-of zero h = refl
      zero-of (suc k) h = let e : n ∷ es ≡ [] = h (omega arith) in cc

-- bytes that are no line feed
abbrev pub unfed : ℕ → Bool
unfed byte = not (byte == 10)

list_all-both : (p q : ℕ → Bool) (xs : List ℕ) → list_all (λ x. p x && q x) xs ≡ true → (list_all p xs ≡ true) × (list_all q xs ≡ true)
list_all-both p q [] e = (refl, refl)
list_all-both p q (x ∷ xs) e =
    let parts : (p x && q x ≡ true) × (list_all (λ y. p y && q y) xs ≡ true) = and_parts (p x && q x) (list_all (λ y. p y && q y) xs) e in
    let first : (p x ≡ true) × (q x ≡ true) = and_parts (p x) (q x) parts.0 in
    let rest : (list_all p xs ≡ true) × (list_all q xs ≡ true) = list_all-both p q xs parts.1 in
    (rw (first.0, rest.0) refl, rw (first.1, rest.1) refl)

plain-name : (word : List ℕ) → is_line_name word ≡ true → list_all is_plain word ≡ true
plain-name [] e = absurd (false≢true e)
plain-name (byte ∷ bytes) e = (and_parts _ _ e).1

plain-digit : (n : ℕ) → n < 10 → is_plain (48 + n) ≡ true
plain-digit n l = rw (false_from_ne_true (48 + n == 32) (λ e. let f : 48 + n ≡ 32 = eqb-true _ _ e in omega arith), false_from_ne_true (48 + n == 10) (λ e. let f : 48 + n ≡ 10 = eqb-true _ _ e in omega arith)) refl

plain-decimal : (n : ℕ) → n < 2 ^ 64 → list_all is_plain (decimal n) ≡ true
plain-decimal = decimal_by_steps (λ n ds. list_all is_plain ds ≡ true)
    (λ n l. rw (plain-digit n l) refl)
    (λ n ds l e. list_all-append is_plain ds ((48 + n % 10) ∷ []) ∙ rw (e, plain-digit (n % 10) (omega arith)) refl)

module _ (facts names : List (List ℕ)) (events : NumberSet) (number : ℕ) (few : number < 2 ^ 32) (fact_names : AreLineNames facts) (line_names : AreLineNames names) where
  abbrev ArePlain : List (List ℕ) → Type 0
  ArePlain [] = Unit {0}
  ArePlain (word ∷ words) = (list_all is_plain word ≡ true) × ArePlain words

  plain-uses : (us : List ℕ) (low : ℕ) → RisesWithin low number us → ArePlain (map use_text us)
  plain-uses [] low r = tt
  plain-uses (u ∷ us) low r = (plain-decimal (u + 1) (omega (arith, r.1)), plain-uses us (u + 1) r.2)

  plain-words : (es us : List ℕ) (low : ℕ) → RisesWithin low (length names) es → RisesWithin 0 number us → ArePlain (map (name_at names) es ++ map use_text us)
  plain-words [] us low r u = plain-uses us 0 u
  plain-words (n ∷ es) us low r u = (plain-name (name_at names n) (line_names n r.1), plain-words es us (n + 1) r.2 u)

  unblank-words : (words : List (List ℕ)) → ArePlain words → AreUnblank words
  unblank-words [] p = tt
  unblank-words (word ∷ words) p = ((list_all-both unblank unfed word p.0).0, unblank-words words p.1)

  unfed-words : (words : List (List ℕ)) → ArePlain words → list_all unfed (behind_blanks words) ≡ true
  unfolding behind_blanks
  unfed-words [] p = refl
  unfed-words (word ∷ words) p = list_all-append unfed word (behind_blanks words) ∙ rw ((list_all-both unblank unfed word p.0).1, unfed-words words p.1) refl

  module _ (step : Firing) (has : HasLine facts names events number step) where
    words_plain : ArePlain (name_at facts step.fact ∷ later_words names step)
    words_plain = (plain-name (name_at facts step.fact) (fact_names step.fact has.fact), plain-words step.events step.uses 0 has.rising has.uses)

    number_plain : list_all is_plain (decimal (number + 1)) ≡ true
    number_plain = plain-decimal (number + 1) (omega arith)

    pub line-unfed : list_all unfed (line_of facts names number step) ≡ true
    line-unfed = list_all-append unfed (decimal (number + 1)) (behind_blanks (name_at facts step.fact ∷ later_words names step)) ∙ rw ((list_all-both unblank unfed (decimal (number + 1)) number_plain).1, unfed-words (name_at facts step.fact ∷ later_words names step) words_plain) refl

    line-cut : cut (line_of facts names number step) ≡ record { first = decimal (number + 1); later = name_at facts step.fact ∷ later_words names step }
    line-cut = cut-words (decimal (number + 1)) (name_at facts step.fact ∷ later_words names step) (list_all-both unblank unfed (decimal (number + 1)) number_plain).0 (unblank-words (name_at facts step.fact ∷ later_words names step) words_plain)

    -- a line that a step has is read as that step
    pub line-again : NamesDiffer facts → NamesDiffer names → step_of facts names events number (line_of facts names number step) ≡ Some step
    line-again facts_differ differ =
        let given = words-again names events number (omega arith) differ line_names step.events step.uses no_items has.rising has.within has.uses (λ h. absurd (omega arith)) in
        ap (λ (words : Words). if is_same_text words.first (decimal (number + 1)) then step_of_words facts names events number words.later else None) line-cut
        ∙ ap (λ b. if b then step_of_fact names events number (later_words names step) (place_of facts (name_at facts step.fact)) else None) (of-same (decimal (number + 1)) (decimal (number + 1)) refl)
        ∙ ap (step_of_fact names events number (later_words names step)) (place-some facts facts_differ step.fact has.fact)
        ∙ ap (option_and_then (step_with step.fact)) given.read
        ∙ (λ i. Some (record { fact = step.fact; events = given.events_are i; uses = given.uses_are i }))

-- what is read of a line is a step that has it
module _ (facts names : List (List ℕ)) (events : NumberSet) (number : ℕ) (line : List ℕ) (step : Firing) where
  abbrev IsOfLine : Type 0
  IsOfLine = HasLine facts names events number step × (line ≡ line_of facts names number step)

  with-items : (fact : ℕ) (name : List ℕ) (words : List (List ℕ)) (o : Option Items) → (cut line).first ≡ decimal (number + 1) → (cut line).later ≡ name ∷ words → place_of facts name ≡ Some fact → with_words names events number no_items words ≡ o → option_and_then (step_with fact) o ≡ Some step → IsOfLine
  with-items fact name words None first later is read e = absurd (none-some step e)
  with-items fact name words (Some items) first later is read e =
      let on = words-on names events number words no_items items read in
      let place = place-sound facts name fact is in
      let made : Firing = record { fact = fact; events = on.more_events; uses = on.more_uses } in
      let same : made ≡ step = (λ i. record { fact = fact; events = sym on.events_are i; uses = sym on.uses_are i }) ∙ some-same _ _ e in
      subst (λ (s : Firing). HasLine facts names events number s × (line ≡ line_of facts names number s)) same (
        record { fact = place.0; rising = on.rising; within = on.within; uses = on.uses_rise },
        cut-joined line ∙ ap (λ w. w ++ behind_blanks (cut line).later) first ∙ ap (λ ws. decimal (number + 1) ++ behind_blanks ws) (later ∙ ap (λ w. w ∷ words) place.1 ∙ ap (λ ws. name_at facts fact ∷ ws) on.words_are),
      )

  with-fact : (name : List ℕ) (words : List (List ℕ)) (o : Option ℕ) → (cut line).first ≡ decimal (number + 1) → (cut line).later ≡ name ∷ words → place_of facts name ≡ o → step_of_fact names events number words o ≡ Some step → IsOfLine
  with-fact name words None first later is e = absurd (none-some step e)
  with-fact name words (Some fact) first later is e = with-items fact name words (with_words names events number no_items words) first later is refl e

  with-later : (later : List (List ℕ)) → (cut line).first ≡ decimal (number + 1) → (cut line).later ≡ later → step_of_words facts names events number later ≡ Some step → IsOfLine
  with-later [] first is e = absurd (none-some step e)
  with-later (name ∷ words) first is e = with-fact name words (place_of facts name) first is refl e

  with-number : (b : Bool) → is_same_text (cut line).first (decimal (number + 1)) ≡ b → (if b then step_of_words facts names events number (cut line).later else None) ≡ Some step → IsOfLine
  with-number true is e = with-later (cut line).later (same-of _ _ is) refl e
  with-number false is e = absurd (none-some step e)

  pub line-sound : step_of facts names events number line ≡ Some step → IsOfLine
  line-sound e = with-number (is_same_text (cut line).first (decimal (number + 1))) refl e

front-by : (b : Bool) (byte k : ℕ) → b ≡ true → cond b (1 + k) 0 ≡ suc k
front-by true byte k e = let s : 1 + k ≡ suc k = omega arith in s
front-by false byte k e = absurd (false≢true e)

-- the first line feed behind bytes that are none
pub fed-at : (line rest : List ℕ) → list_all unfed line ≡ true → prefix_len unfed (line ++ 10 ∷ rest) ≡ length line
fed-at [] rest e = refl
fed-at (byte ∷ bytes) rest e =
    let parts = and_parts (unfed byte) (list_all unfed bytes) e in
    front-by (unfed byte) byte (prefix_len unfed (bytes ++ 10 ∷ rest)) parts.0 ∙ (let f : suc (prefix_len unfed (bytes ++ 10 ∷ rest)) ≡ suc (length bytes) = ap suc (fed-at bytes rest parts.1) in f ∙ (let g : suc (length bytes) ≡ length (byte ∷ bytes) = omega arith in g))

pub take-front : (xs ys : List ℕ) → take (length xs) (xs ++ ys) ≡ xs
take-front [] ys = refl
take-front (x ∷ xs) ys = ap (λ zs. x ∷ zs) (take-front xs ys)
