-- A loop that reads parts one after the other.
use Rattle.std.proofs.Common.{◌≡◌, ℕ, zero, suc, ◌<◌, Bool, true, false, List, [], ◌∷◌, ◌++◌, length, Ok, nat_lt, refl, sym, ◌∙◌, ap, arith, subst, append_assoc, lt-ltb, ltb-true}
use Rattle.std.specs.Prelude.{if◌then◌else◌}
use Rattle.aadl_syntax.specs.declared.token.Token.{Token}
use Rattle.grammar_rules.specs.declared.reader.Reader.{Reader}
use Rattle.grammar_rules.specs.Rules.{Test, Rule, repeats, begin, Reads}
use Rattle.grammar_rules.specs.Running.{Outcome, read, dead, looked, followed, repeated, run}
use Rattle.grammar_rules.specs.inner.Reader.{Gives, Begins}
use Rattle.grammar_rules.specs.Parts.{parts_after}
use Rattle.grammar_rules.specs.inner.Parts.{TakesTokens}
use Rattle.grammar_rules.proofs.Laws.{IsOutcome, is_outcome}

-- what was collected before, and what is still read
abbrev pub with_front : {A : Type 0} → List A → Outcome (List A) → Outcome (List A)
with_front front o = followed o (λ values rest left. read (front ++ values) rest left)

module _ {A : Type 0} (tests : List Test) (part : List Token → ℕ → Outcome A) where
  -- what follows a part, in so many turns
  abbrev after_part : ℕ → List Token → A → List Token → ℕ → Outcome (List A)
  after_part turns tokens value rest left =
      if nat_lt (length rest) (length tokens) then followed (repeated tests part turns rest left) (λ values end last. read (value ∷ values) end last) else dead left

  same_turn : (turns more : ℕ) (tokens : List Token) (unseen : ℕ)
      → ((middle : List Token) (left : ℕ) → length middle < length tokens → repeated tests part turns middle left ≡ repeated tests part more middle left)
      → (b : Bool) (o : Outcome A)
      → (if b then followed o (after_part turns tokens) else read [] tokens unseen) ≡ (if b then followed o (after_part more tokens) else read [] tokens unseen)
  same_turn turns more tokens unseen same false o = refl
  same_turn turns more tokens unseen same true (dead left) = refl
  same_turn turns more tokens unseen same true (read x middle left) = either (nat_lt (length middle) (length tokens)) refl where
    either : (b : Bool) → nat_lt (length middle) (length tokens) ≡ b
        → (if b then followed (repeated tests part turns middle left) (λ values end last. read (x ∷ values) end last) else dead left)
        ≡ (if b then followed (repeated tests part more middle left) (λ values end last. read (x ∷ values) end last) else dead left)
    either true lt = ap (λ (o : Outcome (List A)). followed o (λ values end last. read (x ∷ values) end last)) (same middle left (ltb-true (length middle) (length tokens) lt))
    either false lt = refl

  -- more turns than tokens change nothing
  more_turns : (turns more : ℕ) (tokens : List Token) (unseen : ℕ) → length tokens < turns → length tokens < more → repeated tests part turns tokens unseen ≡ repeated tests part more tokens unseen
  more_turns zero more tokens unseen h k = absurd (omega arith)
  more_turns (suc turns) zero tokens unseen h k = absurd (omega arith)
  more_turns (suc turns) (suc more) tokens unseen h k =
      same_turn turns more tokens (looked tests tokens unseen) (λ middle left l. more_turns turns more middle left (omega arith) (omega arith)) (begin tests tokens) (part tokens (looked tests tokens unseen))

-- where a part begins and reads, it stands before what else is read
turn : {A : Type 0} (file : ℕ) (tests : List Test) (part : Rule A) (tokens : List Token) (unseen : ℕ) (x : A) (middle : List Token) (left : ℕ)
    → begin tests tokens ≡ true → run file part tokens (looked tests tokens unseen) ≡ read x middle left → length middle < length tokens
    → run file (repeats tests part) tokens unseen ≡ with_front (x ∷ []) (run file (repeats tests part) middle left)
turn {A} file tests part tokens unseen x middle left b e lt = begins ∙ reads ∙ shorter ∙ same where
  P : List Token → ℕ → Outcome A
  P = run file part

  begins : run file (repeats tests part) tokens unseen ≡ followed (P tokens (looked tests tokens unseen)) (after_part tests P (length tokens) tokens)
  begins = ap (λ (c : Bool). if c then followed (P tokens (looked tests tokens unseen)) (after_part tests P (length tokens) tokens) else read [] tokens (looked tests tokens unseen)) b

  reads : followed (P tokens (looked tests tokens unseen)) (after_part tests P (length tokens) tokens) ≡ after_part tests P (length tokens) tokens x middle left
  reads = ap (λ (o : Outcome A). followed o (after_part tests P (length tokens) tokens)) e

  shorter : after_part tests P (length tokens) tokens x middle left ≡ with_front (x ∷ []) (repeated tests P (length tokens) middle left)
  shorter = ap (λ (c : Bool). if c then followed (repeated tests P (length tokens) middle left) (λ values end last. read (x ∷ values) end last) else dead left) (lt-ltb (length middle) (length tokens) lt)

  same : with_front (x ∷ []) (repeated tests P (length tokens) middle left) ≡ with_front (x ∷ []) (run file (repeats tests part) middle left)
  same = ap (with_front (x ∷ [])) (more_turns tests P (length tokens) (suc (length middle)) middle left lt (omega arith))

with_front-with_front : {A : Type 0} (front : List A) (x : A) (o : Outcome (List A)) → with_front front (with_front (x ∷ []) o) ≡ with_front (front ++ x ∷ []) o
with_front-with_front front x (dead left) = refl
with_front-with_front front x (read values rest left) = ap (λ (vs : List _). read vs rest left) (sym (append_assoc front (x ∷ []) values))

-- What was read from start to now, after the parts before, is the front of what the parts from start on read as.
pub record Collects {A : Type 0} (tests : List Test) (part : Rule A) (before parts : List A) (start now : Reader) : Type 0 where
  pub same_file : now.file ≡ start.file
  pub so_far : run start.file (parts_after parts tests part) now.tokens now.unseen ≡ run start.file (parts_after before tests part) start.tokens start.unseen

pub run-same : {A : Type 0} (rule : Rule A) (f g : ℕ) (ts us : List Token) (m n : ℕ) → f ≡ g → ts ≡ us → m ≡ n → run f rule ts m ≡ run g rule us n
run-same rule f g ts us m n p q r = ap (λ f. run f rule ts m) p ∙ ap (λ (ts : List Token). run g rule ts m) q ∙ ap (λ n. run g rule us n) r

-- what an outcome is, of the value that was read
pub reads_so : {A : Type 0} (file : ℕ) (rule : Rule A) (tokens : List Token) (unseen : ℕ) (value : A) (rest : List Token) (left : ℕ) → run file rule tokens unseen ≡ read value rest left → Reads file rule tokens value rest
reads_so file rule tokens unseen value rest left e = let h = subst (λ o. IsOutcome file rule tokens unseen o) e (is_outcome file rule tokens unseen) in h.reads

module _ {A : Type 0} {tests : List Test} {part : Rule A} {before parts : List A} {start now next : Reader} where
  -- what the part is read as, after the look at its beginning
  part-same : (b : Bool) → Collects tests part before parts start now → Begins b 0 tests now next
      → run start.file part now.tokens (looked tests now.tokens now.unseen) ≡ run next.file part next.tokens next.unseen
  part-same b so looks = run-same part _ _ _ _ _ _ (sym so.same_file ∙ sym looks.same_file) (sym looks.same_tokens) (sym looks.looked)

  pub goes_on : {after : Reader} {x : A} → TakesTokens part → Collects tests part before parts start now → Begins true 0 tests now next → Gives (Ok x) part next after → Collects tests part before (parts ++ x ∷ []) start after
  goes_on {after} {x} takes so looks gave =
      let e = part-same true so looks ∙ gave.answer in
      let lt = takes.fewer start.file now.tokens x after.tokens (reads_so _ part _ _ _ _ _ e) in
      let t = turn start.file tests part now.tokens now.unseen x after.tokens after.unseen (sym looks.answer) e lt in
      record {
        same_file = gave.same_file ∙ looks.same_file ∙ so.same_file;
        so_far = sym (with_front-with_front parts x _) ∙ ap (with_front parts) (sym t) ∙ so.so_far;
      }

-- a part that is read leaves fewer tokens
pub smaller : {A : Type 0} {tests : List Test} {part : Rule A} {now next after : Reader} {x : A} → TakesTokens part → Begins true 0 tests now next → Gives (Ok x) part next after → length after.tokens < length now.tokens
smaller {part = part} {next = next} {after = after} {x = x} takes looks gave =
    let lt = takes.fewer next.file next.tokens x after.tokens (reads_so _ part _ _ _ _ _ gave.answer) in
    omega (arith, ap length looks.same_tokens)
