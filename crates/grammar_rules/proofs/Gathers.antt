-- A loop that reads parts one after the other, each of which goes on from the value of those before it.
use Rattle.std.proofs.Common.{◌≡◌, ℕ, zero, suc, ◌<◌, Bool, true, false, List, length, Ok, nat_lt, refl, sym, ◌∙◌, ap, arith, lt-ltb, ltb-true}
use Rattle.std.specs.Prelude.{if◌then◌else◌}
use Rattle.aadl_syntax.specs.declared.token.Token.{Token}
use Rattle.grammar_rules.specs.declared.reader.Reader.{Reader}
use Rattle.grammar_rules.specs.Rules.{Test, Rule, gathers, begin}
use Rattle.grammar_rules.specs.Running.{Outcome, read, dead, looked, followed, gathered, run}
use Rattle.grammar_rules.specs.inner.Reader.{Gives, Begins}
use Rattle.grammar_rules.specs.inner.Parts.{TakesTokens}
use Rattle.grammar_rules.proofs.Loops.{reads_so, run-same}

module _ {A : Type 0} (tests : List Test) (part : A → List Token → ℕ → Outcome A) where
  -- what follows a part, in so many turns
  abbrev after_part : ℕ → List Token → A → List Token → ℕ → Outcome A
  after_part turns tokens value rest left = if nat_lt (length rest) (length tokens) then gathered tests part turns value rest left else dead left

  same_turn : (turns more : ℕ) (start : A) (tokens : List Token) (unseen : ℕ)
      → ((x : A) (middle : List Token) (left : ℕ) → length middle < length tokens → gathered tests part turns x middle left ≡ gathered tests part more x middle left)
      → (b : Bool) (o : Outcome A)
      → (if b then followed o (after_part turns tokens) else read start tokens unseen) ≡ (if b then followed o (after_part more tokens) else read start tokens unseen)
  same_turn turns more start tokens unseen same false o = refl
  same_turn turns more start tokens unseen same true (dead left) = refl
  same_turn turns more start tokens unseen same true (read x middle left) = either (nat_lt (length middle) (length tokens)) refl where
    either : (b : Bool) → nat_lt (length middle) (length tokens) ≡ b → (if b then gathered tests part turns x middle left else dead left) ≡ (if b then gathered tests part more x middle left else dead left)
    either true lt = same x middle left (ltb-true (length middle) (length tokens) lt)
    either false lt = refl

  -- more turns than tokens change nothing
  more_turns : (turns more : ℕ) (start : A) (tokens : List Token) (unseen : ℕ) → length tokens < turns → length tokens < more → gathered tests part turns start tokens unseen ≡ gathered tests part more start tokens unseen
  more_turns zero more start tokens unseen h k = absurd (omega arith)
  more_turns (suc turns) zero start tokens unseen h k = absurd (omega arith)
  more_turns (suc turns) (suc more) start tokens unseen h k =
      same_turn turns more start tokens (looked tests tokens unseen) (λ x middle left l. more_turns turns more x middle left (omega arith) (omega arith)) (begin tests tokens) (part start tokens (looked tests tokens unseen))

-- where a part begins and reads, the others go on from its value
turn : {A : Type 0} (file : ℕ) (tests : List Test) (part : A → Rule A) (start : A) (tokens : List Token) (unseen : ℕ) (x : A) (middle : List Token) (left : ℕ)
    → begin tests tokens ≡ true → run file (part start) tokens (looked tests tokens unseen) ≡ read x middle left → length middle < length tokens
    → run file (gathers tests part start) tokens unseen ≡ run file (gathers tests part x) middle left
turn {A} file tests part start tokens unseen x middle left b e lt = begins ∙ reads ∙ shorter ∙ same where
  P : A → List Token → ℕ → Outcome A
  P = λ x. run file (part x)

  begins : run file (gathers tests part start) tokens unseen ≡ followed (P start tokens (looked tests tokens unseen)) (after_part tests P (length tokens) tokens)
  begins = ap (λ (c : Bool). if c then followed (P start tokens (looked tests tokens unseen)) (after_part tests P (length tokens) tokens) else read start tokens (looked tests tokens unseen)) b

  reads : followed (P start tokens (looked tests tokens unseen)) (after_part tests P (length tokens) tokens) ≡ after_part tests P (length tokens) tokens x middle left
  reads = ap (λ (o : Outcome A). followed o (after_part tests P (length tokens) tokens)) e

  shorter : after_part tests P (length tokens) tokens x middle left ≡ gathered tests P (length tokens) x middle left
  shorter = ap (λ (c : Bool). if c then gathered tests P (length tokens) x middle left else dead left) (lt-ltb (length middle) (length tokens) lt)

  same : gathered tests P (length tokens) x middle left ≡ run file (gathers tests part x) middle left
  same = more_turns tests P (length tokens) (suc (length middle)) x middle left lt (omega arith)

-- What is gathered from now on, after the value so far, is what is gathered from start on.
pub record Carries {A : Type 0} (tests : List Test) (part : A → Rule A) (before value : A) (start now : Reader) : Type 0 where
  pub same_file : now.file ≡ start.file
  pub so_far : run start.file (gathers tests part value) now.tokens now.unseen ≡ run start.file (gathers tests part before) start.tokens start.unseen

module _ {A : Type 0} {tests : List Test} {part : A → Rule A} {before value : A} {start now next : Reader} where
  -- what the part is read as, after the look at its beginning
  part-same : (b : Bool) → Carries tests part before value start now → Begins b 0 tests now next
      → run start.file (part value) now.tokens (looked tests now.tokens now.unseen) ≡ run next.file (part value) next.tokens next.unseen
  part-same b so looks = run-same (part value) _ _ _ _ _ _ (sym so.same_file ∙ sym looks.same_file) (sym looks.same_tokens) (sym looks.looked)

  pub carries_on : {after : Reader} {x : A} → TakesTokens (part value) → Carries tests part before value start now → Begins true 0 tests now next → Gives (Ok x) (part value) next after → Carries tests part before x start after
  carries_on {after} {x} takes so looks gave =
      let e = part-same true so looks ∙ gave.answer in
      let lt = takes.fewer start.file now.tokens x after.tokens (reads_so _ (part value) _ _ _ _ _ e) in
      let t = turn start.file tests part value now.tokens now.unseen x after.tokens after.unseen (sym looks.answer) e lt in
      record {
        same_file = gave.same_file ∙ looks.same_file ∙ so.same_file;
        so_far = sym t ∙ so.so_far;
      }
