-- The reading of a whole text.
use Rattle.std.proofs.Common.{◌≡◌, ℕ, ◌-◌, List, [], length, Ok, Err, refl, sym, ◌∙◌, subst, arith}
use Rattle.aadl_syntax.specs.declared.token.Token.{Token}
use Rattle.plain_values.specs.declared.refusal.Stop.{Stop}
use Rattle.plain_values.specs.declared.refusal.Stop.TheVariants as stop
use Rattle.grammar_rules.specs.declared.reader.ReadError.TheVariants.{Refused}
use Rattle.grammar_rules.specs.declared.reader.Reader.{Reader}
use Rattle.grammar_rules.specs.Rules.{Rule, gives, ends, joins, Reads, Dead}
use Rattle.grammar_rules.specs.Running.{Outcome, read, dead, run}
use Rattle.grammar_rules.specs.inner.Reader.{Gives}
use Rattle.grammar_rules.specs.Texts.{syntax_error, token_place}
use Rattle.grammar_rules.specs.inner.Texts.{StopsDead}
use Rattle.grammar_rules.proofs.Looks.{SameSeen}
use Rattle.grammar_rules.proofs.Laws.{IsOutcome, is_outcome}

-- a rule up to the end of the tokens
abbrev whole : {A : Type 0} → Rule A → Rule A
whole rule = joins rule (λ value. joins ends (λ _. gives value))

-- A reader before these tokens of a file.
pub record Before (file : ℕ) (tokens : List Token) (start : Reader) : Type 0 where
  pub file_is : start.file ≡ file
  pub tokens_are : start.tokens ≡ tokens

at_start : {file : ℕ} {tokens : List Token} {start : Reader} → Before file tokens start → (P : ℕ → List Token → Type 0) → P start.file start.tokens → P file tokens
at_start {file} {tokens} {start} before P p = subst (λ (ts : List Token). P file ts) before.tokens_are (subst (λ f. P f start.tokens) before.file_is p)

module _ {A : Type 0} {rule : Rule A} {file : ℕ} {tokens : List Token} {start new : Reader} (before : Before file tokens start) where
  pub is_found : {value : A} → Gives (Ok value) (whole rule) start new → Reads file rule tokens value []
  is_found {value} gave =
      let h = subst (λ o. IsOutcome start.file (whole rule) start.tokens start.unseen o) gave.answer (is_outcome start.file (whole rule) start.tokens start.unseen) in
      let r = h.reads in
      let s = subst (λ (ts : List Token). Reads start.file rule start.tokens r.0 ts) r.3.2.0 r.2 in
      at_start before (λ f ts. Reads f rule ts value []) (subst (λ (v : A). Reads start.file rule start.tokens v []) (sym r.3.3.0) s)

  pub is_only : {value : A} → Gives (Ok value) (whole rule) start new → (other : A) → Reads file rule tokens other [] → value ≡ other
  is_only {value} gave other r =
      let h = subst (λ o. IsOutcome start.file (whole rule) start.tokens start.unseen o) gave.answer (is_outcome start.file (whole rule) start.tokens start.unseen) in
      let g = at_start before (λ f ts. Reads f (whole rule) ts other [] → other ≡ value) (λ s. (h.alone start.tokens (record { same = λ k w. refl }) other [] s).0) in
      sym (g (other, [], r, (tt, [], (refl, refl), (refl, refl))))

  pub is_dead : Gives (Err Refused) (whole rule) start new → Dead file rule tokens (length tokens - new.unseen)
  is_dead gave others agree value r =
      let h = subst (λ o. IsOutcome start.file (whole rule) start.tokens start.unseen o) gave.answer (is_outcome start.file (whole rule) start.tokens start.unseen) in
      let s : SameSeen new.unseen tokens others = record { same = λ k w. agree k (omega arith) } in
      let g = at_start before (λ f ts. SameSeen new.unseen ts others → Reads f (whole rule) others value [] → ⊥) (λ same q. h.none others same value [] q) in
      g s (value, [], r, (tt, [], (refl, refl), (refl, refl)))

  pub is_none : Gives (Err Refused) (whole rule) start new → (other : A) → Reads file rule tokens other [] → ⊥
  is_none gave other r = is_dead gave tokens (λ k w. refl) other r

pub reads_once : {A : Type 0} (file : ℕ) (rule : Rule A) (tokens : List Token) (value other : A) (rest end : List Token) → Reads file rule tokens value rest → Reads file rule tokens other end → (value ≡ other) × (rest ≡ end)
reads_once {A} file rule tokens value other rest end r s = either (run file rule tokens 0) (is_outcome file rule tokens 0) where
  either : (o : Outcome A) → IsOutcome file rule tokens 0 o → (value ≡ other) × (rest ≡ end)
  either (dead left) h = absurd (h.none tokens (record { same = λ k w. refl }) value rest r)
  either (read x middle left) h =
      let p = h.alone tokens (record { same = λ k w. refl }) value rest r in
      let q = h.alone tokens (record { same = λ k w. refl }) other end s in
      (p.0 ∙ sym q.0, p.1 ∙ sym q.1)

-- the refusal of a text that is dead where it was last looked at
pub stops_dead : {A : Type 0} (file : ℕ) (rule : Rule A) (tokens : List Token) (end unseen left : ℕ) (its : Stop) → unseen ≡ left → its ≡ stop.Refused (syntax_error file (token_place tokens end (length tokens - unseen))) → Dead file rule tokens (length tokens - left) → StopsDead file rule tokens end its
stops_dead file rule tokens end unseen left its same is at_it =
    subst (λ (s : Stop). StopsDead file rule tokens end s) (sym is) (length tokens - unseen, refl, subst (λ n. Dead file rule tokens (length tokens - n)) (sym same) at_it)
