-- The loop over the lines of a text.
use Rattle.std.proofs.Common.{ℕ, Bool, true, false, ◌+◌, ◌≡◌, ◌≢◌, ◌<◌, List, [], ◌∷◌, ◌++◌, length, drop, Option, Some, None, Result, Ok, Err, IfOk, MatchOption, inl, inr, ⊎_elim, ◌∙◌, sym, subst, append_assoc, append-nil, arith}
use Rattle.galileo_reader.specs.declared.statement.Statement.{Statement}
use Rattle.galileo_reader.specs.Marks.{gap_len}
use Rattle.galileo_reader.specs.Statements.{AreLines, HasLine, HasNoLine, IsBadAt, IsLine, IsNoLine}

-- ---- one line

-- a line of the first reading is one of each
pub first-line : (wide : Bool) (text : List ℕ) (at : ℕ) (statement : Statement) (next : ℕ) → HasLine false text at statement next → IsLine wide text at statement next
first-line false text at statement next line = line
first-line true text at statement next line = inl line

-- where the first reading has none, the lines are those of the wide one
pub wide-answer : {E : Type 0} (wide : Bool) (text : List ℕ) (at : ℕ) (result : Result (Option (Statement × ℕ)) E) → wide ≡ true → HasNoLine false text at
    → IfOk result (λ read. MatchOption read (HasNoLine true text at) (λ line. HasLine true text at line.0 line.1))
    → IfOk result (λ read. MatchOption read (IsNoLine wide text at) (λ line. IsLine wide text at line.0 line.1))
wide-answer true text at (Ok (Some line)) chosen none is = inr (none, is)
wide-answer true text at (Ok None) chosen none never = λ statement next line. ⊎_elim (λ first. none statement next first) (λ other. never statement next other.1) line
wide-answer true text at (Err error) chosen none is = tt
wide-answer false text at result chosen none is = absurd (never chosen)
  where
    never : false ≡ true → ⊥
    never h = cc

-- ---- all lines

-- the lines so far: what follows at the place completes the text, or makes it bad
pub record LinesSoFar (wide : Bool) (text : List ℕ) (at : ℕ) (lines : List Statement) : Type 0 where
  pub good : (more : List Statement) → AreLines wide text at more → AreLines wide text 0 (lines ++ more)
  pub bad : (more : List Statement) (place : ℕ) → IsBadAt wide text at more place → IsBadAt wide text 0 (lines ++ more) place

pub no-lines : (wide : Bool) (text : List ℕ) (lines : List Statement) → lines ≡ [] → LinesSoFar wide text 0 lines
no-lines wide text lines none = subst (LinesSoFar wide text 0) (sym none) (record { good = λ more are. are; bad = λ more place is. is })

pub next-line : (wide : Bool) (text : List ℕ) (at next : ℕ) (lines new : List Statement) (statement : Statement) → new ≡ lines ++ statement ∷ [] → IsLine wide text at statement next → LinesSoFar wide text at lines → LinesSoFar wide text next new
next-line wide text at next lines new statement made line so =
    subst (LinesSoFar wide text next) (sym made) (record {
      good = λ more are. subst (AreLines wide text 0) (sym (append_assoc lines (statement ∷ []) more)) (so.good (statement ∷ more) (next, line, are));
      bad = λ more place is. subst (λ all. IsBadAt wide text 0 all place) (sym (append_assoc lines (statement ∷ []) more)) (so.bad (statement ∷ more) place (next, line, is));
    })

pub all-lines : (wide : Bool) (text : List ℕ) (at start : ℕ) (lines : List Statement) → start ≡ at + gap_len wide (drop at text) → start ≡ length text → LinesSoFar wide text at lines → AreLines wide text 0 lines
all-lines wide text at start lines is end so = subst (AreLines wide text 0) (append-nil lines) (so.good [] (sym is ∙ end))

pub bad-line : (wide : Bool) (text : List ℕ) (at start : ℕ) (lines : List Statement) → start ≡ at + gap_len wide (drop at text) → start < length text → IsNoLine wide text at → LinesSoFar wide text at lines → (all : List Statement) × IsBadAt wide text 0 all start
bad-line wide text at start lines is less none so = (lines ++ [], so.bad [] start (is, before start (length text) less, none))
  where
    before : (a b : ℕ) → a < b → a ≢ b
    before a b h e = omega arith
