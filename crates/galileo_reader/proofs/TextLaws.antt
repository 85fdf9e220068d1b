-- A text has one reading at most, and none where it is bad.
use Rattle.std.proofs.Common.{ℕ, Bool, true, false, ◌+◌, ◌≡◌, List, [], ◌∷◌, length, drop, Some, inl, inr, ap, ◌∙◌, sym, subst, refl}
use Rattle.galileo_reader.specs.declared.token.Mark.{Mark}
use Rattle.galileo_reader.specs.declared.statement.Statement.{Statement}
use Rattle.galileo_reader.specs.Marks.{LineMarks, gap_len}
use Rattle.galileo_reader.specs.Statements.{AreLines, HasLine, IsBadAt, IsLine, statement_of}
use Rattle.galileo_reader.proofs.LineLaws.{one-line}
use Rattle.galileo_reader.proofs.Ends.{none-at_end}
use Rattle.galileo_reader.proofs.GapLaws.{ends-so, first-none}

same-statement : (a b : Statement) → Some a ≡ Some b → a ≡ b
same-statement a b e = cc

one-said : (wide : Bool) (text : List ℕ) (at : ℕ) (a b : Statement) (m n : ℕ) → HasLine wide text at a m → HasLine wide text at b n → (a ≡ b) × (m ≡ n)
one-said wide text at a b m n x y =
    let same = one-line wide text at x.marks y.marks m n x.line y.line in
    (same-statement a b (sym x.says ∙ ap (statement_of text) same.0 ∙ y.says), same.1)

pub one-statement : (wide : Bool) (text : List ℕ) (at : ℕ) (a b : Statement) (m n : ℕ) → IsLine wide text at a m → IsLine wide text at b n → (a ≡ b) × (m ≡ n)
one-statement false text at a b m n x y = one-said false text at a b m n x y
one-statement true text at a b m n (inl x) (inl y) = one-said false text at a b m n x y
one-statement true text at a b m n (inl x) (inr (none, y)) = absurd (none a m x)
one-statement true text at a b m n (inr (none, x)) (inl y) = absurd (none b n y)
one-statement true text at a b m n (inr (none, x)) (inr (never, y)) = one-said true text at a b m n x y

no-line-said : (wide : Bool) (text : List ℕ) (at : ℕ) (s : Statement) (next : ℕ) → at + gap_len wide (drop at text) ≡ length text → HasLine wide text at s next → ⊥
no-line-said wide text at s next end line = by line.marks line.line
  where
    by : (marks : List Mark) → LineMarks wide text at marks next → ⊥
    by [] (x, e, f, p) = none-at_end wide text at x end e
    by (x ∷ xs) (e, f, rest) = none-at_end wide text at x end e

-- where nothing is left but what may stand between tokens no line stands
pub no-line-left : (wide : Bool) (text : List ℕ) (at : ℕ) (s : Statement) (next : ℕ) → at + gap_len wide (drop at text) ≡ length text → IsLine wide text at s next → ⊥
no-line-left false text at s next end line = no-line-said false text at s next end line
no-line-left true text at s next end (inl line) = by line.marks line.line
  where
    by : (marks : List Mark) → LineMarks false text at marks next → ⊥
    by [] (x, e, f, p) = first-none text at x end e
    by (x ∷ xs) (e, f, rest) = first-none text at x end e
no-line-left true text at s next end (inr (none, line)) = no-line-said true text at s next end line

pub one-reading : (wide : Bool) (text : List ℕ) (at : ℕ) (a b : List Statement) → AreLines wide text at a → AreLines wide text at b → a ≡ b
one-reading wide text at [] [] x y = refl
one-reading wide text at [] (s ∷ ss) x (next, line, rest) = absurd (no-line-left wide text at s next x line)
one-reading wide text at (s ∷ ss) [] (next, line, rest) y = absurd (no-line-left wide text at s next y line)
one-reading wide text at (s ∷ ss) (t ∷ ts) (m, line, rest) (n, other, more) =
    let same = one-statement wide text at s t m n line other in
    let tails = one-reading wide text m ss ts rest (subst (λ k. AreLines wide text k ts) (sym same.1) more) in
    λ i. same.0 i ∷ tails i

pub bad-apart : (wide : Bool) (text : List ℕ) (at : ℕ) (a b : List Statement) (bad : ℕ) → AreLines wide text at a → IsBadAt wide text at b bad → ⊥
bad-apart wide text at [] [] bad x (here, some, none) = some (here ∙ x)
bad-apart wide text at [] (s ∷ ss) bad x (next, line, rest) = no-line-left wide text at s next x line
bad-apart wide text at (s ∷ ss) [] bad (next, line, rest) (here, some, none) = none s next line
bad-apart wide text at (s ∷ ss) (t ∷ ts) bad (m, line, rest) (n, other, more) =
    let same = one-statement wide text at s t m n line other in
    bad-apart wide text m ss ts bad rest (subst (λ k. IsBadAt wide text k ts bad) (sym same.1) more)

pub one-bad : (wide : Bool) (text : List ℕ) (at : ℕ) (a b : List Statement) (m n : ℕ) → IsBadAt wide text at a m → IsBadAt wide text at b n → m ≡ n
one-bad wide text at [] [] m n (here, some, none) (there, other, never) = here ∙ sym there
one-bad wide text at [] (s ∷ ss) m n (here, some, none) (next, line, rest) = absurd (none s next line)
one-bad wide text at (s ∷ ss) [] m n (next, line, rest) (here, some, none) = absurd (none s next line)
one-bad wide text at (s ∷ ss) (t ∷ ts) m n (j, line, rest) (k, other, more) =
    let same = one-statement wide text at s t j k line other in
    one-bad wide text j ss ts m n rest (subst (λ x. IsBadAt wide text x ts n) (sym same.1) more)

-- ---- both readings

-- what the first reading reads the wide one reads as the same
pub lines-so : (text : List ℕ) (at : ℕ) (lines : List Statement) → AreLines false text at lines → AreLines true text at lines
lines-so text at [] end = ends-so text at end
lines-so text at (s ∷ ss) (next, line, rest) = (next, inl line, lines-so text next ss rest)
