-- The tokens of a line: there is one line at a place at most, and the loop that reads them.
use Rattle.std.proofs.Common.{ℕ, Bool, ◌+◌, ◌≡◌, true, false, List, [], ◌∷◌, ◌++◌, Some, None, ap, ◌∙◌, sym, subst, refl, append_assoc, append-nil}
use Rattle.std.proofs.lemmas.Bool.{false≢true}
use Rattle.galileo_reader.specs.declared.token.Mark.{Mark}
use Rattle.galileo_reader.specs.Marks.{LineMarks, is_end, mark_from}

same-mark : (a b : Mark) → Some a ≡ Some b → a ≡ b
same-mark a b e = cc

no-mark : (a : Mark) → None ≡ Some a → ⊥
no-mark a e = cc

one-mark : (wide : Bool) (text : List ℕ) (at : ℕ) (a b : Mark) → mark_from wide text at ≡ Some a → mark_from wide text at ≡ Some b → a ≡ b
one-mark wide text at a b e f = same-mark a b (sym e ∙ f)

clash : (wide : Bool) (text : List ℕ) (at : ℕ) (a b : Mark) → mark_from wide text at ≡ Some a → mark_from wide text at ≡ Some b → is_end a.token ≡ true → is_end b.token ≡ false → ⊥
clash wide text at a b e f is_a not_b = false≢true (sym not_b ∙ ap (λ (m : Mark). is_end m.token) (sym (one-mark wide text at a b e f)) ∙ is_a)

behind : Mark → ℕ
behind mark = mark.at + mark.len

-- at a place one line of tokens stands at most
pub one-line : (wide : Bool) (text : List ℕ) (at : ℕ) (a b : List Mark) (m n : ℕ) → LineMarks wide text at a m → LineMarks wide text at b n → (a ≡ b) × (m ≡ n)
one-line wide text at [] [] m n (x, e, f, p) (y, g, h, q) = (refl, p ∙ ap (λ (z : Mark). z.at + z.len) (one-mark wide text at x y e g) ∙ sym q)
one-line wide text at [] (y ∷ ys) m n (x, e, f, p) (g, h, rest) = absurd (clash wide text at x y e g f h)
one-line wide text at (x ∷ xs) [] m n (e, f, rest) (y, g, h, q) = absurd (clash wide text at y x g e h f)
one-line wide text at (x ∷ xs) (y ∷ ys) m n (e, f, rest) (g, h, more) =
    let same : x ≡ y = one-mark wide text at x y e g in
    let next = one-line wide text (x.at + x.len) xs ys m n rest (subst (λ (z : Mark). LineMarks wide text (z.at + z.len) ys n) (sym same) more) in
    ((λ i. same i ∷ next.0 i), next.1)

-- the tokens of a line so far, from its place `at` to `place`: what follows there completes the line, and the line is completed so
pub record SoFar (wide : Bool) (text : List ℕ) (at place : ℕ) (marks : List Mark) : Type 0 where
  pub front : (more : List Mark) (next : ℕ) → LineMarks wide text place more next → LineMarks wide text at (marks ++ more) next
  pub back : (line : List Mark) (next : ℕ) → LineMarks wide text at line next → (more : List Mark) × (line ≡ marks ++ more) × LineMarks wide text place more next

pub start : (wide : Bool) (text : List ℕ) (at : ℕ) (marks : List Mark) → marks ≡ [] → SoFar wide text at at marks
start wide text at marks none =
    subst (SoFar wide text at at) (sym none) (record { front = λ more next is. is; back = λ line next is. (line, refl, is) })

pub step : (wide : Bool) (text : List ℕ) (at place : ℕ) (marks : List Mark) (mark : Mark) → mark_from wide text place ≡ Some mark → is_end mark.token ≡ false → SoFar wide text at place marks → SoFar wide text at (mark.at + mark.len) (marks ++ mark ∷ [])
step wide text at place marks mark e f so =
    record {
      front = λ more next is. subst (λ line. LineMarks wide text at line next) (sym (append_assoc marks (mark ∷ []) more)) (so.front (mark ∷ more) next (e, f, is));
      back = λ line next is. let (more, same, rest) = so.back line next is in go_on line next more same rest;
    }
  where
    go_on : (line : List Mark) (next : ℕ) (more : List Mark) → line ≡ marks ++ more → LineMarks wide text place more next → (others : List Mark) × (line ≡ (marks ++ mark ∷ []) ++ others) × LineMarks wide text (mark.at + mark.len) others next
    go_on line next [] same (x, g, h, p) = absurd (clash wide text place x mark g e h f)
    go_on line next (y ∷ ys) same (g, h, rest) =
        let is_mark : y ≡ mark = one-mark wide text place y mark g e in
        (ys, same ∙ ap (λ z. marks ++ z ∷ ys) is_mark ∙ sym (append_assoc marks (mark ∷ []) ys), subst (λ (z : Mark). LineMarks wide text (z.at + z.len) ys next) is_mark rest)

pub ends : (wide : Bool) (text : List ℕ) (at place : ℕ) (marks : List Mark) (mark : Mark) → mark_from wide text place ≡ Some mark → is_end mark.token ≡ true → SoFar wide text at place marks → LineMarks wide text at marks (mark.at + mark.len)
ends wide text at place marks mark e f so = subst (λ line. LineMarks wide text at line (mark.at + mark.len)) (append-nil marks) (so.front [] (mark.at + mark.len) (mark, e, f, refl))

pub sticks : (wide : Bool) (text : List ℕ) (at place : ℕ) (marks : List Mark) → mark_from wide text place ≡ None → SoFar wide text at place marks → (line : List Mark) (next : ℕ) → LineMarks wide text at line next → ⊥
sticks wide text at place marks none so line next is = let (more, same, rest) = so.back line next is in none_left more rest
  where
    none_left : (more : List Mark) → LineMarks wide text place more next → ⊥
    none_left [] (x, g, h, p) = no-mark x (sym none ∙ g)
    none_left (y ∷ ys) (g, h, rest) = no-mark y (sym none ∙ g)
