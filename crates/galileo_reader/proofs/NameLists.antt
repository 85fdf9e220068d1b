-- The names of a line, token by token.
use Rattle.std.proofs.Common.{ℕ, ◌+◌, ◌≡◌, ◌<◌, ◌≤◌, Bool, true, false, cond, List, [], ◌∷◌, ◌++◌, length, drop, get_or, Option, Some, None, ap, ◌∙◌, sym, refl, append_assoc, append-nil}
use Rattle.std.specs.Option.{option_map}
use Rattle.std.proofs.lemmas.List.{at_drop_more, at_drop_all}
use Rattle.galileo_reader.specs.declared.token.Mark.{Mark}
use Rattle.galileo_reader.specs.declared.statement.PlacedName.{PlacedName}
use Rattle.galileo_reader.specs.declared.statement.Statement.{Statement}
use Rattle.galileo_reader.specs.Marks.{LineMarks}
use Rattle.galileo_reader.specs.Statements.{HasNoLine, is_name, names_of, placed, statement_of}
use Rattle.galileo_reader.proofs.LineLaws.{one-line}

-- names before those that are read
abbrev pub behind : List PlacedName → Option (List PlacedName) → Option (List PlacedName)
behind front names = option_map (λ more. front ++ more) names

behind-more : (front : List PlacedName) (name : PlacedName) (names : Option (List PlacedName)) → behind front (option_map (λ more. name ∷ more) names) ≡ behind (front ++ name ∷ []) names
behind-more front name None = refl
behind-more front name (Some more) = ap Some (sym (append_assoc front (name ∷ []) more))

first : (text : List ℕ) (mark : Mark) (marks : List Mark) (b : Bool) → is_name mark.token ≡ b → names_of text (mark ∷ marks) ≡ cond b (option_map (λ names. placed text mark ∷ names) (names_of text marks)) None
unfolding names_of
first text mark marks b e = ap (λ is. cond is (option_map (λ names. placed text mark ∷ names) (names_of text marks)) None) e

none-at : (text : List ℕ) → names_of text [] ≡ Some []
unfolding names_of
none-at text = refl

module _ (text : List ℕ) (marks : List Mark) (i : ℕ) (names : List PlacedName) (so_far : behind names (names_of text (drop i marks)) ≡ names_of text marks) where
  here : (d : Mark) → i < length marks → names_of text (drop i marks) ≡ names_of text (get_or marks i d ∷ drop (i + 1) marks)
  here d inside = at_drop_more (names_of text) marks i d inside

  pub names-next : (d : Mark) → i < length marks → is_name (get_or marks i d).token ≡ true → behind (names ++ placed text (get_or marks i d) ∷ []) (names_of text (drop (i + 1) marks)) ≡ names_of text marks
  names-next d inside e = sym (behind-more names (placed text (get_or marks i d)) (names_of text (drop (i + 1) marks))) ∙ ap (behind names) (sym (here d inside ∙ first text (get_or marks i d) (drop (i + 1) marks) true e)) ∙ so_far

  pub names-none : (d : Mark) → i < length marks → is_name (get_or marks i d).token ≡ false → None ≡ names_of text marks
  names-none d inside e = ap (behind names) (sym (here d inside ∙ first text (get_or marks i d) (drop (i + 1) marks) false e)) ∙ so_far

  pub names-all : length marks ≤ i → Some names ≡ names_of text marks
  names-all over = ap Some (sym (append-nil names)) ∙ ap (behind names) (sym (at_drop_all (names_of text) marks i over ∙ none-at text)) ∙ so_far

-- tokens of a line that say nothing are no line
pub no-statement : (wide : Bool) (text : List ℕ) (at : ℕ) (marks : List Mark) (next : ℕ) → LineMarks wide text at marks next → statement_of text marks ≡ None → HasNoLine wide text at
no-statement wide text at marks next line none statement other is =
    let same = one-line wide text at is.marks marks other next is.line line in
    nothing statement (sym none ∙ ap (statement_of text) (sym same.0) ∙ is.says)
  where
    nothing : (s : Statement) → None ≡ Some s → ⊥
    nothing s e = cc
