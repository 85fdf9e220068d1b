-- The lines of requirements as tests, one after the other.
use Rattle.std.proofs.Common.{ℕ, zero, suc, ◌+◌, ◌≡◌, ◌<◌, ◌≤◌, List, [], ◌∷◌, ◌++◌, length, drop, get_or, append-nil, append_assoc, add-one, drop-cons, sym, ap, ◌∙◌, arith}
use Rattle.std.proofs.lemmas.List.{drop_all}
use Rattle.fault_system.specs.Systems.{System}
use Rattle.requirement_lines.specs.declared.judgement.Judgement.{Judgement}
use Rattle.requirement_lines.specs.Lines.{tap_line, tap_lines}

module _ (system : System) (judgements : List Judgement) (i : ℕ) where
  pub tests-more : (judgement : Judgement) → i < length judgements → judgement ≡ get_or judgements i judgement → (before after goal : List ℕ) → after ≡ before ++ tap_line system (i + 1) judgement
      → before ++ tap_lines system (i + 1) (drop i judgements) ≡ goal → after ++ tap_lines system (i + 1 + 1) (drop (i + 1) judgements) ≡ goal
  tests-more judgement within is before after goal added so_far =
      let rest : drop i judgements ≡ judgement ∷ drop (i + 1) judgements =
      drop-cons judgements i judgement within ∙ ap (λ j. j ∷ drop (suc i) judgements) (sym is) ∙ ap (λ n. judgement ∷ drop n judgements) (sym (add-one i)) in
      ap (λ text. text ++ tap_lines system (i + 1 + 1) (drop (i + 1) judgements)) added
      ∙ append_assoc before (tap_line system (i + 1) judgement) (tap_lines system (i + 1 + 1) (drop (i + 1) judgements)) ∙ ap (λ left. before ++ tap_lines system (i + 1) left) (sym rest) ∙ so_far

  pub tests-end : (text goal : List ℕ) → length judgements ≤ i → text ++ tap_lines system (i + 1) (drop i judgements) ≡ goal → text ≡ goal
  tests-end text goal past so_far = sym (append-nil text) ∙ ap (λ left. text ++ tap_lines system (i + 1) left) (sym (drop_all i judgements past)) ∙ so_far

-- the plan, its end and the lines, as one text
pub plan-then : (old head number lines counted ended all : List ℕ) → counted ≡ old ++ (head ++ number) → ended ≡ counted ++ 10 ∷ [] → all ≡ ended ++ lines → all ≡ old ++ (head ++ (number ++ 10 ∷ lines))
plan-then old head number lines counted ended all counted_is ended_is all_is =
    all_is ∙ ap (λ text. text ++ lines) ended_is ∙ ap (λ text. (text ++ 10 ∷ []) ++ lines) counted_is ∙ append_assoc (old ++ (head ++ number)) (10 ∷ []) lines
    ∙ append_assoc old (head ++ number) (10 ∷ lines) ∙ ap (λ text. old ++ text) (append_assoc head number (10 ∷ lines))
