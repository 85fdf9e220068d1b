-- A step of the loop over the names of flags.
use Rattle.std.proofs.Common.{◌≡◌, ◌<◌, ◌+◌, ℕ, suc, Bool, true, false, Bor, cond, List, [], ◌∷◌, ◌++◌, length, map, filter, drop, get_or, refl, sym, ap, ◌∙◌, add-one, drop-cons}
use Rattle.std.proofs.lemmas.List.{append_assoc}

-- a name that is kept, or not, and then the others that are
kept : (b : Bool) (y : List ℕ) (ys : List (List ℕ)) → cond b (y ∷ ys) ys ≡ cond b (y ∷ []) [] ++ ys
kept true y ys = refl
kept false y ys = refl

module _ (f : List ℕ → Bool) (names : List (Bor (List ℕ))) (i : ℕ) (d : Bor (List ℕ)) (within : i < length names) where
  rest_less : drop i names ≡ get_or names i d ∷ drop (i + 1) names
  rest_less = drop-cons names i d within ∙ ap (λ n. get_or names i d ∷ drop n names) (sym (add-one i))

  -- what is kept of the names that are left
  abbrev left : List (Bor (List ℕ)) → List (List ℕ)
  left rest = filter f (map (λ (name : Bor (List ℕ)). name.now) rest)

  pub flags_more : (flags new goal : List (List ℕ)) → new ≡ flags ++ cond (f (get_or names i d).now) ((get_or names i d).now ∷ []) [] → flags ++ left (drop i names) ≡ goal → new ++ left (drop (i + 1) names) ≡ goal
  flags_more flags new goal more before =
      ap (λ l. l ++ left (drop (i + 1) names)) more
      ∙ append_assoc flags (cond (f (get_or names i d).now) ((get_or names i d).now ∷ []) []) (left (drop (i + 1) names))
      ∙ ap (λ l. flags ++ l) (sym (ap left rest_less ∙ kept (f (get_or names i d).now) (get_or names i d).now (left (drop (i + 1) names))))
      ∙ before
