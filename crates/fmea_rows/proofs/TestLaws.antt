-- Tests of times, one after another.
use Rattle.std.proofs.Common.{ℕ, ◌+◌, ◌≡◌, ◌<◌, ◌⊎◌, List, [], ◌∷◌, ◌++◌, length, take, get_or, inl, inr, ⊎_elim, subst}
use Rattle.std.proofs.lemmas.List.{map_more, take_more}
use Rattle.fault_system.specs.Truth.{Has, set_of}
use Rattle.fault_system.proofs.NumberSets.{set_of-cases, set_of-first, set_of-rest}
use Rattle.fmea_rows.specs.inner.Tables.{facts_of}
use Rattle.fmea_rows.specs.declared.change.Change.{Change}

-- a number of a list is one of its front or the last
among-push : (xs : List ℕ) (y n : ℕ) → Has (set_of (xs ++ y ∷ [])) n → Has (set_of xs) n ⊎ (y ≡ n)
among-push [] y n h = ⊎_elim (λ same. inr same) (λ none. inl none) (set_of-cases y [] n h)
among-push (x ∷ xs) y n h = ⊎_elim
    (λ same. inl (subst (Has (set_of (x ∷ xs))) same (set_of-first x xs)))
    (λ later. ⊎_elim (λ l. inl (set_of-rest x xs n l)) (λ r. inr r) (among-push xs y n later)) (set_of-cases x (xs ++ y ∷ []) n h)

-- a number among the first of a list, and one more
pub among-more : (xs : List ℕ) (i d n : ℕ) → i < length xs → Has (set_of (take (i + 1) xs)) n → Has (set_of (take i xs)) n ⊎ (get_or xs i d ≡ n)
among-more xs i d n fits h = among-push (take i xs) (get_or xs i d) n (subst (λ (ys : List ℕ). Has (set_of ys) n) (take_more xs i d fits) h)

-- a fact among the first that change, and one more
pub among-changes : (changes : List Change) (i : ℕ) (d : Change) (n : ℕ) → i < length changes → Has (set_of (facts_of (take (i + 1) changes))) n → Has (set_of (facts_of (take i changes))) n ⊎ ((get_or changes i d).fact ≡ n)
among-changes changes i d n fits h = among-push (facts_of (take i changes)) (get_or changes i d).fact n (subst (λ (ys : List ℕ). Has (set_of ys) n) (map_more (λ (c : Change). c.fact) changes i d fits) h)
