-- The facts of blocks, gathered in one pass.
use Rattle.std.proofs.Common.{ℕ, zero, suc, ◌+◌, ◌≡◌, ◌<◌, List, [], ◌∷◌, ◌++◌, length, filter, take, Option, Some, None, IfSome, MatchOption, get_or, ⊎_elim, ap, ◌∙◌, sym, subst, refl, arith}
use Rattle.std.proofs.lemmas.Bool.{cases_order}
use Rattle.std.proofs.lemmas.List.{take_more}
use Rattle.std.proofs.lemmas.List.Elements.{filter-append}
use Rattle.std.proofs.Math.Seq.{take-append_seam}
use Rattle.dependency_blocks.specs.Blocks.{BlockNumbers}
use Rattle.round_gates.specs.Stages.{in_block}
use Rattle.round_gates.specs.inner.Unrolled.{members_of}

pub block-below : (block : Option ℕ) (number bound : ℕ) → MatchOption block (number ≡ 4294967295) (λ b. (b ≡ number) × (b < 4294967295)) → IfSome block (λ b. b < bound) → number < 4294967295 → number < bound
block-below None number bound is below inside = absurd (omega arith)
block-below (Some b) number bound is below inside = subst (λ (n : ℕ). n < bound) is.0 below

-- what holds of each index below i and of i holds of each below i + 1
pub by_index : (P : ℕ → Type 0) (k i : ℕ) → k < i + 1 → (k < i → P k) → P i → P k
by_index P k i less before here = ⊎_elim (λ same. subst P (sym same) here) (λ other. ⊎_elim before (λ past. absurd (omega arith)) other) (cases_order k i)

-- a default behind a list changes no look-up
pub push-default : {X : Type 0} (xs : List X) (x : X) (n : ℕ) → get_or (xs ++ x ∷ []) n x ≡ get_or xs n x
push-default [] x zero = refl
push-default [] x (suc n) = refl
push-default (y ∷ xs) x zero = refl
push-default (y ∷ xs) x (suc n) = push-default xs x n

pub taken : {X : Type 0} (n : ℕ) (xs ys : List X) → length xs ≡ n → take n (xs ++ ys) ≡ xs
taken {X} n xs ys e = ap (λ (k : ℕ). take k (xs ++ ys)) (sym e) ∙ take-append_seam xs ys

-- the members of a block, one fact more
pub members-next : (numbers : BlockNumbers) (block : ℕ) (facts : List ℕ) (i fact : ℕ) (old new : List ℕ) → i < length facts → fact ≡ get_or facts i fact
    → new ≡ old ++ members_of numbers block (fact ∷ []) → old ≡ members_of numbers block (take i facts) → new ≡ members_of numbers block (take (i + 1) facts)
members-next numbers block facts i fact old new fits is made so_far =
    made ∙ ap (λ xs. xs ++ members_of numbers block (fact ∷ [])) so_far
    ∙ ap (λ (f : ℕ). members_of numbers block (take i facts) ++ members_of numbers block (f ∷ [])) is
    ∙ sym (filter-append (in_block numbers block) (take i facts) (get_or facts i fact ∷ []))
    ∙ ap (filter (in_block numbers block)) (sym (take_more facts i fact fits))
