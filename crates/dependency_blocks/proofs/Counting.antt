-- Counting the facts of each block.
use Rattle.std.proofs.Common.{ℕ, zero, suc, ◌+◌, ◌≡◌, ◌<◌, ◌≤◌, true, false, ◌==◌, List, length, take, set, slice_index_or, ⊎_elim, ap, ◌∙◌, sym, subst, refl, arith, add-one, get_or-set_same, get_or-set_other}
use Rattle.std.proofs.Math.Seq.{take-length}
use Rattle.std.proofs.lemmas.Bool.{eq-eqb, ne_eqb, cases_eq, cases_lt}
use Rattle.std.proofs.lemmas.List.{get_or_past}
use Rattle.std.proofs.lemmas.List.Sums.{count_by_more_yes, count_by_more_no}
use Rattle.dependency_blocks.specs.Blocks.{number_of, size_of}
use Rattle.dependency_blocks.specs.inner.Sizes.{HaveSizes, AreSmall}

-- the counts after so many of the numbers
abbrev pub Counts : List ℕ → List ℕ → ℕ → Type 0
Counts numbers sizes i = (b : ℕ) → b < length numbers → slice_index_or sizes b 0 ≡ size_of (take i numbers) b

pub counts-next : (numbers sizes : List ℕ) (i : ℕ) → length sizes ≡ length numbers → i < length numbers → Counts numbers sizes i → Counts numbers (set sizes (slice_index_or numbers i 0) (slice_index_or sizes (slice_index_or numbers i 0) 0 + 1)) (i + 1)
counts-next numbers sizes i long fits counts b inside =
    let n = slice_index_or numbers i 0 in
    ⊎_elim (λ same.
    let is : (n == b) ≡ true = eq-eqb n b same in
    subst (λ m. slice_index_or (set sizes m (slice_index_or sizes m 0 + 1)) b 0 ≡ size_of (take (i + 1) numbers) b) (sym same)
    (get_or-set_same sizes b (slice_index_or sizes b 0 + 1) 0 (omega arith) ∙ ap (λ k. k + 1) (counts b inside) ∙ sym (count_by_more_yes (λ x. x == b) numbers i 0 fits is)))
    (λ differ.
    let other : (n == b) ≡ false = ne_eqb n b differ in
    get_or-set_other sizes n b (slice_index_or sizes n 0 + 1) 0 (λ e. differ (sym e)) ∙ counts b inside ∙ sym (count_by_more_no (λ x. x == b) numbers i 0 fits other))
    (cases_eq n b)

size-none_until : (xs : List ℕ) (b : ℕ) → ((k : ℕ) → k < length xs → slice_index_or xs k 4294967295 ≡ b → ⊥) → (i : ℕ) → i ≤ length xs → size_of (take i xs) b ≡ 0
size-none_until xs b none zero h = refl
size-none_until xs b none (suc i) h =
    subst (λ k. size_of (take k xs) b ≡ 0) (add-one i)
    (count_by_more_no (λ x. x == b) xs i 4294967295 (omega arith) (ne_eqb _ b (none i (omega arith))) ∙ size-none_until xs b none i (omega arith))

size-none : (xs : List ℕ) (b : ℕ) → ((k : ℕ) → k < length xs → slice_index_or xs k 4294967295 ≡ b → ⊥) → size_of xs b ≡ 0
size-none xs b none = sym (ap (λ ys. size_of ys b) (take-length xs)) ∙ size-none_until xs b none (length xs) (omega arith)

pub counts-end : (numbers sizes : List ℕ) → length sizes ≡ length numbers → AreSmall numbers → Counts numbers sizes (length numbers) → HaveSizes numbers sizes
counts-end numbers sizes long small counts b top =
    ⊎_elim (λ inside. counts b inside ∙ ap (λ xs. size_of xs b) (take-length numbers))
    (λ past. get_or_past sizes b 0 (omega arith) ∙ sym (size-none numbers b (λ k h e.
    let low : number_of numbers k < length numbers = small k (subst (λ m. m < 4294967295) (sym e) top) in absurd (omega (arith, e)))))
    (cases_lt b (length numbers))
