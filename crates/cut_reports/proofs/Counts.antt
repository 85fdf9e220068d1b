-- Counts of sets, as they are kept.
use Rattle.std.proofs.Common.{◌≡◌, ℕ, ◌+◌, ◌-◌, ◌<◌, ◌≤◌, List, [], ◌∷◌, ◌++◌, length, Some, None, Bool, true, false, sym, ap, ◌∙◌, le_refl, arith, cond}
use Rattle.std.specs.Prelude.{◌==◌, filter, slice_index_or}
use Rattle.std.specs.List.{between, count_by}
use Rattle.std.proofs.lemmas.Bool.{false≢true}
use Rattle.std.proofs.lemmas.List.{length-append}
use Rattle.std.proofs.lemmas.List.Edits.{get_or-between, length-between}
use Rattle.std.proofs.lemmas.List.Sums.{length-filter}
use Rattle.std.proofs.lemmas.List.Elements.{filter-append}
use Rattle.fta_outside.specs.Reports.{TakesSet}
use Rattle.plain_values.specs.Rising.{RisesWithin}
use Rattle.fta_outside.specs.Counts.{AreCounts, capped, count_of, has_size}
use Rattle.cut_reports.specs.inner.Counts.{AddedAll}
use Rattle.cut_reports.specs.inner.Orders.{AreOrders}

one-filtered : (test : List ℕ → Bool) (set : List ℕ) (b : Bool) → test set ≡ b → length (filter test (set ∷ [])) ≡ cond b 1 0
one-filtered test set true e = ap (λ b. length (cond b (set ∷ []) [])) e
one-filtered test set false e = ap (λ b. length (cond b (set ∷ []) [])) e

count-last : (test : List ℕ → Bool) (sets : List (List ℕ)) (set : List ℕ) (b : Bool) → test set ≡ b → count_by test (sets ++ set ∷ []) ≡ count_by test sets + cond b 1 0
count-last test sets set b e =
    sym (length-filter test (sets ++ set ∷ [])) ∙ ap length (filter-append test sets (set ∷ [])) ∙ length-append (filter test sets) (filter test (set ∷ []))
    ∙ ap (λ n. n + length (filter test (set ∷ []))) (length-filter test sets) ∙ ap (λ n. count_by test sets + n) (one-filtered test set b e)

-- one set more is counted if it passes the test
pub count_yes : (test : List ℕ → Bool) (sets : List (List ℕ)) (set : List ℕ) → test set ≡ true → count_of test (sets ++ set ∷ []) ≡ capped (count_of test sets + 1)
count_yes test sets set e = let more : count_by test (sets ++ set ∷ []) ≡ count_by test sets + 1 = count-last test sets set true e in omega (arith, more)

pub count_no : (test : List ℕ → Bool) (sets : List (List ℕ)) (set : List ℕ) → test set ≡ false → count_of test (sets ++ set ∷ []) ≡ count_of test sets
count_no test sets set e = let more : count_by test (sets ++ set ∷ []) ≡ count_by test sets + 0 = count-last test sets set false e in omega (arith, more)

-- the sets of two lists together
pub count_both : (test : List ℕ → Bool) (xs ys : List (List ℕ)) → count_by test (xs ++ ys) ≡ count_by test xs + count_by test ys
count_both test xs ys =
    sym (length-filter test (xs ++ ys)) ∙ ap length (filter-append test xs ys) ∙ length-append (filter test xs) (filter test ys)
    ∙ ap (λ n. n + length (filter test ys)) (length-filter test xs) ∙ ap (λ n. count_by test xs + n) (length-filter test ys)

pub kept_both : (test : List ℕ → Bool) (xs ys : List (List ℕ)) → count_of test (xs ++ ys) ≡ capped (count_of test xs + count_of test ys)
kept_both test xs ys = let sum : count_by test (xs ++ ys) ≡ count_by test xs + count_by test ys = count_both test xs ys in omega (arith, sum)

-- the counts of other sets were added
pub counts_taken : (tests : ℕ → List ℕ → Bool) (more before after : List ℕ) (taken sets : List (List ℕ)) → length more ≡ length before → length after ≡ length before
    → AddedAll more before after → AreCounts tests before taken → AreCounts tests more sets → AreCounts tests after (taken ++ sets)
counts_taken tests more before after taken sets fits same added are new i h =
    added i (omega (arith, h, same)) ∙ ap (λ n. capped (n + slice_index_or more i 0)) (are i (omega (arith, h, same)))
    ∙ ap (λ n. capped (count_of (tests i) taken + n)) (new i (omega (arith, h, same, fits))) ∙ sym (kept_both (tests i) taken sets)

-- rising numbers below a bound are no more than it
rises-fit : (low high n : ℕ) (ns : List ℕ) → RisesWithin low high (n ∷ ns) → low + length (n ∷ ns) ≤ high
rises-fit low high n [] r = omega (arith, r.0, r.1)
rises-fit low high n (m ∷ ms) r = omega (arith, r.0, rises-fit (n + 1) high m ms r.2)

pub takes_size : (begun : Bool) (n : ℕ) (set : List ℕ) → TakesSet (cond begun (Some n) None) set → false ≡ (length set == 0) → length set - 1 < n
takes_size true n [] r h = absurd (false≢true h)
takes_size true n (event ∷ events) r h = let fit = rises-fit 0 n event events r in omega (arith, fit)
takes_size false n set r h = absurd r

-- what stands in the counts of the sizes behind that of the empty ones
rest-at : (orders : List ℕ) (i : ℕ) → 1 + i < length orders → slice_index_or (between 1 (length orders) orders) i 0 ≡ slice_index_or orders (i + 1) 0
rest-at orders i h = let at : 1 + i ≡ i + 1 = omega arith in get_or-between orders 1 (length orders) i 0 h ∙ ap (λ n. slice_index_or orders n 0) at

-- the counts of the sizes of other sets were added; the first of them is that of the empty ones
pub orders_taken : (empty after_empty : ℕ) (orders before after : List ℕ) (taken sets : List (List ℕ)) → length orders ≡ length before + 1 → length after ≡ length before → after_empty ≡ capped (empty + slice_index_or orders 0 0)
    → AddedAll (between 1 (length orders) orders) before after → AreOrders empty before taken → AreCounts has_size orders sets → AreOrders after_empty after (taken ++ sets)
orders_taken empty after_empty orders before after taken sets fits same first added are new =
    let few : length (between 1 (length orders) orders) ≡ length orders - 1 = length-between orders 1 (length orders) (le_refl (length orders)) in
    record {
      of_none = first ∙ ap (λ n. capped (n + slice_index_or orders 0 0)) are.of_none ∙ ap (λ n. capped (count_of (has_size 0) taken + n)) (new 0 (omega (arith, fits))) ∙ sym (kept_both (has_size 0) taken sets);
      of_some = counts_taken (λ place. has_size (place + 1)) (between 1 (length orders) orders) before after taken sets (omega (arith, few, fits)) same added are.of_some
          (λ i h. rest-at orders i (omega (arith, h, few)) ∙ new (i + 1) (omega (arith, h, few)));
    }
