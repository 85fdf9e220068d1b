-- Counts of the sizes of sets.
use Rattle.std.proofs.Common.{◌≡◌, ℕ, ◌+◌, ◌-◌, ◌<◌, List, [], ◌∷◌, ◌++◌, length, Bool, true, false, refl, sym, ap, ◌∙◌, arith}
use Rattle.std.specs.Prelude.{◌==◌, slice_index_or, if◌then◌else◌}
use Rattle.std.proofs.lemmas.Bool.{eqb-true, eq-eqb, false≢true}
use Rattle.cut_reports.specs.inner.Counts.{CountedAt}
use Rattle.fta_outside.specs.Counts.{capped, count_of, has_size}
use Rattle.cut_reports.specs.inner.Numbered.{numbered_text}
use Rattle.cut_reports.specs.inner.Orders.{AreOrders, counted_order, order_line, orders_text}
use Rattle.cut_reports.proofs.Counts.{count_no, count_yes}
use Rattle.cut_reports.proofs.Numbered.{numbered_from, numbered_same}

by-test : (b : Bool) → (b ≡ true → ⊥) → b ≡ false
by-test true h = absurd (h refl)
by-test false h = refl

-- an empty set is counted
pub empty_more : (empty after : ℕ) (counts : List ℕ) (sets : List (List ℕ)) (set : List ℕ) → length set ≡ 0 → after ≡ capped (empty + 1) → AreOrders empty counts sets → AreOrders after counts (sets ++ set ∷ [])
empty_more empty after counts sets set none is are = record {
  of_none = is ∙ ap (λ n. capped (n + 1)) are.of_none ∙ sym (count_yes (has_size 0) sets set (eq-eqb (length set) 0 none));
  of_some = λ i h. are.of_some i h ∙ sym (count_no (has_size (i + 1)) sets set (by-test (length set == i + 1) (λ e. let same = eqb-true (length set) (i + 1) e in omega (arith, none, same))));
}

sized : (place size : ℕ) (old new : ℕ) (sets : List (List ℕ)) (set : List ℕ) (b : Bool) → (place == size) ≡ b → length set ≡ size + 1 → new ≡ (if b then capped (old + 1) else old)
    → old ≡ count_of (has_size (place + 1)) sets → new ≡ count_of (has_size (place + 1)) (sets ++ set ∷ [])
sized place size old new sets set true e f is was =
    let at : place ≡ size = eqb-true place size e in
    is ∙ ap (λ n. capped (n + 1)) was ∙ sym (count_yes (has_size (place + 1)) sets set (eq-eqb (length set) (place + 1) (omega (arith, at, f))))
sized place size old new sets set false e f is was =
    is ∙ was ∙ sym (count_no (has_size (place + 1)) sets set
    (by-test (length set == place + 1) (λ s. let same = eqb-true (length set) (place + 1) s in let other = eq-eqb place size (omega (arith, same, f)) in absurd (false≢true (sym e ∙ other)))))

-- a set of some events is counted
pub some_more : (empty : ℕ) (before after : List ℕ) (sets : List (List ℕ)) (set : List ℕ) → 0 < length set → length after ≡ length before → CountedAt (length set - 1) before after → AreOrders empty before sets
    → AreOrders empty after (sets ++ set ∷ [])
some_more empty before after sets set some same counted are = record {
  of_none = are.of_none ∙ sym (count_no (has_size 0) sets set (by-test (length set == 0) (λ e. let none = eqb-true (length set) 0 e in omega (arith, some, none))));
  of_some = λ i h. sized i (length set - 1) (slice_index_or before i 0) (slice_index_or after i 0) sets set (i == length set - 1) refl (omega (arith, some)) (counted i) (are.of_some i (omega (arith, h, same)));
}

-- the text by the counts is that of the sets
pub orders_right : (empty : ℕ) (counts : List ℕ) (sets names : List (List ℕ)) → length counts ≡ length names → AreOrders empty counts sets
    → order_line 0 empty ++ numbered_text (λ place name. counted_order counts place) 0 names ≡ orders_text sets names
orders_right empty counts sets names same are =
    let later : numbered_text (λ place name. counted_order counts place) 0 names ≡ numbered_text (λ place name. order_line (place + 1) (count_of (has_size (place + 1)) sets)) 0 names =
    numbered_same _ _ 0 names (λ n h name. ap (order_line (0 + n + 1)) (are.of_some (0 + n) (omega (arith, h, same)))) in
    ap (λ n. order_line 0 n ++ numbered_text (λ place name. counted_order counts place) 0 names) are.of_none
    ∙ ap (λ t. order_line 0 (count_of (has_size 0) sets) ++ t) (later ∙ numbered_from (λ size name. order_line size (count_of (has_size size) sets)) 0 names)
