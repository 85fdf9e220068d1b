-- Counts of the events of sets.
use Rattle.std.proofs.Common.{◌≡◌, ℕ, ◌+◌, ◌<◌, List, [], ◌∷◌, ◌++◌, length, take, get_or, Some, None, Bool, true, false, refl, sym, ap, subst, ◌∙◌, arith, cond}
use Rattle.std.specs.Prelude.{◌==◌, ◌||◌, slice_index_or, if◌then◌else◌}
use Rattle.std.proofs.lemmas.Bool.{eqb-true}
use Rattle.fta_outside.specs.Reports.{TakesSet}
use Rattle.plain_values.specs.Rising.{RisesWithin}
use Rattle.cut_reports.specs.inner.Counts.{CountedAt, CountedEach}
use Rattle.fta_outside.specs.Counts.{capped, count_of}
use Rattle.cut_reports.specs.inner.Numbered.{numbered_text}
use Rattle.cut_reports.specs.Places.{is_among}
use Rattle.cut_reports.specs.inner.Uses.{AreUses, counted_use, use_line, uses_text}
use Rattle.cut_reports.proofs.Counts.{count_no, count_yes}
use Rattle.cut_reports.proofs.Numbered.{numbered_same}
use Rattle.cut_reports.proofs.Places.{among_more, before_less}

twice-apart : (a b : Bool) (before mid after : ℕ) → (a ≡ true → b ≡ true → ⊥) → mid ≡ (if a then capped (before + 1) else before) → after ≡ (if b then capped (mid + 1) else mid)
    → after ≡ (if a || b then capped (before + 1) else before)
twice-apart true true before mid after apart e f = absurd (apart refl refl)
twice-apart true false before mid after apart e f = f ∙ e
twice-apart false true before mid after apart e f = f ∙ ap (λ n. capped (n + 1)) e
twice-apart false false before mid after apart e f = f ∙ e

-- one more of the events was counted
pub counted_next : (high : ℕ) (set : List ℕ) (k d : ℕ) (before mid after : List ℕ) → RisesWithin 0 high set → k < length set → CountedEach (take k set) before mid → CountedAt (get_or set k d) mid after
    → CountedEach (take (k + 1) set) before after
counted_next high set k d before mid after r h counted at i =
    subst (λ b. slice_index_or after i 0 ≡ (if b then capped (slice_index_or before i 0 + 1) else slice_index_or before i 0)) (sym (among_more set k d i h))
    (twice-apart (is_among (take k set) i) (i == get_or set k d) _ _ _
    (λ a b. let less : i < get_or set k d = before_less 0 high set k d i r h a in let is : i ≡ get_or set k d = eqb-true i (get_or set k d) b in omega arith) (counted i) (at i))

used : (event : ℕ) (old new : ℕ) (sets : List (List ℕ)) (set : List ℕ) (b : Bool) → is_among set event ≡ b → new ≡ (if b then capped (old + 1) else old) → old ≡ count_of (λ one. is_among one event) sets
    → new ≡ count_of (λ one. is_among one event) (sets ++ set ∷ [])
used event old new sets set true e is was = is ∙ ap (λ n. capped (n + 1)) was ∙ sym (count_yes (λ one. is_among one event) sets set e)
used event old new sets set false e is was = is ∙ was ∙ sym (count_no (λ one. is_among one event) sets set e)

-- the events of one set more were counted
pub uses_more : (before after : List ℕ) (set : List ℕ) → length after ≡ length before → CountedEach set before after → (sets : List (List ℕ)) → AreUses before sets → AreUses after (sets ++ set ∷ [])
uses_more before after set same counted sets are i h = used i _ _ sets set (is_among set i) refl (counted i) (are i (omega (arith, h, same)))

-- the text by the counts is that of the sets
pub uses_right : (counts : List ℕ) (sets names : List (List ℕ)) → length counts ≡ length names → AreUses counts sets → numbered_text (counted_use counts) 0 names ≡ uses_text sets names
uses_right counts sets names same are = numbered_same _ _ 0 names (λ n h name. ap (use_line name) (are (0 + n) (omega (arith, h, same))))

pub takes_rising : (begun : Bool) (n : ℕ) (set : List ℕ) → TakesSet (cond begun (Some n) None) set → RisesWithin 0 n set
takes_rising true n set r = r
takes_rising false n set r = absurd r
