-- The text as a whole, and what it tells.
use Rattle.std.proofs.Common.{ℕ, ◌+◌, ◌≡◌, ◌↔◌, Bool, true, false, not, List, [], ◌++◌, codes, filter, length, append_assoc, Contains, Option, sym, ap, ◌∙◌}
use Rattle.std.specs.List.{AllByRecursion}
use Rattle.std.proofs.lemmas.Bool.{false≢true, false_from_ne_true}
use Rattle.fault_system.specs.Systems.{System}
use Rattle.fault_system.specs.CutSets.{IsEventSet}
use Rattle.fault_system.specs.Listings.{IsListing}
use Rattle.fault_system.proofs.Elements.{In-contains, In-filter, In-filtered, contains_In, each-made}
use Rattle.fault_system.proofs.Orders.{one_order}
use Rattle.zdd_store.specs.inner.Family.{HaveSameSets}
use Rattle.listing_changes.specs.inner.Unequal.{HasNoEqual}
use Rattle.listing_changes.specs.Changes.{TellsChanges, change_lines, changes_text, end_line, is_matched, unmatched}
use Rattle.listing_changes.proofs.Matching.{equal-names, matched-equal, matched-same}

-- filters by tests that agree keep the same
filter-same : (p q : List ℕ → Bool) (sets : List (List ℕ)) → ((set : List ℕ) → p set ≡ q set) → filter p sets ≡ filter q sets
filter-same p q sets agree = ap (λ test. filter test sets) (λ i set. agree set i)

-- of two families with the same sets the same are lacking
pub unmatched-same : (here there : System) (others more sets : List (List ℕ)) → HaveSameSets others more → unmatched here there others sets ≡ unmatched here there more sets
unfolding unmatched
unmatched-same here there others more sets same = filter-same (λ set. not (is_matched here there others set)) (λ set. not (is_matched here there more set)) sets (λ set. ap not (matched-same here there others more set same))

-- the text that is put together tells what changed
pub tells-changes : (older newer : System) (o n : ℕ) (most : Option ℕ) (before after before_sets after_sets : List (List ℕ)) (first second third last : List ℕ) (gone new : ℕ)
    → IsListing older o most before → IsListing newer n most after → HaveSameSets before before_sets → HaveSameSets after after_sets → first ≡ []
    → second ≡ first ++ change_lines (codes "gone ") older (unmatched older newer after_sets before) → third ≡ second ++ change_lines (codes "new ") newer (unmatched newer older before_sets after) → last ≡ third ++ end_line gone new
    → gone ≡ length (unmatched older newer after_sets before) → new ≡ length (unmatched newer older before_sets after) → TellsChanges older o newer n most last
tells-changes older newer o n most before after before_sets after_sets first second third last gone new before_is after_is before_same after_same empty gone_told new_told ended gone_is new_is =
    let lost = change_lines (codes "gone ") older (unmatched older newer after_sets before) in
    let found = change_lines (codes "new ") newer (unmatched newer older before_sets after) in
    let own = sym (unmatched-same older newer after after_sets before after_same) in
    let other = sym (unmatched-same newer older before before_sets after before_same) in
    let whole : last ≡ lost ++ (found ++ end_line gone new) =
    ended ∙ ap (λ t. t ++ end_line gone new) (new_told ∙ ap (λ t. t ++ found) (gone_told ∙ ap (λ t. t ++ lost) empty)) ∙ append_assoc lost found (end_line gone new) in
    record {
      before = before;
      after = after;
      before_is = before_is;
      after_is = after_is;
      text_is = whole ∙ ap (λ count. lost ++ (found ++ end_line count new)) gone_is ∙ ap (λ count. lost ++ (found ++ end_line (length (unmatched older newer after_sets before)) count)) new_is
          ∙ ap (λ sets. change_lines (codes "gone ") older sets ++ (found ++ end_line (length sets) (length (unmatched newer older before_sets after)))) own
          ∙ ap (λ sets. change_lines (codes "gone ") older (unmatched older newer after before) ++ (change_lines (codes "new ") newer sets ++ end_line (length (unmatched older newer after before)) (length sets))) other;
    }

-- the sets of a listing are sets of events
pub event-sets : (system : System) (target : ℕ) (most : Option ℕ) (sets : List (List ℕ)) → IsListing system target most sets → AllByRecursion (IsEventSet system) sets
event-sets system target most sets is = each-made (IsEventSet system) sets (λ set here. ((is.exact set).0 (contains_In set sets here)).0.0.0)

-- and so are those of the family with the same sets
pub family-sets : (system : System) (target : ℕ) (most : Option ℕ) (sets family : List (List ℕ)) → IsListing system target most sets → HaveSameSets sets family → (set : List ℕ) → Contains family set → IsEventSet system set
family-sets system target most sets family is same set here = ((is.exact set).0 ((same set).1 here)).0.0.0

-- ---- laws

one-list : (system : System) (target : ℕ) (most : Option ℕ) (a b : List (List ℕ)) → IsListing system target most a → IsListing system target most b → a ≡ b
one-list system target most a b one other = one_order a b one.ordered other.ordered
    (λ set i. In-contains set b ((other.exact set).1 ((one.exact set).0 (contains_In set a i))))
    (λ set i. In-contains set a ((one.exact set).1 ((other.exact set).0 (contains_In set b i))))

pub text-once : (older newer : System) (o n : ℕ) (most : Option ℕ) (a b : List ℕ) → TellsChanges older o newer n most a → TellsChanges older o newer n most b → a ≡ b
text-once older newer o n most a b one other =
    one.text_is ∙ ap (λ sets. changes_text older sets newer one.after) (one-list older o most one.before other.before one.before_is other.before_is)
    ∙ ap (λ sets. changes_text older other.before newer sets) (one-list newer n most one.after other.after one.after_is other.after_is) ∙ sym other.text_is

not-true : (b : Bool) → not b ≡ true → b ≡ true → ⊥
not-true true e f = false≢true e
not-true false e f = false≢true f

pub lacking-sets : (here there : System) (target other_target : ℕ) (most : Option ℕ) (sets others : List (List ℕ)) (set : List ℕ) → IsListing here target most sets → IsListing there other_target most others
    → (Contains (unmatched here there others sets) set ↔ HasNoEqual here target there other_target most set)
unfolding unmatched
lacking-sets here there target other_target most sets others set own other = (to, from) where
  to : Contains (filter (λ s. not (is_matched here there others s)) sets) set → HasNoEqual here target there other_target most set
  to there_is =
      let kept = In-filter (λ s. not (is_matched here there others s)) set sets (In-contains set (filter (λ s. not (is_matched here there others s)) sets) there_is) in
      let known = (own.exact set).0 (contains_In set sets kept.0) in record {
        minimal = known.0;
        within = known.1;
        alone = λ one minimal within same. not-true (is_matched here there others set) kept.1 (equal-names here there others set one ((other.exact one).1 (minimal, within)) same);
      }

  from : HasNoEqual here target there other_target most set → Contains (filter (λ s. not (is_matched here there others s)) sets) set
  from is =
      contains_In set (filter (λ s. not (is_matched here there others s)) sets)
      (In-filtered (λ s. not (is_matched here there others s)) set sets (ap not (false_from_ne_true (is_matched here there others set)
      (λ matched. let found = matched-equal here there others set matched in let known = (other.exact found.0).0 found.1 in is.alone found.0 known.0 known.1 found.2)))
      (In-contains set sets ((own.exact set).1 (is.minimal, is.within))))
