-- What is told of the sets of a listing, set by set.
use Rattle.std.proofs.Common.{ℕ, ◌+◌, ◌≡◌, ◌≤◌, Bool, true, false, not, cond, List, [], ◌∷◌, ◌++◌, Option, Some, decimal, filter, length, length-append, append-nil, append_assoc, refl, sym, ap, subst, ◌∙◌, arith}
use Rattle.std.specs.Prelude.{MatchOption}
use Rattle.std.specs.Borrow.{Bor}
use Rattle.zdd_store.specs.inner.Store.{Families, family_of}
use Rattle.cutset_lister.specs.SetText.{set_text}
use Rattle.cutset_lister.specs.inner.Lending.{GaveNext}
use Rattle.cutset_lister.specs.inner.Walks.{Walk, sets_left}
use Rattle.listing_changes.specs.Changes.{change_line, change_lines, is_matched, unmatched}
use Rattle.listing_changes.specs.inner.Telling.{TellsUpTo, lacking, lines_of}
use Rattle.listing_changes.specs.declared.comparison.Comparison.{Comparison}
use Rattle.listing_changes.specs.declared.telling.Told.{Told}

-- what was left is the set that was given and what is left now
pub given-next : (store : Families) (before after : Walk) (result : Option (Bor (List ℕ))) (set : Bor (List ℕ)) → GaveNext store before result after → result ≡ Some set → sets_left store before ≡ set.now ∷ sets_left store after
given-next store before after result set gave is = subst (λ given. MatchOption given (sets_left store before ≡ []) (λ one. sets_left store before ≡ one.now ∷ sets_left store after)) is gave.left

filter-first : (b : Bool) (test : List ℕ → Bool) (set : List ℕ) (left : List (List ℕ)) → test set ≡ b → filter test (set ∷ left) ≡ cond b (set ∷ filter test left) (filter test left)
filter-first b test set left is = ap (λ c. cond c (set ∷ filter test left) (filter test left)) is

module _ (comparison : Comparison) where
  -- nothing is told yet
  pub tells-none : (sets : List (List ℕ)) (told : Told) → told.count ≤ length told.text.items → TellsUpTo comparison sets sets told told
  tells-none sets told few = record { text = refl; count = refl; few = few }

  -- one part, and then another one
  pub tells-both : (sets middle left : List (List ℕ)) (before between after : Told) → TellsUpTo comparison sets middle before between → TellsUpTo comparison middle left between after → TellsUpTo comparison sets left before after
  tells-both sets middle left before between after first second = record { text = second.text ∙ first.text; count = second.count ∙ first.count; few = second.few }

  module _ (set : List ℕ) (left : List (List ℕ)) where
    test : List ℕ → Bool
    test s = not (is_matched comparison.here.now comparison.there.now (family_of comparison.store.now comparison.sets) s)

    -- a set that the other system has is not told
    lacking-same : is_matched comparison.here.now comparison.there.now (family_of comparison.store.now comparison.sets) set ≡ true → lacking comparison (set ∷ left) ≡ lacking comparison left
    unfolding unmatched test
    lacking-same is = filter-first false test set left (ap not is)

    -- another one is told
    lacking-more : is_matched comparison.here.now comparison.there.now (family_of comparison.store.now comparison.sets) set ≡ false → lacking comparison (set ∷ left) ≡ set ∷ lacking comparison left
    unfolding unmatched test
    lacking-more is = filter-first true test set left (ap not is)

    lines-more : (sets : List (List ℕ)) → change_lines comparison.word.now comparison.here.now (set ∷ sets) ≡ change_line comparison.word.now comparison.here.now set ++ change_lines comparison.word.now comparison.here.now sets
    unfolding change_lines
    lines-more sets = refl

    pub tells-same : (before after : Told) → is_matched comparison.here.now comparison.there.now (family_of comparison.store.now comparison.sets) set ≡ true → before.count ≤ length before.text.items
        → after.text.items ≡ before.text.items → after.count ≡ before.count → TellsUpTo comparison (set ∷ left) left before after
    tells-same before after is few text count =
        let same = lacking-same is in record {
          text = ap (λ t. t ++ lines_of comparison left) text ∙ ap (λ sets. before.text.items ++ change_lines comparison.word.now comparison.here.now sets) (sym same);
          count = omega (arith, count, ap length same);
          few = omega (arith, few, count, ap length text);
        }

    pub tells-one : (before after : Told) → is_matched comparison.here.now comparison.there.now (family_of comparison.store.now comparison.sets) set ≡ false → before.count ≤ length before.text.items
        → after.text.items ≡ before.text.items ++ change_line comparison.word.now comparison.here.now set → after.count ≡ before.count + 1 → TellsUpTo comparison (set ∷ left) left before after
    tells-one before after is few text count =
        let line = change_line comparison.word.now comparison.here.now set in
        let more = lacking-more is in record {
          text = ap (λ t. t ++ lines_of comparison left) text ∙ append_assoc before.text.items line (lines_of comparison left) ∙ ap (λ t. before.text.items ++ t) (sym (ap (change_lines comparison.word.now comparison.here.now) more ∙ lines-more (lacking comparison left)));
          count = omega (arith, count, ap length more);
          few = omega (arith, few, count, ap length text, length-append before.text.items line, line-some);
        }
      where
        line-some : 1 ≤ length (change_line comparison.word.now comparison.here.now set)
        line-some =
            let ending = 32 ∷ set_text comparison.here.now set ++ (10 ∷ []) in
            omega (arith, length-append comparison.word.now (decimal (length set) ++ ending), length-append (decimal (length set)) ending)

-- ---- the end

nothing-left : (comparison : Comparison) → lines_of comparison [] ≡ []
unfolding change_lines unmatched
nothing-left comparison = refl

none-left : (comparison : Comparison) → length (lacking comparison []) ≡ 0
unfolding unmatched
none-left comparison = refl

-- where none is left the lines of all are there, and their number was counted
pub told-text : (comparison : Comparison) (sets : List (List ℕ)) (before after : Told) → TellsUpTo comparison sets [] before after → after.text.items ≡ before.text.items ++ lines_of comparison sets
told-text comparison sets before after tells = sym (append-nil after.text.items) ∙ ap (λ text. after.text.items ++ text) (sym (nothing-left comparison)) ∙ tells.text

pub told-count : (comparison : Comparison) (sets : List (List ℕ)) (before after : Told) → TellsUpTo comparison sets [] before after → after.count ≡ before.count + length (lacking comparison sets)
told-count comparison sets before after tells = let count = tells.count in let none = none-left comparison in omega (arith, count, none)
