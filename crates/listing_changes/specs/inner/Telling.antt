-- How far the sets of a listing were told.
use Rattle.std.specs.Prelude.{ℕ, ◌+◌, ◌≡◌, ◌≤◌, List, ◌++◌, length}
use Rattle.zdd_store.specs.inner.Store.{family_of}
use Rattle.listing_changes.specs.Changes.{change_lines, unmatched}
use Rattle.listing_changes.specs.declared.comparison.Comparison.{Comparison}
use Rattle.listing_changes.specs.declared.telling.Told.{Told}

-- of some sets, those that the other system has not
abbrev pub lacking : Comparison → List (List ℕ) → List (List ℕ)
lacking comparison sets = unmatched comparison.here.now comparison.there.now (family_of comparison.store.now comparison.sets) sets

-- their lines
abbrev pub lines_of : Comparison → List (List ℕ) → List ℕ
lines_of comparison sets = change_lines comparison.word.now comparison.here.now (lacking comparison sets)

-- Of some sets those before the ones that are left were told: with what is to be told of these the text comes to the whole, and so does
-- the count, which is no greater than the text is long.
pub record TellsUpTo (comparison : Comparison) (sets left : List (List ℕ)) (before after : Told) : Type 0 where
  pub text : after.text.items ++ lines_of comparison left ≡ before.text.items ++ lines_of comparison sets
  pub count : after.count + length (lacking comparison left) ≡ before.count + length (lacking comparison sets)
  pub few : after.count ≤ length after.text.items
