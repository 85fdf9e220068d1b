-- What a listing is once the set that it gave is no longer looked at.
use Rattle.std.specs.Prelude.{ℕ, ◌≡◌, List, [], ◌∷◌, Option, MatchOption, IfNone, ⊤}
use Rattle.std.specs.Borrow.{MutBor, Bor, Fml, follows_so}
use mathlib.Core.Option.{none}
use Rattle.zdd_store.specs.inner.Store.{Families}
use Rattle.cutset_lister.specs.inner.Walks.{Walk, IsSameListing, sets_left}
use Rattle.cutset_lister.specs.contracts.walk.Listing.{the_row}

-- what was left is the set that was given and what is left now; where none was given, nothing was left, and nothing is
pub record GaveNext (store : Families) (before : Walk) (set : Option (Bor (List ℕ))) (after : Walk) : Type 0 where
  pub same : IsSameListing store before after
  pub left : MatchOption set (sets_left store before ≡ []) (λ given. sets_left store before ≡ given.now ∷ sets_left store after)
  pub end : IfNone set (sets_left store after ≡ [])

-- the listing ends as one that gave this set
abbrev pub EndsAfter : Families → MutBor Walk → Option (Bor (List ℕ)) → Fml
EndsAfter store listing set = follows_so the_row the_row listing.ghost_name none (λ _ _. ⊤) (λ after. GaveNext store listing.now set after)
