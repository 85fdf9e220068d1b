-- What is written of a page, step by step.
use Rattle.std.specs.Prelude.{ℕ, ◌≡◌, ◌+◌, ◌≤◌, ◌-◌, ◌==◌, ◌↔◌, Contains, Bool, true, false, not, if◌then◌else◌, List, [], ◌∷◌, length, codes, Option, Some, None, vec_capacity}
use Rattle.std.specs.List.{AllByRecursion}
use Rattle.fault_system.specs.Systems.{System}
use Rattle.fault_system.specs.Listings.{IsInListingOrder}
use Rattle.zdd_store.specs.inner.Store.{Families}
use Rattle.cutset_lister.specs.inner.Walks.{IsStarted, all_sets, sets_left}
use Rattle.cutset_writer.specs.inner.Lengths.{most_line}
use Rattle.cutset_writer.specs.Text.{more_line, set_line}
use Rattle.cutset_writer.specs.declared.form.SetForm.{SetForm}
use Rattle.cutset_writer.specs.declared.bookmark.Bookmark.{Bookmark}
use Rattle.cutset_writer.specs.declared.page.PageWriter.{PageWriter}

-- whether a limit lets a further set stand on a page
abbrev pub has_room : Option ℕ → Bool
has_room None = true
has_room (Some limit) = not (limit == 0)

-- a limit once a set stands on the page
abbrev pub one_less : Option ℕ → Option ℕ
one_less None = None
one_less (Some limit) = Some (limit - 1)

-- whether a page with these sets before it goes on: there is a set, and the limit lets it stand
abbrev pub goes_on : Option ℕ → List (List ℕ) → Bool
goes_on limit [] = false
goes_on limit (set ∷ sets) = has_room limit

-- what is written next: the line of a set, or the last line, where this one says that a further set follows
abbrev pub next_line : SetForm → System → List ℕ → Option ℕ → List (List ℕ) → List ℕ
next_line form system more limit [] = codes "end\n"
next_line form system more limit (set ∷ sets) = if has_room limit then set_line form system set else more

-- the line that says that a further set follows, once the first of these sets stands on the page
abbrev pub next_more : Option (List ℕ) → System → List (List ℕ) → List ℕ
next_more key system [] = []
next_more key system (set ∷ sets) = more_line key system (Some set)

-- the sets behind the first
abbrev pub later : List (List ℕ) → List (List ℕ)
later [] = []
later (set ∷ sets) = sets

-- a buffer has room for the line of each set, in any form
abbrev pub HasRoom : System → ℕ → List (List ℕ) → Type 0
HasRoom system room sets = AllByRecursion (λ set. (form : SetForm) → length (set_line form system set) ≤ room) sets

-- A page can be written without memory: its listing is at its beginning, and each line has room.
pub record IsReady (system : System) (store : Families) (writer : PageWriter) : Type 0 where
  pub started : IsStarted store writer.listing
  pub left : sets_left store writer.listing ≡ all_sets store writer.listing
  pub room : HasRoom system (most_line system) (all_sets store writer.listing)
  pub wide : most_line system ≤ vec_capacity writer.line

-- the digits of the key that a bookmark names, where there is one
abbrev pub key_of : Option Bookmark → Option (List ℕ)
key_of None = None
key_of (Some bookmark) = Some bookmark.key

-- the line that says that a further set follows
abbrev pub more_text : Option Bookmark → List ℕ
more_text None = codes "more\n"
more_text (Some bookmark) = bookmark.line.items

-- A bookmark has room for the token of each set whose line has room.
abbrev pub IsOpen : System → Bookmark → Type 0
IsOpen system bookmark = most_line system + 74 ≤ vec_capacity bookmark.line

abbrev pub IsOpenMark : System → Option Bookmark → Type 0
IsOpenMark system None = Unit {0}
IsOpenMark system (Some bookmark) = IsOpen system bookmark

-- The line that says that a further set follows has room for each set, and names the set behind which the page begins.
pub record IsMarked (system : System) (mark : Option Bookmark) (after : Option (List ℕ)) : Type 0 where
  pub open_mark : IsOpenMark system mark
  pub named : more_text mark ≡ more_line (key_of mark) system after

-- The sets of a family in listing order.
pub record Lists (family sets : List (List ℕ)) : Type 0 where
  pub ordered : IsInListingOrder sets
  pub same : (set : List ℕ) → Contains sets set ↔ Contains family set
