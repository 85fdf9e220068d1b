-- A search for a name that is under way, without recursion: what is left of it.
use Rattle.std.specs.Prelude.{◌≡◌, ℕ, ◌+◌, ◌-◌, ◌^◌, Bool, true, false, ◌||◌, List, [], ◌∷◌, ◌++◌, length, map, fold, Option, Some, None, is_some}
use Rattle.plain_values.specs.Order.{nearer}
use Rattle.plain_values.specs.declared.refusal.Refusal.{Refusal}
use Rattle.error_libraries.specs.declared.id.Looked.TheVariants.{Nowhere}
use Rattle.error_libraries.specs.Libraries.{Library}
use Rattle.error_libraries.specs.Search.{Search, is_number_in, past, searched}

-- A library that is being searched, and those of the libraries that it extends that are left.
pub record Frame : Type 0 where
  pub library : ℕ
  pub rest : List ℕ

-- A search under way: the library that is being searched and those for which it is searched, the nearest first; those that
-- were searched in vain, and the first refusal so far.
pub record Course : Type 0 where
  pub top : Frame
  pub below : List Frame
  pub vain : List ℕ
  pub first : Option Refusal

-- the libraries that are being searched
abbrev pub way_of : List Frame → List ℕ
way_of frames = map (λ frame. frame.library) frames

-- the search once what is left in these libraries was searched
abbrev pub finished : List Library → List ℕ → List Frame → Search → Search
finished libraries name [] search = search
finished libraries name (frame ∷ below) search =
    finished libraries name below (past frame.library (fold (searched (2 ^ 64 - (length below + 1)) libraries name (way_of (frame ∷ below))) search frame.rest))

-- the search with nothing found so far
abbrev pub so_far : Course → Search
so_far course = record { found = Nowhere; vain = course.vain; first = course.first }

-- what the search comes to
abbrev pub left : List Library → List ℕ → Course → Search
left libraries name course = finished libraries name (course.top ∷ course.below) (so_far course)

-- ---- the table of the libraries that were entered

-- whether a mark says that a library was searched in vain
abbrev pub is_vain : Option Bool → Bool
is_vain None = false
is_vain (Some true) = false
is_vain (Some false) = true

-- The table tells which of the keys are done, and which are done or under way.
pub record Marks {Key : Type 0} (is_done is_under_way : Key → Bool) (table : Key → Option Bool) : Type 0 where
  pub done : (key : Key) → is_vain (table key) ≡ is_done key
  pub entered : (key : Key) → is_some (table key) ≡ (is_done key || is_under_way key)

-- the table of a course
abbrev pub IsMarked : Course → (ℕ → Option Bool) → Type 0
IsMarked course table = Marks (is_number_in course.vain) (is_number_in (way_of (course.top ∷ course.below))) table

-- ---- steps

-- the course with other libraries left at its top
abbrev pub with_rest : List ℕ → Course → Course
with_rest rest course = record { top = record { library = course.top.library; rest = rest }; below = course.below; vain = course.vain; first = course.first }

-- The next library is taken from those that are left at the top, or there is none.
abbrev pub Takes : Course → Option ℕ → Course → Type 0
Takes old None new = (old.top.rest ≡ []) × (new ≡ old)
Takes old (Some library) new = (old.top.rest ≡ library ∷ new.top.rest) × (new ≡ with_rest new.top.rest old)

-- the course once it entered a library, which extends these
abbrev pub entered : Course → ℕ → List ℕ → Option Refusal → Course
entered course library rest unknown = record { top = record { library = library; rest = rest }; below = course.top ∷ course.below; vain = course.vain; first = nearer course.first unknown }

-- The library at the top was searched in vain, and the search goes back to that for which it was searched.
pub record IsBack (course next : Course) : Type 0 where
  pub below : course.below ≡ next.top ∷ next.below
  pub vain : next.vain ≡ course.vain ++ course.top.library ∷ []
  pub first : next.first ≡ course.first

-- the course before it took this library from those that were left at its top
abbrev pub before : ℕ → Course → Course
before library course = with_rest (library ∷ course.top.rest) course
