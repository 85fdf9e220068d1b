-- The steps of a search for a name.
use Rattle.std.specs.Prelude.{◌≡◌, ℕ, List, []}
use Rattle.error_libraries.specs.inner.Course.{Course, IsBack, left}
use Rattle.error_libraries.specs.Search.{Search}
use Rattle.error_libraries.specs.Libraries.{Library}
use Rattle.error_libraries.specs.declared.course.Left.{Left}
use Rattle.error_libraries.specs.declared.course.Left.TheVariants.{On, Out}
use Rattle.error_libraries.specs.declared.search.Step.{Step}
use Rattle.error_libraries.specs.declared.search.Step.TheVariants.{Next, Ended}

-- It is back at the library for which that one was searched, or at its end, with its first refusal.
abbrev pub Leaves : Course → Left → Type 0
Leaves course (On next) = IsBack course next
Leaves course (Out first) = (course.below ≡ []) × (first ≡ course.first)

-- A step leads to the end of the whole search, or nearer to it.
abbrev pub Leads : List Library → List ℕ → Search → Step → Type 0
Leads libraries name whole (Next course) = left libraries name course ≡ whole
Leads libraries name whole (Ended looked first) = (whole.found ≡ looked) × (whole.first ≡ first)
