-- The steps of a walk through items.
use Rattle.std.specs.Prelude.{◌≡◌, Bool, [], ◌∷◌, ◌++◌}
use Rattle.error_libraries.specs.Libraries.{Table}
use Rattle.error_types.specs.inner.Trip.{IsBackAt, Trip, walk_left, with_names}
use Rattle.error_types.specs.Walk.{Walk}
use Rattle.error_types.specs.declared.needs.NextName.{NextName}
use Rattle.error_types.specs.declared.needs.NextName.TheVariants.{Name, Passed, End}
use Rattle.error_types.specs.declared.walk.Stage.{Stage}
use Rattle.error_types.specs.declared.walk.Stage.TheVariants as stage
use Rattle.error_types.specs.declared.trip.Walked.{Walked}
use Rattle.error_types.specs.declared.trip.Back.{Back}
use Rattle.error_types.specs.declared.trip.Back.TheVariants as back

-- The next name was taken from those that are left at the top of a trip; what is passed is none.
abbrev pub Offers : Trip → NextName → Trip → Type 0
Offers old (Name need) new = (old.top.rest ≡ need ∷ new.top.rest) × (new ≡ with_names new.top.rest old)
Offers old Passed new = new ≡ old
Offers old End new = (old.top.rest ≡ []) × (new ≡ old)

-- The trip is at its end: what it followed, its types and its first refusal.
pub record IsOut (trip : Trip) (walked : Walked) : Type 0 where
  pub below : trip.below ≡ []
  pub followed : walked.followed.items ≡ trip.followed ++ trip.top.item ∷ []
  pub types : walked.types.items ≡ trip.types
  pub first : walked.first ≡ trip.first

-- The trip is back at the item that led to the one at its top, or at its end.
abbrev pub LeavesItem : Trip → Back → Type 0
LeavesItem trip (back.On next) = IsBackAt trip next
LeavesItem trip (back.Out walked) = IsOut trip walked

-- This is what a walk comes to.
pub record IsWalked (whole : Walk) (walked : Walked) : Type 0 where
  pub followed : whole.followed ≡ walked.followed.items
  pub types : whole.types ≡ walked.types.items
  pub first : whole.first ≡ walked.first

-- A step leads to the end of the whole walk, or nearer to it.
abbrev pub LeadsWalk : Bool → Table → Walk → Stage → Type 0
LeadsWalk through table whole (stage.Next trip) = walk_left through table trip ≡ whole
LeadsWalk through table whole (stage.Ended walked) = IsWalked whole walked
