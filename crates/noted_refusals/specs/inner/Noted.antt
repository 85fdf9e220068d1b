-- What is noted of a group of refusals.
use Rattle.std.specs.Prelude.{ℕ, ◌≡◌, List, [], ◌∷◌, ◌++◌, take, Option, Some, None, ⊤}
use Rattle.plain_values.specs.declared.refusal.Refusal.{Refusal}
use Rattle.plain_values.specs.declared.refusal.Stop.{Stop}
use Rattle.plain_values.specs.declared.refusal.Stop.TheVariants.{Memory, Refused}
use Rattle.plain_values.specs.Order.{least, nearer}

-- what is noted of a group: its first refusal, and as many of them as there is room for, in the order in which they were noted
pub record Noted : Type 0 where
  pub first : Option Refusal
  pub room : ℕ
  pub kept : List Refusal

-- nothing is noted yet, and there is this room
abbrev pub nothing_noted : ℕ → Noted
nothing_noted room = record { first = None; room = room; kept = [] }

-- one refusal more
abbrev pub note : Noted → Refusal → Noted
note noted refusal = record {
  first = nearer noted.first (Some refusal);
  room = noted.room;
  kept = take noted.room (noted.kept ++ refusal ∷ []);
}

-- these refusals more, one after the other
abbrev pub noting : Noted → List Refusal → Noted
noting noted [] = noted
noting noted (refusal ∷ refusals) = noting (note noted refusal) refusals

-- the refusal with which a call stops, if it stops with one
abbrev pub alone : Stop → List Refusal
alone Memory = []
alone (Refused refusal) = refusal ∷ []

-- As many refusals of this group are noted as there is room for.
abbrev pub Lists : List Refusal → Noted → Type 0
Lists group noted = noted.kept ≡ take noted.room group

-- Where a call stops with a refusal, as many are noted of the group of which it is the first as there is room for.
abbrev pub Tells : List Refusal → Noted → Stop → Type 0
Tells group noted Memory = ⊤
Tells group noted (Refused refusal) = Lists group noted

-- Where a call stops with a refusal, it is the first of this group, and as many of the group are noted as there is room for.
abbrev pub TellsFirst : List Refusal → Noted → Stop → Type 0
TellsFirst group noted Memory = ⊤
TellsFirst group noted (Refused refusal) = (least group ≡ Some refusal) × Lists group noted
