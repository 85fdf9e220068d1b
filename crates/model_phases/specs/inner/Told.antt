-- What is told of the group of refusals that ends a call.
use Rattle.std.specs.Prelude.{List, [], ◌∷◌, ⊤}
use Rattle.plain_values.specs.declared.refusal.Refusal.{Refusal}
use Rattle.plain_values.specs.declared.refusal.Stop.TheVariants as stop
use Rattle.noted_refusals.specs.Groups.{or_group}
use Rattle.noted_refusals.specs.inner.Noted.{Noted, TellsFirst}
use Rattle.phases.specs.declared.status.Status.{Status}
use Rattle.phases.specs.declared.status.Status.TheVariants.{Refused}

-- Where a status is a refusal, this is so of it.
abbrev pub OnRefusal : (Refusal → Type 0) → Status → Type 0
OnRefusal Is (Refused refusal) = Is refusal
OnRefusal Is _ = ⊤

-- Where a status is a refusal, it is the first of this group, of which as many are noted as there is room for.
abbrev pub ToldFirst : List Refusal → Noted → Status → Type 0
ToldFirst group noted = OnRefusal (λ refusal. TellsFirst group noted (stop.Refused refusal))

-- The same of this group, and of the refusal alone where nothing is refused in the group.
abbrev pub ToldOf : List Refusal → Noted → Status → Type 0
ToldOf group noted = OnRefusal (λ refusal. TellsFirst (or_group group (refusal ∷ [])) noted (stop.Refused refusal))
