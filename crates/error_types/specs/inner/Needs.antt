-- The names that an item states, one after the other.
use Rattle.std.specs.Prelude.{◌≡◌, Bool, List, [], ◌∷◌, Option, Some, None}
use denote.Ref.{Bor}
use Rattle.aadl_syntax.specs.declared.place.Ref.{Ref}
use Rattle.aadl_syntax.specs.declared.error_model.Term.{Term}
use Rattle.error_types.specs.Walk.{Need, need_of_term}
use Rattle.error_types.specs.declared.needs.NextName.{NextName}
use Rattle.error_types.specs.declared.needs.NextName.TheVariants.{Name, Passed, End}

-- one name, if there is one
abbrev pub of_one : Bool → Option (Bor Ref) → List Need
of_one of_type None = []
of_one of_type (Some reference) = record { of_type = of_type; reference = reference.now } ∷ []

-- The next name was taken from those that were left; what is passed is none.
abbrev pub Gives : List Need → NextName → List Need → Type 0
Gives old (Name need) new = old ≡ need ∷ new
Gives old Passed new = new ≡ old
Gives old End new = (old ≡ []) × (new ≡ [])

-- What comes next is the name of a term, if it has one.
abbrev pub Names : Term → NextName → Type 0
Names term (Name need) = need_of_term term ≡ need ∷ []
Names term Passed = need_of_term term ≡ []
Names term End = ⊥
