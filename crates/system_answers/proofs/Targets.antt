-- The fact that a target names.
use Rattle.std.proofs.Common.{◌≡◌, ◌<◌, List, ℕ, [], length, get_or, map, refl, sym, ap, ◌∙◌, inl, inr, arith}
use Rattle.std.proofs.lemmas.Bool.{cases_lt}
use Rattle.std.proofs.lemmas.Option.{slice_get_within, get_or_from_slice_get}
use Rattle.std.proofs.lemmas.List.{get_or-map}
use lib.ListN.{length-map}
use Rattle.plain_values.specs.declared.refusal.Code.TheVariants.{UnknownTarget}
use Rattle.plain_values.proofs.OrderLaws.{first_alone}
use Rattle.fault_system.specs.Systems.{System, NamesDiffer}
use Rattle.phases.specs.Phases.{Stops, answers}
use Rattle.phases.specs.declared.status.Status.TheVariants.{Refused}
use Rattle.plain_values.specs.Refusal.{of_words}
use Rattle.system_answers.specs.Targets.{HasName, IsFactNamed, LacksTarget}

-- no fact has the name
pub no_target : (system : System) (name : List ℕ) → ((number : ℕ) → HasName system name number → ⊥) → Stops (answers (IsFactNamed system name) (LacksTarget system name)) (Refused (of_words UnknownTarget))
no_target system name none =
    record { stopped = (of_words UnknownTarget, first_alone (LacksTarget system name) (of_words UnknownTarget) (none, refl) (λ other also. also.1), refl) }

-- two places of one name are one, where names differ
apart : (names : List (List ℕ)) (m n : ℕ) (name : List ℕ) → NamesDiffer names → get_or names m [] ≡ name → get_or names n [] ≡ name → m < n → n < length names → ⊥
apart names m n name differ e f lt within = differ m n [] lt within (e ∙ sym f)

-- one fact has the name
pub one_number : (system : System) (m n : ℕ) (name : List ℕ) → NamesDiffer (map (λ fact. fact.name) system.facts) → HasName system name m → HasName system name n → m ≡ n
one_number system m n name differ a b =
    elim (cases_lt m n) [
      | inl below ↦ absurd (apart names m n name differ (named m a) (named n b) below (within n b))
      | inr above ↦ elim (cases_lt n m) [
        | inl below ↦ absurd (apart names n m name differ (named n b) (named m a) below (within m a))
        | inr same ↦ omega arith
      ]
    ]
  where
    names : List (List ℕ)
    names = map (λ fact. fact.name) system.facts

    within : (k : ℕ) (c : HasName system name k) → k < length (map (λ fact. fact.name) system.facts)
    within k c = let lt : k < length system.facts = slice_get_within system.facts k c.fact c.there in omega (arith, length-map system.facts (λ fact. fact.name))

    named : (k : ℕ) (c : HasName system name k) → get_or (map (λ fact. fact.name) system.facts) k [] ≡ name
    named k c =
        get_or-map (λ fact. fact.name) system.facts k c.fact [] (slice_get_within system.facts k c.fact c.there) ∙ ap (λ fact. fact.name) (get_or_from_slice_get system.facts k c.fact c.fact c.there) ∙ c.named
