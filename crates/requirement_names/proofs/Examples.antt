-- Worked rows of the definitions.
use Rattle.std.proofs.Common.{ℕ, ◌≡◌, List, [], ◌∷◌, Option, Some, None, Result, Ok, Err, refl}
use Rattle.std.specs.Prelude.{codes}
use Rattle.fault_system.specs.Systems.{System}
use Rattle.fault_system.specs.declared.formula.EventInfo.{EventInfo}
use Rattle.fault_system.specs.declared.formula.FactInfo.{FactInfo}
use Rattle.fault_system.specs.declared.formula.Formula.TheVariants.{True}
use Rattle.requirements.specs.Requirements.{requirements_of}
use Rattle.requirements.specs.declared.reading.Requirements.{Requirements}
use Rattle.requirement_names.specs.declared.mistake.Mistake.TheVariants.{DuplicateName, UnknownTarget, UnknownGroup, EmptyGroup, BadToken}
use Rattle.requirement_names.specs.declared.mistake.WrongWord.{WrongWord}
use Rattle.requirement_names.specs.declared.named.NamedRequirement.{NamedRequirement}
use Rattle.requirement_names.specs.declared.named.NamedSentence.TheVariants.{OfSets}
use Rattle.requirement_names.specs.declared.named.SetSentence.TheVariants.{Order, Mixed, Without}
use Rattle.requirement_names.specs.Sets.{set_named}
use Rattle.requirement_names.specs.Wrong.{first_wrong}
use Rattle.requirement_names.specs.Named.{named_requirements}

abbrev event : List ℕ → EventInfo
event name = record { name = name; owner = 0; key = [] }

abbrev fact : List ℕ → FactInfo
fact name = record { name = name; owner = 0; formula = True }

-- two facts and three events
abbrev sample : System
sample = record {
  facts = fact (codes "root/out:t") ∷ fact (codes "root.n/state:ok") ∷ [];
  events = event (codes "root.a.sw/f") ∷ event (codes "root.b/f") ∷ event (codes "root.a/g") ∷ [];
}

abbrev wrong_of : Result Requirements ℕ → Option WrongWord
wrong_of (Ok all) = first_wrong sample all
wrong_of (Err at) = None

abbrev named_of : Result Requirements ℕ → List NamedRequirement
named_of (Ok all) = named_requirements sample all
named_of (Err at) = []

-- nothing is wrong in four lines: letters of any case, a component with what lies below it, and a set in another order
nothing_wrong : wrong_of (requirements_of (codes "parts g Root.A\nR ROOT/out:t mixed G 2\nS root/out:t order 3 except root.b/f+root.a.sw/f\nT root/out:t without root.b/f")) ≡ None
nothing_wrong = refl

four : named_of (requirements_of (codes "parts g Root.A\nR ROOT/out:t mixed G 2\nS root/out:t order 3 except root.b/f+root.a.sw/f\nT root/out:t without root.b/f"))
    ≡ record { name = record { text = codes "R"; at = 15 }; target = 0; sentence = OfSets (Mixed (0 ∷ 2 ∷ []) (Some 2)) }
    ∷ record { name = record { text = codes "S"; at = 38 }; target = 0; sentence = OfSets (Order 3 ((0 ∷ 1 ∷ []) ∷ [])) }
    ∷ record { name = record { text = codes "T"; at = 87 }; target = 0; sentence = OfSets (Without 1) } ∷ []
four = refl

-- a component that the model does not have
no_component : wrong_of (requirements_of (codes "parts g root.c\nR root/out:t never")) ≡ Some (record { mistake = EmptyGroup; at = 8 })
no_component = refl

-- a component that has a fact and no event
no_event_below : wrong_of (requirements_of (codes "parts g root.n\nR root/out:t never")) ≡ Some (record { mistake = EmptyGroup; at = 8 })
no_event_below = refl

-- the front of a name is no component
no_front : wrong_of (requirements_of (codes "parts g root.a.s\nR root/out:t never")) ≡ Some (record { mistake = EmptyGroup; at = 8 })
no_front = refl

-- a component is no event
no_event : wrong_of (requirements_of (codes "events g root.a\nR root/out:t never")) ≡ Some (record { mistake = EmptyGroup; at = 9 })
no_event = refl

-- a target that is no fact
no_fact : wrong_of (requirements_of (codes "R root/out:u never")) ≡ Some (record { mistake = UnknownTarget; at = 2 })
no_fact = refl

-- of two wrong words the one that stands first, whatever it is
by_place : wrong_of (requirements_of (codes "R root/out:u never\nparts g root.c")) ≡ Some (record { mistake = UnknownTarget; at = 2 })
by_place = refl

-- and the other way round
by_place_too : wrong_of (requirements_of (codes "parts g root.c\nR root/out:u never")) ≡ Some (record { mistake = EmptyGroup; at = 8 })
by_place_too = refl

-- a requirement of a name that one before it has, but for the case of a letter
twice : wrong_of (requirements_of (codes "R root/out:t never\nr root/out:t possible")) ≡ Some (record { mistake = DuplicateName; at = 19 })
twice = refl

-- a second group of a name
group_twice : wrong_of (requirements_of (codes "parts g root.a\nevents g root.b/f\nR root/out:t never")) ≡ Some (record { mistake = DuplicateName; at = 22 })
group_twice = refl

-- a group that the text does not have
no_group : wrong_of (requirements_of (codes "R root/out:t mixed g")) ≡ Some (record { mistake = UnknownGroup; at = 19 })
no_group = refl

-- a text that names no set of events
no_set : wrong_of (requirements_of (codes "R root/out:t order 2 except root.b/f+root.c/f")) ≡ Some (record { mistake = BadToken; at = 28 })
no_set = refl

-- a word that names no event
not_without : wrong_of (requirements_of (codes "R root/out:t without root.b")) ≡ Some (record { mistake = BadToken; at = 21 })
not_without = refl

-- a group may stand behind the requirement that names it, and may have the name of a requirement
later : wrong_of (requirements_of (codes "g root/out:t mixed g\nparts g root.b")) ≡ None
later = refl

-- the set of no event
no_events : set_named sample (codes "none") ≡ Some []
no_events = refl

-- an event that is named twice is in the set once
once : set_named sample (codes "root.b/f+root.b/f") ≡ Some (1 ∷ [])
once = refl
