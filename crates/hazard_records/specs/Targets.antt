-- What properties of hazards are said of (EMV2, ARP4761, MILSTD882: `Hazards`, `Severity`, `Likelihood`).
use Rattle.std.specs.Prelude.{ℕ, Bool, true, false, ◌&&◌, List, [], ◌∷◌, ◌++◌, codes, flat_map, map, Option, None, Some}
use Rattle.std.specs.List.{list_any}
use Rattle.plain_values.specs.Name.{is_same_text}
use Rattle.profiles.specs.declared.profile.Profile.{Profile}
use Rattle.profiles.specs.declared.profile.Profile.TheVariants.{First, Second}
use Rattle.aadl_syntax.specs.declared.error_model.Association.{Association}
use Rattle.aadl_syntax.specs.declared.error_model.OtherTarget.{OtherTarget}
use Rattle.hazard_records.specs.declared.target.Target.{Target}

-- ---- properties

-- whether there are no names
abbrev pub is_empty : List (List ℕ) → Bool
is_empty [] = true
is_empty (name ∷ names) = false

-- whether a property is that of this word, where this is its first name: alone, or behind the name of one property set
abbrev pub is_named_behind : List ℕ → List ℕ → List (List ℕ) → Bool
is_named_behind word first [] = is_same_text first word
is_named_behind word first (second ∷ further) = is_empty further && is_same_text second word

-- Whether a property is that of this word, of whatever property set.
abbrev pub is_named : List ℕ → List (List ℕ) → Bool
is_named word [] = false
is_named word (first ∷ rest) = is_named_behind word first rest

-- ---- targets

-- names with single dots between them
abbrev pub dotted : List (List ℕ) → List ℕ
dotted [] = []
dotted (name ∷ names) = name ++ flat_map (λ other. codes "." ++ other) names

-- the target of names with single dots between them
abbrev pub plain_target : List (List ℕ) → Target
plain_target names = record { text = dotted names; names = Some names }

-- the names of a path that is more than names with single dots between them: by the first profile it has none, by the second `^lane1@fault` has those of
-- `lane1.fault`
abbrev pub other_names : Profile → OtherTarget → Option (List (List ℕ))
other_names First other = None
other_names Second other = other.names

-- the target of such a path, whose text is as it stands
abbrev pub other_target : Profile → OtherTarget → Target
other_target profile other = record { text = other.text; names = other_names profile other }

-- the targets to which an association applies
abbrev pub applied : Profile → Association → List Target
applied profile association = map plain_target association.targets ++ map (other_target profile) association.others

-- the target of an association that applies to nothing
abbrev pub no_target : Target
no_target = record { text = codes "-"; names = None }

-- some targets, or that of an association that applies to nothing
abbrev pub or_none : List Target → List Target
or_none [] = no_target ∷ []
or_none (target ∷ targets) = target ∷ targets

-- The targets of an association: first those that are names with single dots between them, and then all others, each in order; `-` where it has none.
abbrev pub targets_of : Profile → Association → List Target
targets_of profile association = or_none (applied profile association)

-- whether one of the targets has this text
abbrev pub has_target : List ℕ → List Target → Bool
has_target text targets = list_any (λ target. is_same_text target.text text) targets

-- Whether an association is one of the property of this word, and has a target of this text.
abbrev pub says_of : Profile → List ℕ → List ℕ → Association → Bool
says_of profile word text association = is_named word association.name && has_target text (targets_of profile association)
