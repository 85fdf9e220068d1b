-- The words of requirements that name nothing, or name something again.
use Rattle.std.specs.Prelude.{ℕ, ◌≡◌, ◌≤◌, ⊤, Bool, ◌++◌, List, [], ◌∷◌, cond, not, nat_lt, is_some, Option, None, Some, Contains}
use Rattle.std.specs.List.{AllByRecursion, flat_map, list_any}
use Rattle.plain_values.specs.Name.{folded, is_same_text}
use Rattle.fault_system.specs.Systems.{System}
use Rattle.requirements.specs.declared.words.PlacedWord.{PlacedWord}
use Rattle.requirements.specs.declared.sentence.Sentence.{Sentence}
use Rattle.requirements.specs.declared.sentence.Sentence.TheVariants.{Order, Mixed, Without, Possible, Never, Probability}
use Rattle.requirements.specs.declared.reading.Group.{Group}
use Rattle.requirements.specs.declared.reading.GroupKind.{GroupKind}
use Rattle.requirements.specs.declared.reading.Requirement.{Requirement}
use Rattle.requirements.specs.declared.reading.Requirements.{Requirements}
use Rattle.requirement_names.specs.declared.mistake.Mistake.{Mistake}
use Rattle.requirement_names.specs.declared.mistake.Mistake.TheVariants.{DuplicateName, UnknownTarget, UnknownGroup, EmptyGroup, BadToken}
use Rattle.requirement_names.specs.declared.mistake.WrongWord.{WrongWord}
use Rattle.requirement_names.specs.declared.mistake.NameFault.{NameFault}
use Rattle.requirement_names.specs.declared.mistake.NameFault.TheVariants as fault
use Rattle.requirement_names.specs.Names.{called, event_named, fact_named, place_of}
use Rattle.requirement_names.specs.Groups.{group_names, is_of_model}
use Rattle.requirement_names.specs.Sets.{set_named}

-- a word that is wrong, where this is so
abbrev pub wrong_if : Bool → Mistake → PlacedWord → List WrongWord
wrong_if is_so mistake word = cond is_so (record { mistake = mistake; at = word.at } ∷ []) []

-- a name that one of those before it is too
abbrev pub wrong_again : List (List ℕ) → PlacedWord → List WrongWord
wrong_again earlier word = wrong_if (list_any (λ other. is_same_text other (folded word.text)) earlier) DuplicateName word

-- the names of these that stand a second time, behind some names
abbrev pub again_behind : {Item : Type 0} → (Item → PlacedWord) → List (List ℕ) → List Item → List WrongWord
again_behind word_of earlier [] = []
again_behind word_of earlier (item ∷ items) = wrong_again earlier (word_of item) ++ again_behind word_of (earlier ++ called word_of item ∷ []) items

-- a member of a group that has no event
abbrev pub wrong_member : System → GroupKind → PlacedWord → List WrongWord
wrong_member system kind member = wrong_if (not (is_of_model system kind (folded member.text))) EmptyGroup member

-- the wrong members of a group
abbrev pub wrong_members : System → Group → List WrongWord
wrong_members system group = flat_map (wrong_member system group.kind) group.members

-- a text that names no set of events
abbrev pub wrong_token : System → PlacedWord → List WrongWord
wrong_token system token = wrong_if (not (is_some (set_named system (folded token.text)))) BadToken token

-- a word that names no group, where these are the names of all groups
abbrev pub wrong_group : List (List ℕ) → PlacedWord → List WrongWord
wrong_group groups group = wrong_if (not (is_some (place_of groups (folded group.text)))) UnknownGroup group

-- a word that names no event
abbrev pub wrong_event : System → PlacedWord → List WrongWord
wrong_event system event = wrong_if (not (is_some (event_named system (folded event.text)))) BadToken event

-- a target that is the name of no fact
abbrev pub wrong_target : System → PlacedWord → List WrongWord
wrong_target system target = wrong_if (not (is_some (fact_named system (folded target.text)))) UnknownTarget target

-- what is wrong in a sentence, where these are the names of all groups
abbrev pub wrong_in : System → List (List ℕ) → Sentence → List WrongWord
wrong_in system groups (Order least tokens) = flat_map (wrong_token system) tokens
wrong_in system groups (Mixed group most) = wrong_group groups group
wrong_in system groups (Without event) = wrong_event system event
wrong_in system groups Possible = []
wrong_in system groups Never = []
wrong_in system groups (Probability most hours) = []

-- what is wrong in a requirement, but for its own name
abbrev pub wrong_words : System → List (List ℕ) → Requirement → List WrongWord
wrong_words system groups requirement = wrong_target system requirement.target ++ wrong_in system groups requirement.sentence

-- All words of groups and requirements that are wrong: names of groups and of requirements that stand a second time, members of groups
-- that have no event, and what requirements name and is not there.
abbrev pub wrong_of : System → List Group → List Requirement → List WrongWord
wrong_of system groups requirements =
    again_behind (λ group. group.name) [] groups
    ++ (flat_map (wrong_members system) groups
    ++ (again_behind (λ requirement. requirement.name) [] requirements
    ++ flat_map (wrong_words system (group_names groups)) requirements))

-- all words of a text that are wrong
abbrev pub all_wrong : System → Requirements → List WrongWord
all_wrong system all = wrong_of system all.groups all.requirements

-- of two wrong words the one that stands first
abbrev pub earlier : Option WrongWord → WrongWord → WrongWord
earlier None word = word
earlier (Some first) word = cond (nat_lt word.at first.at) word first

-- the first of some wrong words and of what was noted before
abbrev pub noting : Option WrongWord → List WrongWord → Option WrongWord
noting first [] = first
noting first (word ∷ words) = noting (Some (earlier first word)) words

-- the first of all words that are wrong
abbrev pub first_wrong : System → Requirements → Option WrongWord
first_wrong system all = noting None (all_wrong system all)
