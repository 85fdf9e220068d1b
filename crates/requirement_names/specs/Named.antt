-- Requirements whose names are numbers.
use Rattle.std.specs.Prelude.{ℕ, ◌<◌, ◌≡◌, ◌≢◌, List, [], length, map, None, unwrap_or}
use Rattle.std.specs.List.{AllByRecursion}
use Rattle.plain_values.specs.Name.{folded}
use Rattle.fault_system.specs.Systems.{System}
use Rattle.fault_system.specs.CutSets.{IsEventSet}
use Rattle.requirements.specs.declared.words.PlacedWord.{PlacedWord}
use Rattle.requirements.specs.declared.sentence.Sentence.{Sentence}
use Rattle.requirements.specs.declared.sentence.Sentence.TheVariants as word
use Rattle.requirements.specs.declared.reading.Requirement.{Requirement}
use Rattle.requirements.specs.declared.reading.Requirements.{Requirements}
use Rattle.requirement_names.specs.declared.named.NamedRequirement.{NamedRequirement}
use Rattle.requirement_names.specs.declared.named.NamedSentence.{NamedSentence}
use Rattle.requirement_names.specs.declared.named.NamedSentence.TheVariants.{OfSets, Probability}
use Rattle.requirement_names.specs.declared.named.SetSentence.{SetSentence}
use Rattle.requirement_names.specs.declared.named.SetSentence.TheVariants.{Order, Mixed, Without, Possible, Never}
use Rattle.requirement_names.specs.Names.{event_named, fact_named}
use Rattle.requirement_names.specs.Groups.{events_named, group_names, group_sets}
use Rattle.requirement_names.specs.Sets.{set_named}
use Rattle.requirement_names.specs.Wrong.{first_wrong}

-- the set of events that a word names
abbrev pub set_of_word : System → PlacedWord → List ℕ
set_of_word system word = unwrap_or (set_named system (folded word.text)) []

-- a sentence whose names are numbers of events, where these are the names of all groups and their events
abbrev pub named_sentence : System → List (List ℕ) → List (List ℕ) → Sentence → NamedSentence
named_sentence system names sets (word.Order least tokens) = OfSets (Order least (map (set_of_word system) tokens))
named_sentence system names sets (word.Mixed group most) = OfSets (Mixed (events_named names sets (folded group.text)) most)
named_sentence system names sets (word.Without event) = OfSets (Without (unwrap_or (event_named system (folded event.text)) 0))
named_sentence system names sets word.Possible = OfSets Possible
named_sentence system names sets word.Never = OfSets Never
named_sentence system names sets (word.Probability most hours) = Probability most hours

-- a requirement with the number of its fact
abbrev pub named_requirement : System → List (List ℕ) → List (List ℕ) → Requirement → NamedRequirement
named_requirement system names sets requirement = record {
  name = requirement.name;
  target = unwrap_or (fact_named system (folded requirement.target.text)) 0;
  sentence = named_sentence system names sets requirement.sentence;
}

-- all requirements with numbers in place of names, in their order
abbrev pub named_requirements : System → Requirements → List NamedRequirement
named_requirements system all = map (named_requirement system (group_names all.groups) (group_sets system all.groups)) all.requirements
