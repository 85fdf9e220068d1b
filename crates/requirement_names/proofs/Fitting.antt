-- What requirements name is there, where no word is wrong.
use Rattle.std.proofs.Common.{ℕ, zero, suc, ◌+◌, ◌≡◌, ◌<◌, Bool, true, false, not, cond, nat_lt, List, [], ◌∷◌, ◌++◌, length, map, filter, Option, Some, None, is_some, unwrap_or, position, slice_get, refl, sym, ap, subst, ◌∙◌, arith}
use Rattle.std.specs.Prelude.{codes}
use Rattle.std.specs.List.{AllByRecursion, flat_map, position_or_len}
use Rattle.std.specs.Option.{option_and_then}
use Rattle.std.proofs.lemmas.Bool.{false≢true}
use Rattle.std.proofs.lemmas.Bool.Decides.{nat_tests}
use Rattle.std.proofs.lemmas.List.{length-map}
use Rattle.plain_values.specs.Name.{folded, is_same_text}
use Rattle.plain_values.specs.Numbered.{numbers_below}
use Rattle.plain_values.specs.Rising.{RisesWithin}
use Rattle.plain_values.proofs.Rising.{rises-push}
use Rattle.fault_system.specs.Systems.{System}
use Rattle.fault_system.specs.CutSets.{IsEventSet}
use Rattle.fault_system.proofs.NumberSets.{RisesWithin-filter}
use Rattle.requirements.specs.declared.words.PlacedWord.{PlacedWord}
use Rattle.requirements.specs.declared.sentence.Sentence.{Sentence}
use Rattle.requirements.specs.declared.sentence.Sentence.TheVariants.{Order, Mixed, Without, Possible, Never, Probability}
use Rattle.requirements.specs.declared.reading.Group.{Group}
use Rattle.requirements.specs.declared.reading.Requirement.{Requirement}
use Rattle.requirements.specs.declared.reading.Requirements.{Requirements}
use Rattle.requirement_names.specs.declared.mistake.Mistake.{Mistake}
use Rattle.requirement_names.specs.declared.mistake.WrongWord.{WrongWord}
use Rattle.requirement_names.specs.declared.named.NamedRequirement.{NamedRequirement}
use Rattle.requirement_names.specs.Names.{event_named, event_names, fact_named, fact_names, place_of}
use Rattle.requirement_names.specs.Groups.{events_named, group_events, group_names, group_sets}
use Rattle.requirement_names.specs.Sets.{are_events, events_of, parts_of, set_named}
use Rattle.requirement_names.specs.Wrong.{again_behind, all_wrong, wrong_if, wrong_in, wrong_members, wrong_words}
use Rattle.requirement_names.specs.Named.{named_requirement, named_sentence, set_of_word}
use Rattle.requirement_names.specs.inner.Named.{AreNamed, FitsModel, FitsSentence}
use Rattle.requirement_names.proofs.Firsts.{none-noted}

-- ---- empty lists

no-front : {A : Type 0} (xs ys : List A) → xs ++ ys ≡ [] → xs ≡ []
no-front [] ys none = refl
no-front (x ∷ xs) ys none = cc

no-back : {A : Type 0} (xs ys : List A) → xs ++ ys ≡ [] → ys ≡ []
no-back [] ys none = none
no-back (x ∷ xs) ys none = cc

-- a word that is not noted is not wrong
right-word : (is_so : Bool) (mistake : Mistake) (word : PlacedWord) → wrong_if is_so mistake word ≡ [] → is_so ≡ false
right-word false mistake word none = refl
right-word true mistake word none = cc

some-there : (b : Bool) → not b ≡ false → b ≡ true
some-there true is = refl
some-there false is = absurd (false≢true (sym is))

-- ---- places and sets

within-cond : (b : Bool) (place count : ℕ) → nat_lt place count ≡ b → is_some (cond b (Some place) None) ≡ true → unwrap_or (cond b (Some place) None) 0 < count
within-cond true place count is there = grind (arith, nat_tests, is)
within-cond false place count is there = absurd (false≢true there)

within-place : {A : Type 0} (p : A → Bool) (xs : List A) → is_some (position p xs) ≡ true → unwrap_or (position p xs) 0 < length xs
within-place p xs there = within-cond (nat_lt (position_or_len p xs) (length xs)) (position_or_len p xs) (length xs) refl there

rises-below : (count : ℕ) → RisesWithin 0 count (numbers_below count)
rises-below zero = tt
rises-below (suc count) =
    let same : count + 1 ≡ suc count = omega arith in
    subst (λ high. RisesWithin 0 high (numbers_below (suc count))) same (rises-push 0 count (numbers_below count) (omega arith) (rises-below count))

some-numbers : (system : System) (p : ℕ → Bool) → IsEventSet system (filter p (numbers_below (length system.events)))
some-numbers system p = RisesWithin-filter p 0 (length system.events) (numbers_below (length system.events)) (rises-below (length system.events))

module _ (system : System) where
  set-rises : (text : List ℕ) → IsEventSet system (unwrap_or (set_named system text) [])
  set-rises text = by (is_same_text text (codes "none")) (are_events system (parts_of text)) where
    by : (none every : Bool) → IsEventSet system (unwrap_or (cond none (Some []) (cond every (Some (events_of system (parts_of text))) None)) [])
    by true every = tt
    by false true = some-numbers system _
    by false false = tt

  tokens-rise : (tokens : List PlacedWord) → AllByRecursion (IsEventSet system) (map (set_of_word system) tokens)
  tokens-rise [] = tt
  tokens-rise (token ∷ tokens) = (set-rises (folded token.text), tokens-rise tokens)

  group-rises : (groups : List Group) (place : Option ℕ) → IsEventSet system (unwrap_or (option_and_then (slice_get (group_sets system groups)) place) [])
  group-rises groups None = tt
  group-rises groups (Some n) = at groups n where
    at : (groups : List Group) (n : ℕ) → IsEventSet system (unwrap_or (slice_get (group_sets system groups) n) [])
    at [] n = tt
    at (group ∷ groups) zero = some-numbers system _
    at (group ∷ groups) (suc n) = at groups n

  module _ (groups : List Group) where
    sentence-fits : (sentence : Sentence) → wrong_in system (group_names groups) sentence ≡ [] → FitsSentence system (named_sentence system (group_names groups) (group_sets system groups) sentence)
    sentence-fits (Order least tokens) none = tokens-rise tokens
    sentence-fits (Mixed group most) none = group-rises groups (place_of (group_names groups) (folded group.text))
    sentence-fits (Without event) none =
        subst (λ count. unwrap_or (event_named system (folded event.text)) 0 < count) (length-map system.events (λ event. event.name))
        (within-place _ (event_names system) (some-there _ (right-word _ _ event none)))
    sentence-fits Possible none = tt
    sentence-fits Never none = tt
    sentence-fits (Probability most hours) none = tt

    one-fits : (requirement : Requirement) → wrong_words system (group_names groups) requirement ≡ [] → FitsModel system (named_requirement system (group_names groups) (group_sets system groups) requirement)
    one-fits requirement none = record {
      target = subst (λ count. unwrap_or (fact_named system (folded requirement.target.text)) 0 < count) (length-map system.facts (λ fact. fact.name))
          (within-place _ (fact_names system) (some-there _ (right-word _ _ requirement.target (no-front _ (wrong_in system (group_names groups) requirement.sentence) none))));
      sentence = sentence-fits requirement.sentence (no-back _ (wrong_in system (group_names groups) requirement.sentence) none);
    }

    each-fits : (requirements : List Requirement) → flat_map (wrong_words system (group_names groups)) requirements ≡ []
        → AllByRecursion (FitsModel system) (map (named_requirement system (group_names groups) (group_sets system groups)) requirements)
    each-fits [] none = tt
    each-fits (requirement ∷ requirements) none = (
      one-fits requirement (no-front _ (flat_map (wrong_words system (group_names groups)) requirements) none),
      each-fits requirements (no-back (wrong_words system (group_names groups) requirement) _ none),
    )

pub all-fit : (system : System) (all : Requirements) (named : List NamedRequirement) → AreNamed system all named → AllByRecursion (FitsModel system) named
all-fit system all named its =
    let none : all_wrong system all ≡ [] = none-noted (all_wrong system all) its.none_wrong in
    let behind = no-back (again_behind (λ group. group.name) [] all.groups) _ none in
    let behind_groups = no-back (flat_map (wrong_members system) all.groups) _ behind in
    let behind_names = no-back (again_behind (λ requirement. requirement.name) [] all.requirements) _ behind_groups in
    subst (AllByRecursion (FitsModel system)) (sym its.each) (each-fits system all.groups all.requirements behind_names)
