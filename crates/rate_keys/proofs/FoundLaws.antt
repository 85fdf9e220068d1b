-- What transitions say of a state, as they are read one by one.
use Rattle.std.proofs.Common.{◌≡◌, ◌<◌, ◌+◌, ℕ, Bool, true, false, ◌&&◌, ◌||◌, cond, List, [], ◌∷◌, ◌++◌, length, take, get_or, fold, filter_map, Option, Some, None, option_and_then, refl, sym, ap, ◌∙◌}
use Rattle.std.specs.Prelude.{option_to_list}
use Rattle.std.specs.List.{cons_option}
use Rattle.std.specs.List.{list_any}
use Rattle.std.proofs.lemmas.List.Elements.{filter_map-append}
use Rattle.std.proofs.lemmas.Grind.{fold-append}
use denote.Ref.{Bor}
use Rattle.std.specs.List.{list_all}
use Rattle.std.proofs.lemmas.Slice.Eq.{bytes_eq-Decides}
use Rattle.plain_values.specs.Name.{is_same_text}
use Rattle.aadl_syntax.specs.declared.error_model.Transition.{Transition}
use Rattle.aadl_syntax.specs.declared.error_model.StateRef.{StateRef}
use Rattle.package_index.proofs.Loops.{any-more}
use Rattle.rate_keys.specs.Keys.{common_event, is_event_of, lone_event, said_by}
use Rattle.rate_keys.specs.inner.Found.{AddsTransition, Found, KnowsFound, SaysOf, SaysOfEach, found, held, join, join_said}

-- ---- the event of which all are

abbrev pub same : Option (List ℕ) → Option (List ℕ)
same event = event

fold-several : (words : List (Option (List ℕ))) → fold join (Some None) words ≡ Some None
fold-several [] = refl
fold-several (word ∷ words) = fold-several words

by-word : (event : List ℕ) (b : Bool) (words : List (Option (List ℕ))) → option_and_then same (fold join (Some (Some event)) words) ≡ cond (list_all (is_event_of event) words) (Some event) None
    → option_and_then same (fold join (cond b (Some (Some event)) (Some None)) words) ≡ cond (b && list_all (is_event_of event) words) (Some event) None
by-word event true words rest = rest
by-word event false words rest = ap (option_and_then same) (fold-several words)

fold-one : (event : List ℕ) (words : List (Option (List ℕ))) → option_and_then same (fold join (Some (Some event)) words) ≡ cond (list_all (is_event_of event) words) (Some event) None
fold-one event [] = refl
fold-one event (word ∷ words) = by-word event (is_event_of event word) words (fold-one event words)

pub common-found : (words : List (Option (List ℕ))) → option_and_then same (fold join None words) ≡ common_event words
common-found [] = refl
common-found (None ∷ words) = ap (option_and_then same) (fold-several words)
common-found (Some event ∷ words) = fold-one event words

-- ---- twice the same

same-self : (text : List ℕ) → is_same_text text text ≡ true
same-self text = (bytes_eq-Decides text text).1 refl

join-twice : (before : Found) (word : Option (List ℕ)) → join (join before word) word ≡ join before word
join-twice None None = refl
join-twice None (Some event) = ap (λ b. cond b (Some (Some event)) (Some None)) (same-self event)
join-twice (Some None) word = refl
join-twice (Some (Some event)) word = by (is_event_of event word) refl
  where
    by : (b : Bool) → is_event_of event word ≡ b → join (cond b (Some (Some event)) (Some None)) word ≡ cond b (Some (Some event)) (Some None)
    by true is = ap (λ b. cond b (Some (Some event)) (Some None)) is
    by false is = refl

-- a state that is named once more
pub says-more : (b named : Bool) (before : Found) (word : Option (List ℕ)) → cond named (join (cond b (join before word) before) word) (cond b (join before word) before) ≡ cond (b || named) (join before word) before
says-more true true before word = join-twice before word
says-more true false before word = refl
says-more false true before word = refl
says-more false false before word = refl

-- ---- the table

pub says-each : (old now new : Bor (List ℕ) → Option (Option (Bor (List ℕ)))) (targets : List StateRef) (i : ℕ) (one : StateRef) (name : List ℕ) (word : Option (List ℕ)) → i < length targets → one ≡ get_or targets i one → name ≡ one.name
    → SaysOfEach old now (take i targets) word → SaysOf now new name word → SaysOfEach old new (take (i + 1) targets) word
says-each old now new targets i one name word within is named had says = λ state.
    let p : StateRef → Bool = λ target. is_same_text target.name state.now in
    let before = list_any p (take i targets) in
    says state ∙ ap (λ known. cond (is_same_text name state.now) (join known word) known) (had state) ∙ says-more before (is_same_text name state.now) (held (old state)) word
    ∙ ap (λ text. cond (before || is_same_text text state.now) (join (held (old state)) word) (held (old state))) named
    ∙ ap (λ b. cond b (join (held (old state)) word) (held (old state))) (sym (any-more targets i one within is p))

with-said : (before : Found) (said : Option (Option (List ℕ))) → fold join before (option_to_list said) ≡ join_said before said
with-said before None = refl
with-said before (Some word) = refl

said-of : (said : Option (Option (List ℕ))) → cons_option said [] ≡ option_to_list said
said-of None = refl
said-of (Some word) = refl

pub found-more : (events : List (List ℕ)) (transitions : List Transition) (one : Transition) (state : List ℕ) → found events (transitions ++ one ∷ []) state ≡ join_said (found events transitions state) (said_by events state one)
found-more events transitions one state =
    let said = said_by events state in
    ap (fold join None) (filter_map-append said transitions (one ∷ []) ∙ ap (λ more. filter_map said transitions ++ more) (said-of (said one)))
    ∙ fold-append join None (filter_map said transitions) (option_to_list (said one)) ∙ with-said (found events transitions state) (said one)

pub knows-more : (events : List (List ℕ)) (transitions : List Transition) (one : Transition) (old new : Bor (List ℕ) → Option (Option (Bor (List ℕ)))) → KnowsFound events transitions old → AddsTransition events old new one → KnowsFound events (transitions ++ one ∷ []) new
knows-more events transitions one old new knows adds = λ state. adds state ∙ ap (λ known. join_said known (said_by events state.now one)) (knows state) ∙ sym (found-more events transitions one state.now)

pub lone-found : (events : List (List ℕ)) (transitions : List Transition) (state : List ℕ) (entry : Option (Option (Bor (List ℕ)))) → held entry ≡ found events transitions state → option_and_then same (held entry) ≡ lone_event events transitions state
lone-found events transitions state entry is = ap (option_and_then same) is ∙ common-found (filter_map (said_by events state) transitions)
