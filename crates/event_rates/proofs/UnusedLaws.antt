-- The rates that are said of no event, with those of one component more, and sets of names.
use Rattle.std.proofs.Common.{◌≡◌, ◌<◌, ◌+◌, ℕ, Bool, true, false, ◌||◌, cond, List, [], ◌++◌, length, take, get_or, None, refl, sym, ap, ◌∙◌}
use Rattle.std.proofs.lemmas.List.{get_or_default}
use Rattle.plain_values.specs.Numbered.{numbered_from}
use Rattle.package_index.proofs.Loops.{any-more, numbered-more}
use Rattle.profiles.specs.declared.profile.Profile.{Profile}
use Rattle.package_index.specs.Names.{is_same_name}
use Rattle.package_index.specs.declared.words.Words.{Words}
use Rattle.package_index.specs.inner.Names.{names_of}
use Rattle.package_index.specs.inner.Tables.{same_words}
use Rattle.instantiator.specs.declared.path.Component.{Component}
use Rattle.instantiator.specs.Whole.{Instance}
use Rattle.event_rates.specs.Unused.{unused_at, unused_in}
use Rattle.event_rates.specs.declared.unused.UnusedRate.{UnusedRate}
use Rattle.event_rates.specs.inner.Known.{KnowsNames}

pub unused-more : (profile : Profile) (names : List (List (List ℕ))) (instance : Instance) (i : ℕ) → i < length instance.components → (before after : List UnusedRate)
    → before ≡ numbered_from (unused_at profile names instance) 0 (take i instance.components) → after ≡ before ++ unused_in profile names instance i
    → after ≡ numbered_from (unused_at profile names instance) 0 (take (i + 1) instance.components)
unused-more profile names instance i within before after had adds =
    let all = instance.components in
    let none : Component = record { path = []; classifier = None } in
    let component : Component = get_or all i none in
    adds ∙ ap (λ front. front ++ unused_in profile names instance i) had
    ∙ sym (numbered-more (unused_at profile names instance) all i component within (get_or_default all i none component within))

-- a name that is put into a set
one-more : (b had : Bool) → cond b true had ≡ (had || b)
one-more true true = refl
one-more true false = refl
one-more false true = refl
one-more false false = refl

pub names-more : (all : List (List (List ℕ))) (i : ℕ) (name : List (List ℕ)) (key : Words) → i < length all → name ≡ get_or all i name → names_of key ≡ name → (old new : Words → Bool)
    → KnowsNames (take i all) old → ((words : Words) → new words ≡ cond (same_words key words) true (old words)) → KnowsNames (take (i + 1) all) new
names-more all i name key within is keyed old new knows put = λ words.
    let same : List (List ℕ) → Bool = λ other. is_same_name other (names_of words) in
    put words ∙ one-more (same (names_of key)) (old words) ∙ (λ k. knows words k || same (keyed k)) ∙ sym (any-more all i name within is same)
