-- The last association that fits, as associations are put into a table one by one.
use Rattle.std.proofs.Common.{◌≡◌, ◌<◌, ◌+◌, ℕ, length, take, get_or, Bool, true, false, ◌||◌, cond, List, [], ◌∷◌, ◌++◌, filter, Option, Some, None, refl, sym, ap, ◌∙◌, append-nil}
use Rattle.std.specs.List.{last_or, list_any}
use Rattle.std.proofs.lemmas.List.{take_more}
use Rattle.std.proofs.lemmas.List.Elements.{filter-append}
use Rattle.std.proofs.lemmas.List.Folds.{list_any-append}
use denote.Ref.{Bor}
use Rattle.profiles.specs.declared.profile.Profile.{Profile}
use Rattle.aadl_syntax.specs.declared.error_model.Association.{Association}
use Rattle.package_index.specs.Names.{is_same_name}
use Rattle.package_index.specs.inner.Names.{names_of}
use Rattle.package_index.specs.declared.words.Words.{Words}
use Rattle.event_rates.specs.Associations.{fits}
use Rattle.event_rates.specs.inner.Fitting.{AddsAssociation, KnowsFitting, PutsAt, PutsAtEach, held}

-- an item more
pub front-more : {A : Type 0} (xs : List A) (i : ℕ) (x : A) → i < length xs → x ≡ get_or xs i x → take (i + 1) xs ≡ take i xs ++ x ∷ []
front-more xs i x within is = take_more xs i x within ∙ ap (λ y. take i xs ++ y ∷ []) (sym is)

last_or-snoc : {A : Type 0} (before : Option A) (xs : List A) (x : A) → last_or before (xs ++ x ∷ []) ≡ Some x
last_or-snoc before [] x = refl
last_or-snoc before (y ∷ xs) x = last_or-snoc (Some y) xs x

-- the last of those that pass, with one more
last-more : {A : Type 0} (p : A → Bool) (xs : List A) (x : A) → last_or None (filter p (xs ++ x ∷ [])) ≡ cond (p x) (Some x) (last_or None (filter p xs))
last-more p xs x = ap (last_or None) (filter-append p xs (x ∷ [])) ∙ by (p x)
  where
    by : (b : Bool) → last_or None (filter p xs ++ cond b (x ∷ []) []) ≡ cond b (Some x) (last_or None (filter p xs))
    by true = last_or-snoc None (filter p xs) x
    by false = ap (last_or None) (append-nil (filter p xs))

pub knows-more : (profile : Profile) (xs : List Association) (x : Association) (old new : Words → Option (Bor Association)) → KnowsFitting profile xs old → AddsAssociation profile old new x → KnowsFitting profile (xs ++ x ∷ []) new
knows-more profile xs x old new knows adds = λ words. adds words ∙ ap (cond (fits profile (names_of words) x) (Some x)) (knows words) ∙ sym (last-more (fits profile (names_of words)) xs x)

-- ---- targets

cond-or : {A : Type 0} (a b : Bool) (x y : A) → cond b x (cond a x y) ≡ cond (a || b) x y
cond-or true true x y = refl
cond-or true false x y = refl
cond-or false b x y = refl

pub put-more : (old now new : Words → Option (Bor Association)) (before after : List (List (List ℕ))) (target : List (List ℕ)) (x : Association)
    → ((p : List (List ℕ) → Bool) → list_any p after ≡ (list_any p before || p target)) → PutsAtEach old now before x → PutsAt now new target x → PutsAtEach old new after x
put-more old now new before after target x more had puts =
    λ words.
    let same : List (List ℕ) → Bool = λ one. is_same_name one (names_of words) in
    puts words ∙ ap (cond (same target) (Some x)) (had words) ∙ cond-or (list_any same before) (same target) (Some x) (held (old words)) ∙ ap (λ b. cond b (Some x) (held (old words))) (sym (more same))

-- some targets, and then others
pub put-both : (old now new : Words → Option (Bor Association)) (first second : List (List (List ℕ))) (x : Association) → PutsAtEach old now first x → PutsAtEach now new second x → PutsAtEach old new (first ++ second) x
put-both old now new first second x one two =
    λ words.
    let same : List (List ℕ) → Bool = λ one. is_same_name one (names_of words) in
    two words ∙ ap (cond (list_any same second) (Some x)) (one words) ∙ cond-or (list_any same first) (list_any same second) (Some x) (held (old words))
    ∙ ap (λ b. cond b (Some x) (held (old words))) (sym (list_any-append same first second))

-- one target
held-cond : (b : Bool) (x : Bor Association) (other : Option (Bor Association)) → held (cond b (Some x) other) ≡ cond b (Some x.now) (held other)
held-cond true x other = refl
held-cond false x other = refl

pub puts : (old new : Words → Option (Bor Association)) (key : Words) (x : Bor Association) → ((words : Words) → new words ≡ cond (is_same_name (names_of key) (names_of words)) (Some x) (old words)) → PutsAt old new (names_of key) x.now
puts old new key x is = λ words. ap held (is words) ∙ held-cond (is_same_name (names_of key) (names_of words)) x (old words)
