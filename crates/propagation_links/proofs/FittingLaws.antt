-- The last binding that binds, as bindings are put into a table one by one.
use Rattle.std.proofs.Common.{◌≡◌, ◌<◌, ◌+◌, ℕ, length, take, get_or, Bool, true, false, ◌&&◌, ◌||◌, cond, List, [], ◌∷◌, ◌++◌, filter, Option, Some, None, refl, sym, ap, ◌∙◌, append-nil}
use Rattle.std.specs.List.{last_or, list_any}
use Rattle.std.proofs.lemmas.List.{take_more}
use Rattle.std.proofs.lemmas.List.Elements.{filter-append}
use denote.Ref.{Bor}
use Rattle.aadl_syntax.specs.declared.core_model.Binding.{Binding}
use Rattle.aadl_syntax.specs.declared.core_model.BindingKind.{BindingKind}
use Rattle.package_index.specs.Names.{is_same_name}
use Rattle.package_index.specs.inner.Names.{names_of}
use Rattle.package_index.specs.declared.words.Words.{Words}
use Rattle.propagation_links.specs.Bound.{binds, is_of}
use Rattle.propagation_links.specs.inner.Tables.{AddsBinding, KnowsBindings, PutsAt, held}

-- an item more
pub front-more : {A : Type 0} (xs : List A) (i : ℕ) (x : A) → i < length xs → x ≡ get_or xs i x → take (i + 1) xs ≡ take i xs ++ x ∷ []
front-more xs i x within is = take_more xs i x within ∙ ap (λ y. take i xs ++ y ∷ []) (sym is)

last_or-snoc : {A : Type 0} (before : Option A) (xs : List A) (x : A) → last_or before (xs ++ x ∷ []) ≡ Some x
last_or-snoc before [] x = refl
last_or-snoc before (y ∷ xs) x = last_or-snoc (Some y) xs x

-- the last of those that pass, with one more
last-more : {A : Type 0} (p : A → Bool) (xs : List A) (x : A) → last_or None (filter p (xs ++ x ∷ [])) ≡ cond (p x) (Some x) (last_or None (filter p xs))
last-more p xs x = ap (last_or None) (filter-append p xs (x ∷ [])) ∙ by (p x)
  where
    by : (b : Bool) → last_or None (filter p xs ++ cond b (x ∷ []) []) ≡ cond b (Some x) (last_or None (filter p xs))
    by true = last_or-snoc None (filter p xs) x
    by false = ap (last_or None) (append-nil (filter p xs))

pub knows-more : (kind : BindingKind) (xs : List Binding) (x : Binding) (old new : Words → Option (Bor Binding)) → KnowsBindings kind xs old → AddsBinding kind old new x → KnowsBindings kind (xs ++ x ∷ []) new
knows-more kind xs x old new knows adds = λ words. adds words ∙ ap (cond (binds kind (names_of words) x) (Some x)) (knows words) ∙ sym (last-more (binds kind (names_of words)) xs x)

-- ---- targets

-- a table after some targets of a binding
abbrev pub HasPut : (Words → Option (Bor Binding)) → (Words → Option (Bor Binding)) → List (List (List ℕ)) → Binding → Type 0
HasPut old new targets binding = (words : Words) → held (new words) ≡ cond (list_any (λ target. is_same_name target (names_of words)) targets) (Some binding) (held (old words))

cond-or : {A : Type 0} (a b : Bool) (x y : A) → cond b x (cond a x y) ≡ cond (a || b) x y
cond-or true true x y = refl
cond-or true false x y = refl
cond-or false b x y = refl

pub put-more : (old now new : Words → Option (Bor Binding)) (before after : List (List (List ℕ))) (target : List (List ℕ)) (x : Binding)
    → ((p : List (List ℕ) → Bool) → list_any p after ≡ (list_any p before || p target)) → HasPut old now before x → PutsAt now new target x → HasPut old new after x
put-more old now new before after target x more had puts =
    λ words.
    let same : List (List ℕ) → Bool = λ one. is_same_name one (names_of words) in
    puts words ∙ ap (cond (same target) (Some x)) (had words) ∙ cond-or (list_any same before) (same target) (Some x) (held (old words)) ∙ ap (λ b. cond b (Some x) (held (old words))) (sym (more same))

pub put-all : (kind : BindingKind) (old new : Words → Option (Bor Binding)) (targets : List (List (List ℕ))) (x : Binding) → targets ≡ x.targets → true ≡ is_of kind x → HasPut old new targets x → AddsBinding kind old new x
put-all kind old new targets x are is had = λ words. had words ∙ (λ i. cond (is i && list_any (λ target. is_same_name target (names_of words)) (are i)) (Some x) (held (old words)))

-- one target
held-cond : (b : Bool) (x : Bor Binding) (other : Option (Bor Binding)) → held (cond b (Some x) other) ≡ cond b (Some x.now) (held other)
held-cond true x other = refl
held-cond false x other = refl

pub puts : (old new : Words → Option (Bor Binding)) (key : Words) (x : Bor Binding) → ((words : Words) → new words ≡ cond (is_same_name (names_of key) (names_of words)) (Some x) (old words)) → PutsAt old new (names_of key) x.now
puts old new key x is = λ words. ap held (is words) ∙ held-cond (is_same_name (names_of key) (names_of words)) x (old words)
