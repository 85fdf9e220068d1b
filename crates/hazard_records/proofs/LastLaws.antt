-- The last association that passes a test, with one association more.
use Rattle.std.proofs.Common.{◌≡◌, ◌<◌, ◌+◌, ℕ, Bool, true, false, cond, List, [], ◌∷◌, ◌++◌, length, take, get_or, filter, map, Option, Some, None, refl, sym, ap, ◌∙◌, append-nil}
use Rattle.std.specs.List.{last_or}
use Rattle.std.proofs.lemmas.List.{map-append, take_more}
use Rattle.std.proofs.lemmas.List.Elements.{filter-append}
use denote.Ref.{Bor}
use Rattle.aadl_syntax.specs.declared.error_model.Association.{Association}

abbrev now : Bor Association → Association
now association = association.now

last_or-snoc : {A : Type 0} (before : Option A) (xs : List A) (x : A) → last_or before (xs ++ x ∷ []) ≡ Some x
last_or-snoc before [] x = refl
last_or-snoc before (y ∷ xs) x = last_or-snoc (Some y) xs x

-- the last of those that pass, with one more
last-snoc : {A : Type 0} (p : A → Bool) (xs : List A) (x : A) → last_or None (filter p (xs ++ x ∷ [])) ≡ cond (p x) (Some x) (last_or None (filter p xs))
last-snoc p xs x = ap (last_or None) (filter-append p xs (x ∷ [])) ∙ by (p x)
  where
    by : (b : Bool) → last_or None (filter p xs ++ cond b (x ∷ []) []) ≡ cond b (Some x) (last_or None (filter p xs))
    by true = last_or-snoc None (filter p xs) x
    by false = ap (last_or None) (append-nil (filter p xs))

pub last-more : (p : Association → Bool) (xs : List (Bor Association)) (i : ℕ) (x : Bor Association) → i < length xs → x ≡ get_or xs i x → (before after : Option Association)
    → before ≡ last_or None (filter p (map now (take i xs))) → after ≡ cond (p x.now) (Some x.now) before → after ≡ last_or None (filter p (map now (take (i + 1) xs)))
last-more p xs i x within is before after had one =
    let front = take_more xs i x within ∙ ap (λ (y : Bor Association). take i xs ++ y ∷ []) (sym is) in
    one ∙ ap (cond (p x.now) (Some x.now)) had
    ∙ sym (ap (λ (ys : List (Bor Association)). last_or None (filter p (map now ys))) front ∙ ap (λ (ys : List Association). last_or None (filter p ys)) (map-append now (take i xs) (x ∷ [])) ∙ last-snoc p (map now (take i xs)) x.now)
