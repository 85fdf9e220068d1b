-- One more verdict behind those that there are.
use Rattle.std.proofs.Common.{ℕ, suc, ◌+◌, ◌≡◌, ◌<◌, ◌∙◌, List, [], ◌∷◌, ◌++◌, add-one, ap, length, take, get_or, sym, subst}
use Rattle.std.specs.List.{AllByRecursion, AllZip}
use Rattle.std.proofs.lemmas.List.{length_push}
use Rattle.fault_system.specs.Systems.{System}
use Rattle.zdd_store.proofs.Orders.{all_contained}
use Rattle.requirement_names.specs.declared.named.NamedRequirement.{NamedRequirement}
use Rattle.requirement_names.specs.inner.Named.{FitsModel}
use Rattle.requirement_lines.specs.inner.Judged.{IsAt}
use Rattle.requirement_lines.proofs.Firsts.{zip-more}

pub grown : {B : Type 0} (before after : List B) (y : B) → after ≡ before ++ y ∷ [] → length after ≡ length before + 1
grown before after y is = ap length is ∙ length_push before y

pub one-more : {A B : Type 0} (R : A → B → Type 0) (xs : List A) (before after : List B) (x : A) (y : B) → length before < length xs → x ≡ get_or xs (length before) x → AllZip R (take (length before) xs) before → R x y
    → after ≡ before ++ y ∷ [] → AllZip R (take (length after) xs) after
one-more {A} {B} R xs before after x y within at zip here is =
    let all : AllZip R (take (suc (length before)) xs) after = subst (λ (ys : List B). AllZip R (take (suc (length before)) xs) ys) (sym is) (zip-more R xs before (length before) x y within at zip here) in
    subst (λ (n : ℕ). AllZip R (take n xs) after) (sym (grown before after y is ∙ add-one (length before))) all

-- the requirement of a number fits
pub fits-at : (system : System) (all : List NamedRequirement) (number : ℕ) (named : NamedRequirement) → AllByRecursion (FitsModel system) all → IsAt all number named → FitsModel system named
fits-at system all number named fits at = all_contained (FitsModel system) all named fits (number, at.0, sym at.1)
