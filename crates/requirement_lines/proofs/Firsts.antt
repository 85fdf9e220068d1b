-- The first requirement that is not judged.
use Rattle.std.proofs.Common.{ℕ, zero, suc, ◌+◌, ◌≡◌, ◌<◌, List, [], ◌∷◌, ◌++◌, length, take, drop, get_or, refl, sym, ap, subst, ◌∙◌, arith}
use Rattle.std.specs.List.{AllByRecursion, AllZip}
use Rattle.fault_system.specs.Systems.{System}
use Rattle.property_reader.specs.declared.rate.Rate.{Rate}
use Rattle.requirement_names.specs.declared.named.NamedRequirement.{NamedRequirement}
use Rattle.requirement_lines.specs.declared.judgement.Judgement.{Judgement}
use Rattle.requirement_lines.specs.declared.told.RequirementFault.{RequirementFault}
use Rattle.requirement_lines.specs.inner.Judged.{CanBeJudged, IsFirstUnjudged, IsJudgedSo, IsUnjudged}

-- one more pair
pub zip-more : {A B : Type 0} (R : A → B → Type 0) (xs : List A) (ys : List B) (i : ℕ) (x : A) (y : B) → i < length xs → x ≡ get_or xs i x → AllZip R (take i xs) ys → R x y → AllZip R (take (suc i) xs) (ys ++ y ∷ [])
zip-more R [] ys i x y within is zip here = absurd (omega arith)
zip-more R (z ∷ xs) [] zero x y within is zip here = (subst (λ v. R v y) is here, tt)
zip-more R (z ∷ xs) (w ∷ ys) zero x y within is zip here = absurd zip
zip-more R (z ∷ xs) [] (suc i) x y within is zip here = absurd zip
zip-more R (z ∷ xs) (w ∷ ys) (suc i) x y within is zip here = (zip.0, zip-more R xs ys i x y (omega arith) is zip.1 here)

-- a list at one of its places
pub split-at : {A : Type 0} (xs : List A) (i : ℕ) (x : A) → i < length xs → x ≡ get_or xs i x → xs ≡ take i xs ++ x ∷ drop (suc i) xs
split-at [] i x within is = absurd (omega arith)
split-at (z ∷ xs) zero x within is = ap (λ y. y ∷ xs) (sym is)
split-at (z ∷ xs) (suc i) x within is = ap (λ ys. z ∷ ys) (split-at xs i x (omega arith) is)

-- each of two lists is judged
pub each-judged : (system : System) (rates : List Rate) (all : List NamedRequirement) (judgements : List Judgement) → AllZip (IsJudgedSo system rates) all judgements → AllByRecursion (CanBeJudged system rates) all
each-judged system rates [] [] zip = tt
each-judged system rates [] (j ∷ js) zip = absurd zip
each-judged system rates (n ∷ ns) [] zip = absurd zip
each-judged system rates (n ∷ ns) (j ∷ js) zip = ((j, zip.0), each-judged system rates ns js zip.1)

pub first-unjudged : (system : System) (rates : List Rate) (all : List NamedRequirement) (judgements : List Judgement) (i : ℕ) (one : NamedRequirement) (fault : RequirementFault) → i < length all → one ≡ get_or all i one → AllZip (IsJudgedSo system rates) (take i all) judgements
    → IsUnjudged system one fault → IsFirstUnjudged system rates all fault
first-unjudged system rates all judgements i one fault within is zip here =
    record { front = take i all; one = one; rest = drop (suc i) all; whole = split-at all i one within is; before = each-judged system rates (take i all) judgements zip; here = here }
