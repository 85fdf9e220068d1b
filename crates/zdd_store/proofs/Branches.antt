-- Branches: their least number, that their sets rise, and that they tell their variable and children.
use Rattle.std.proofs.Common.{◌≡◌, ℕ, ◌<◌, ◌≤◌, List, [], ◌∷◌, refl, sym, ap, ◌∙◌, subst, arith}
use Rattle.std.specs.List.{AllByRecursion}
use Rattle.zdd_store.specs.inner.Family.{Family, branch, least_of, least_number, IsRising}

-- a branch without sets under its variable is its lo
pub branch-empty : (var : ℕ) (lo : Family) → branch var lo [] ≡ lo
unfolding branch
branch-empty var lo = refl

-- the sets with the variable first
unfoldable pub with_var : ℕ → Family → Family → Family
with_var var [] lo = lo
with_var var (set ∷ sets) lo = (var ∷ set) ∷ with_var var sets lo

pub branch-with_var : (var : ℕ) (lo hi : Family) → branch var lo hi ≡ with_var var hi lo
unfolding branch with_var
branch-with_var var lo [] = refl
branch-with_var var lo (set ∷ sets) = ap (λ rest. (var ∷ set) ∷ rest) (branch-with_var var lo sets)

-- no number of a set with the variable first is greater than the variable at the least
least-with_var : (var : ℕ) (set : List ℕ) (sets lo : Family) → least_number (with_var var (set ∷ sets) lo) ≤ var
unfolding with_var least_number least_of
least-with_var var set sets lo = omega arith

-- from where the numbers of lo and hi are not less, those of the branch are not less
least-bound : (low var : ℕ) (lo hi : Family) → low ≤ var → low ≤ least_number lo → low ≤ least_number hi → low ≤ least_number (with_var var hi lo)
unfolding with_var least_number least_of
least-bound low var lo [] h l r = l
least-bound low var lo (set ∷ sets) h l r = let rest : low ≤ least_number (with_var var sets lo) = least-bound low var lo sets h l (omega arith) in omega arith

-- the least number of a branch with a set under its variable is the variable
pub least_number-branch : (var : ℕ) (lo : Family) (set : List ℕ) (sets : Family) → var < least_number lo → var < least_number (set ∷ sets) → least_number (branch var lo (set ∷ sets)) ≡ var
least_number-branch var lo set sets l r =
    let below : least_number (with_var var (set ∷ sets) lo) ≤ var = least-with_var var set sets lo in
    let above : var ≤ least_number (with_var var (set ∷ sets) lo) = least-bound var var lo (set ∷ sets) (omega arith) (omega arith) (omega arith) in
    ap least_number (branch-with_var var lo (set ∷ sets)) ∙ (omega arith)

-- a bound of the numbers of lo, of hi and of the variable is one of the branch
pub le-least_number-branch : (low var : ℕ) (lo hi : Family) → low ≤ var → low ≤ least_number lo → low ≤ least_number hi → low ≤ least_number (branch var lo hi)
le-least_number-branch low var lo hi h l r = subst (λ f. low ≤ least_number f) (sym (branch-with_var var lo hi)) (least-bound low var lo hi h l r)

rising-with_var : (var : ℕ) (lo hi : Family) → var < least_number hi → AllByRecursion IsRising lo → AllByRecursion IsRising hi → AllByRecursion IsRising (with_var var hi lo)
unfolding with_var least_number IsRising
rising-with_var var lo [] r all_lo all_hi = all_lo
rising-with_var var lo (set ∷ sets) r all_lo all_hi = ((omega arith, all_hi.0), rising-with_var var lo sets (omega arith) all_lo all_hi.1)

-- the sets of a branch rise
pub rising-branch : (var : ℕ) (lo hi : Family) → var < least_number hi → AllByRecursion IsRising lo → AllByRecursion IsRising hi → AllByRecursion IsRising (branch var lo hi)
rising-branch var lo hi r all_lo all_hi = subst (AllByRecursion IsRising) (sym (branch-with_var var lo hi)) (rising-with_var var lo hi r all_lo all_hi)

-- a family whose numbers are greater than the variable is none that begins with it
not_below : {R : Type 0} (var : ℕ) (set : List ℕ) (sets lo family : Family) → var < least_number family → family ≡ with_var var (set ∷ sets) lo → R
not_below var set sets lo family h e =
    let below : least_number (with_var var (set ∷ sets) lo) ≤ var = least-with_var var set sets lo in
    let same : least_number family ≡ least_number (with_var var (set ∷ sets) lo) = ap least_number e in
    absurd (omega arith)

-- two branches of one variable that are equal have equal children
same_parts : (var : ℕ) (lo lo' hi hi' : Family) → var < least_number lo → var < least_number lo' → with_var var hi lo ≡ with_var var hi' lo' → (lo ≡ lo') × (hi ≡ hi')
unfolding with_var
same_parts var lo lo' [] [] l l' e = (e, refl)
same_parts var lo lo' [] (set' ∷ sets') l l' e = not_below var set' sets' lo' lo l e
same_parts var lo lo' (set ∷ sets) [] l l' e = not_below var set sets lo lo' l' (sym e)
same_parts var lo lo' (set ∷ sets) (set' ∷ sets') l l' e =
    let rest : with_var var sets lo ≡ with_var var sets' lo' = cc in
    let first : set ≡ set' = cc in
    let parts : (lo ≡ lo') × (sets ≡ sets') = same_parts var lo lo' sets sets' l l' rest in
    (parts.0, cc)

-- two branches that are equal, each with a set under its variable, have one variable and equal children
pub same_branch : (var var' : ℕ) (lo lo' : Family) (set set' : List ℕ) (sets sets' : Family)
    → var < least_number lo → var < least_number (set ∷ sets) → var' < least_number lo' → var' < least_number (set' ∷ sets')
    → branch var lo (set ∷ sets) ≡ branch var' lo' (set' ∷ sets') → (var ≡ var') × (lo ≡ lo') × (set ∷ sets ≡ set' ∷ sets')
same_branch var var' lo lo' set set' sets sets' l r l' r' e =
    let one : var ≡ var' = sym (least_number-branch var lo set sets l r) ∙ ap least_number e ∙ least_number-branch var' lo' set' sets' l' r' in
    let parts : (lo ≡ lo') × (set ∷ sets ≡ set' ∷ sets') =
    same_parts var lo lo' (set ∷ sets) (set' ∷ sets') l (subst (λ v. v < least_number lo') (sym one) l')
    (sym (branch-with_var var lo (set ∷ sets)) ∙ e ∙ ap (λ v. branch v lo' (set' ∷ sets')) (sym one) ∙ branch-with_var var lo' (set' ∷ sets')) in
    (one, parts.0, parts.1)

-- a branch with a set under its variable is neither the empty family nor that of the empty set
pub branch-some : (var : ℕ) (lo : Family) (set : List ℕ) (sets : Family) → ¬ (branch var lo (set ∷ sets) ≡ [])
unfolding branch
branch-some var lo set sets e = cc

pub branch-not_unit : (var : ℕ) (lo : Family) (set : List ℕ) (sets : Family) → ¬ (branch var lo (set ∷ sets) ≡ [] ∷ [])
unfolding branch
branch-not_unit var lo set sets e = cc
