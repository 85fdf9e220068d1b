-- The sets of a family without a number, and those with it, branch by branch.
use Rattle.std.proofs.Common.{◌≡◌, ◌<◌, ◌≤◌, ℕ, min, Bool, true, false, not, if◌then◌else◌, List, [], ◌∷◌, map, filter, refl, sym, ap, ◌∙◌, subst, arith, eqb-true, eq-eqb}
use Rattle.std.specs.Prelude.{◌==◌, ◌||◌}
use Rattle.zdd_store.specs.inner.Family.{Family, branch, least_of, least_number, has}
use Rattle.zdd_store.specs.inner.Store.{Families, IsIn, family_of, family_with, Keeps, Fits, IsSound}
use Rattle.zdd_store.specs.declared.id.Id.{Id}
use Rattle.zdd_store.specs.declared.id.Node.{Node}
use Rattle.zdd_store.proofs.Branches.{with_var, branch-with_var, branch-empty}
use Rattle.zdd_families.proofs.Subsets.{has_first}
use Rattle.zdd_families.proofs.Covers.{member-greater}
use Rattle.zdd_families.proofs.Joins.{least-filter, filter-branch, same_filter, filter_keeps, filter_drops}
use Rattle.family_renaming.specs.inner.Splitting.{sets_lacking, set_without, sets_having, IsParted}
use Rattle.family_renaming.specs.declared.parting.Parts.{Parts}

-- a number that is another one
pub other_number : (n x : ℕ) → (n ≡ x → ⊥) → (n == x) ≡ false
other_number n x h = by (n == x) refl
  where
    by : (b : Bool) → (n == x) ≡ b → b ≡ false
    by true e = absurd (h (eqb-true n x e))
    by false e = refl

pub has_other : (n x : ℕ) (ns : List ℕ) → (n ≡ x → ⊥) → has (n ∷ ns) x ≡ has ns x
unfolding has
has_other n x ns h = ap (λ b. b || has ns x) (other_number n x h)

pub without_first : (n : ℕ) (ns : List ℕ) → set_without n (n ∷ ns) ≡ ns
unfolding set_without
without_first n ns = ap (λ b. if b then ns else n ∷ set_without n ns) (eq-eqb n n refl)

pub without_other : (n x : ℕ) (ns : List ℕ) → (n ≡ x → ⊥) → set_without x (n ∷ ns) ≡ n ∷ set_without x ns
unfolding set_without
without_other n x ns h = ap (λ b. if b then ns else n ∷ set_without x ns) (other_number n x h)

map-with_var : (f : List ℕ → List ℕ) (var : ℕ) (lo hi : Family) → ((set : List ℕ) → f (var ∷ set) ≡ var ∷ f set) → map f (with_var var hi lo) ≡ with_var var (map f hi) (map f lo)
unfolding with_var
map-with_var f var lo [] h = refl
map-with_var f var lo (set ∷ sets) h = ap (λ s. s ∷ map f (with_var var sets lo)) (h set) ∙ ap (λ rest. (var ∷ f set) ∷ rest) (map-with_var f var lo sets h)

map-branch : (f : List ℕ → List ℕ) (var : ℕ) (lo hi : Family) → ((set : List ℕ) → f (var ∷ set) ≡ var ∷ f set) → map f (branch var lo hi) ≡ branch var (map f lo) (map f hi)
map-branch f var lo hi h = ap (map f) (branch-with_var var lo hi) ∙ map-with_var f var lo hi h ∙ sym (branch-with_var var (map f lo) (map f hi))

map-branch_away : (f : List ℕ → List ℕ) (var : ℕ) (hi : Family) → ((set : List ℕ) → f (var ∷ set) ≡ set) → map f (branch var [] hi) ≡ hi
unfolding branch
map-branch_away f var [] h = refl
map-branch_away f var (set ∷ sets) h = ap (λ s. s ∷ map f (branch var [] sets)) (h set) ∙ ap (λ rest. set ∷ rest) (map-branch_away f var sets h)

-- a branch of another variable
pub lacking-branch : (number var : ℕ) (lo hi : Family) → (var ≡ number → ⊥) → sets_lacking number (branch var lo hi) ≡ branch var (sets_lacking number lo) (sets_lacking number hi)
unfolding sets_lacking
lacking-branch number var lo hi other =
    filter-branch _ var lo hi ∙ ap (branch var (filter (λ set. not (has set number)) lo)) (same_filter _ _ hi (λ set here. ap not (has_other var number set other)))

pub having-branch : (number var : ℕ) (lo hi : Family) → (var ≡ number → ⊥) → sets_having number (branch var lo hi) ≡ branch var (sets_having number lo) (sets_having number hi)
unfolding sets_having
having-branch number var lo hi other =
    ap (map (set_without number)) (filter-branch _ var lo hi ∙ ap (branch var (filter (λ set. has set number) lo)) (same_filter _ _ hi (λ set here. has_other var number set other)))
    ∙ map-branch (set_without number) var (filter (λ set. has set number) lo) (filter (λ set. has set number) hi) (λ set. without_other var number set other)

-- a family of greater numbers
pub lacking-greater : (number : ℕ) (family : Family) → number < least_number family → sets_lacking number family ≡ family
unfolding sets_lacking
lacking-greater number family h = filter_keeps _ family (λ set here. ap not (member-greater family set number here h))

pub having-greater : (number : ℕ) (family : Family) → number < least_number family → sets_having number family ≡ []
unfolding sets_having
having-greater number family h = ap (map (set_without number)) (filter_drops _ family (λ set here. member-greater family set number here h))

-- a branch of the number itself
pub lacking-at : (number : ℕ) (lo hi : Family) → number < least_number lo → sets_lacking number (branch number lo hi) ≡ lo
unfolding sets_lacking
lacking-at number lo hi h =
    filter-branch _ number lo hi ∙ ap (branch number (filter (λ set. not (has set number)) lo)) (filter_drops _ hi (λ set here. ap not (has_first number set)))
    ∙ branch-empty number (filter (λ set. not (has set number)) lo) ∙ filter_keeps _ lo (λ set here. ap not (member-greater lo set number here h))

pub having-at : (number : ℕ) (lo hi : Family) → number < least_number lo → sets_having number (branch number lo hi) ≡ hi
unfolding sets_having
having-at number lo hi h =
    ap (map (set_without number))
    (filter-branch _ number lo hi ∙ ap (λ f. branch number f (filter (λ set. has (number ∷ set) number) hi)) (filter_drops _ lo (λ set here. member-greater lo set number here h))
    ∙ ap (branch number []) (filter_keeps _ hi (λ set here. has_first number set)))
    ∙ map-branch_away (set_without number) number hi (λ set. without_first number set)

-- neither has a smaller number
least_of-without : (number : ℕ) (set : List ℕ) → least_of set ≤ least_of (set_without number set)
unfolding set_without least_of
least_of-without number [] = omega arith
least_of-without number (n ∷ ns) = by (n == number) (least_of-without number ns)
  where
    by : (b : Bool) → least_of ns ≤ least_of (set_without number ns) → min n (least_of ns) ≤ least_of (if b then ns else n ∷ set_without number ns)
    by true h = omega arith
    by false h = omega arith

least-map : (f : List ℕ → List ℕ) (family : Family) → ((set : List ℕ) → least_of set ≤ least_of (f set)) → least_number family ≤ least_number (map f family)
unfolding least_number
least-map f [] h = omega arith
least-map f (set ∷ sets) h = let rest : least_number sets ≤ least_number (map f sets) = least-map f sets h in let here : least_of set ≤ least_of (f set) = h set in omega arith

pub least-lacking : (number : ℕ) (family : Family) → least_number family ≤ least_number (sets_lacking number family)
unfolding sets_lacking
least-lacking number family = least-filter _ family

pub least-having : (number : ℕ) (family : Family) → least_number family ≤ least_number (sets_having number family)
unfolding sets_having
least-having number family =
    let fewer : least_number family ≤ least_number (filter (λ set. has set number) family) = least-filter _ family in
    let less : least_number (filter (λ set. has set number) family) ≤ least_number (map (set_without number) (filter (λ set. has set number) family)) =
    least-map (set_without number) (filter (λ set. has set number) family) (least_of-without number) in
    omega arith

-- numbers of the store that stand for the two parts
pub parted : (store : Families) (number : ℕ) (family : Family) (lo hi : Id) → IsIn store lo → IsIn store hi
    → family_of store lo ≡ sets_lacking number family → family_of store hi ≡ sets_having number family → IsParted store number family (record { lo = lo; hi = hi })
parted store number family lo hi lo_in hi_in lacking having =
    record {
      lo_in = lo_in;
      hi_in = hi_in;
      lo = lacking;
      hi = having;
      lo_least = subst (λ f. least_number family ≤ least_number f) (sym lacking) (least-lacking number family);
      hi_least = subst (λ f. least_number family ≤ least_number f) (sym having) (least-having number family);
    }

pub parted_greater : (store : Families) (number : ℕ) (id : Id) → IsSound store → IsIn store id → number < least_number (family_of store id)
    → IsParted store number (family_of store id) (record { lo = id; hi = record { position = 0 } })
parted_greater store number id sound here h =
    let some = sound.some in
    parted store number (family_of store id) id (record { position = 0 }) here (omega arith) (sym (lacking-greater number (family_of store id) h))
    (sound.empty ∙ sym (having-greater number (family_of store id) h))

pub parted_at : (store : Families) (number : ℕ) (id : Id) (node : Node) → Fits store node → family_of store id ≡ family_with store node → number ≡ node.var
    → IsParted store number (family_of store id) (record { lo = node.lo; hi = node.hi })
parted_at store number id node fits is same =
    let at : family_of store id ≡ branch number (family_of store node.lo) (family_of store node.hi) = is ∙ ap (λ v. branch v (family_of store node.lo) (family_of store node.hi)) (sym same) in
    let low : number < least_number (family_of store node.lo) = subst (λ v. v < least_number (family_of store node.lo)) (sym same) fits.lo_greater in
    parted store number (family_of store id) node.lo node.hi fits.lo_in fits.hi_in
    (sym (ap (sets_lacking number) at ∙ lacking-at number (family_of store node.lo) (family_of store node.hi) low))
    (sym (ap (sets_having number) at ∙ having-at number (family_of store node.lo) (family_of store node.hi) low))

-- the branches of what two calls answered
pub parted_made : (s0 s1 s2 s3 s4 : Families) (number : ℕ) (id : Id) (node : Node) (first second : Parts) (lacking having : Id)
    → Fits s0 node → family_of s0 id ≡ family_with s0 node → (node.var ≡ number → ⊥)
    → Keeps s0 s1 → Keeps s1 s2 → Keeps s2 s3 → Keeps s3 s4
    → IsParted s1 number (family_of s0 node.lo) first → IsParted s2 number (family_of s1 node.hi) second
    → IsIn s3 lacking → family_of s3 lacking ≡ branch node.var (family_of s2 first.lo) (family_of s2 second.lo)
    → IsIn s4 having → family_of s4 having ≡ branch node.var (family_of s3 first.hi) (family_of s3 second.hi)
    → IsParted s4 number (family_of s0 id) (record { lo = lacking; hi = having })
parted_made s0 s1 s2 s3 s4 number id node first second lacking having fits is other k1 k2 k3 k4 p q lacking_in lacking_is having_in having_is =
    let hi_1 : family_of s1 node.hi ≡ family_of s0 node.hi = k1.same node.hi.position fits.hi_in in
    let first_lo_in : first.lo.position < _ = p.lo_in in
    let more_1 = k2.more in
    let more_2 = k3.more in
    let more_3 = k4.more in
    let first_hi_in = p.hi_in in
    let second_hi_in = q.hi_in in
    let lo_lo : family_of s2 first.lo ≡ sets_lacking number (family_of s0 node.lo) = k2.same first.lo.position p.lo_in ∙ p.lo in
    let hi_lo : family_of s2 second.lo ≡ sets_lacking number (family_of s0 node.hi) = q.lo ∙ ap (sets_lacking number) hi_1 in
    let lo_hi : family_of s3 first.hi ≡ sets_having number (family_of s0 node.lo) = k3.same first.hi.position (omega arith) ∙ k2.same first.hi.position p.hi_in ∙ p.hi in
    let hi_hi : family_of s3 second.hi ≡ sets_having number (family_of s0 node.hi) = k3.same second.hi.position q.hi_in ∙ q.hi ∙ ap (sets_having number) hi_1 in
    let lack : branch node.var (sets_lacking number (family_of s0 node.lo)) (sets_lacking number (family_of s0 node.hi)) ≡ sets_lacking number (family_of s0 id) =
    sym (ap (sets_lacking number) is ∙ lacking-branch number node.var (family_of s0 node.lo) (family_of s0 node.hi) other) in
    let have : branch node.var (sets_having number (family_of s0 node.lo)) (sets_having number (family_of s0 node.hi)) ≡ sets_having number (family_of s0 id) =
    sym (ap (sets_having number) is ∙ having-branch number node.var (family_of s0 node.lo) (family_of s0 node.hi) other) in
    parted s4 number (family_of s0 id) lacking having (omega arith) having_in
    (k4.same lacking.position lacking_in ∙ lacking_is ∙ ap (λ f. branch node.var f (family_of s2 second.lo)) lo_lo ∙ ap (branch node.var (sets_lacking number (family_of s0 node.lo))) hi_lo ∙ lack)
    (having_is ∙ ap (λ f. branch node.var f (family_of s3 second.hi)) lo_hi ∙ ap (branch node.var (sets_having number (family_of s0 node.lo))) hi_hi ∙ have)
