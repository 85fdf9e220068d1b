-- How large the sets of branches are, and the table of what is known of the nodes.
use Rattle.std.proofs.Common.{◌≡◌, ℕ, ◌+◌, ◌-◌, ◌<◌, ◌≤◌, ◌⊎◌, Bool, true, false, if◌then◌else◌, List, [], ◌∷◌, ◌++◌, length, get_or, slice_get, Some, sym, ap, ◌∙◌, subst, inl, inr, arith}
use Rattle.std.specs.List.{AllByRecursion}
use Rattle.zdd_store.specs.inner.Family.{Family, branch}
use Rattle.zdd_store.specs.inner.Store.{Families, family_at, Keeps, IsSound}
use Rattle.zdd_store.specs.inner.Answers.{HasAtLeast, HasAtMost, HasShape}
use Rattle.zdd_store.specs.inner.Nodes.{HasShapeAt, AreShapes}
use Rattle.zdd_store.specs.declared.shapes.Shape.{Shape}
use Rattle.zdd_store.proofs.Branches.{with_var, branch-with_var}
use Rattle.zdd_store.proofs.Growing.{last_or_before}
use Rattle.zdd_store.proofs.Orders.{contains_none}
use Rattle.std.proofs.lemmas.Bool.{false≢true, cases_eq}
use Rattle.std.proofs.lemmas.Option.{slice_get_within, slice_get-get_or, get_or_from_slice_get}
use Rattle.std.proofs.lemmas.List.{get_or-set_same, get_or-set_other, length-set}
use Rattle.std.proofs.Math.ListN.{set}

all_branch : (P : List ℕ → Type 0) (var : ℕ) (lo hi : Family) → AllByRecursion P lo → AllByRecursion (λ set. P (var ∷ set)) hi → AllByRecursion P (with_var var hi lo)
unfolding with_var
all_branch P var lo [] h k = h
all_branch P var lo (set ∷ sets) h k = (k.0, all_branch P var lo sets h k.1)

all_weaker : (P Q : List ℕ → Type 0) (family : Family) → ((set : List ℕ) → P set → Q set) → AllByRecursion P family → AllByRecursion Q family
all_weaker P Q [] f h = tt
all_weaker P Q (set ∷ sets) f h = (f set h.0, all_weaker P Q sets f h.1)

pub least_size_branch : (size lo_size hi_size var : ℕ) (lo hi : Family) → size ≤ lo_size → size ≤ hi_size + 1 → HasAtLeast lo_size lo → HasAtLeast hi_size hi → HasAtLeast size (branch var lo hi)
least_size_branch size lo_size hi_size var lo hi h k l r =
    subst (HasAtLeast size) (sym (branch-with_var var lo hi))
    (all_branch (λ set. size ≤ length set) var lo hi (all_weaker (λ set. lo_size ≤ length set) (λ set. size ≤ length set) lo (λ set e. omega arith) l)
    (all_weaker (λ set. hi_size ≤ length set) (λ set. size ≤ length (var ∷ set)) hi (λ set e. omega arith) r))

pub greatest_size_branch : (size lo_size hi_size var : ℕ) (lo hi : Family) → lo_size ≤ size → (size < 4294967295 → hi_size + 1 ≤ size) → HasAtMost lo_size lo → HasAtMost hi_size hi → HasAtMost size (branch var lo hi)
greatest_size_branch size lo_size hi_size var lo hi h k l r fits =
    let more : hi_size + 1 ≤ size = k fits in
    subst (AllByRecursion (λ set. length set ≤ size)) (sym (branch-with_var var lo hi))
    (all_branch (λ set. length set ≤ size) var lo hi (all_weaker (λ set. length set ≤ lo_size) (λ set. length set ≤ size) lo (λ set e. omega arith) (l (omega arith)))
    (all_weaker (λ set. length set ≤ hi_size) (λ set. length (var ∷ set) ≤ size) hi (λ set e. omega arith) (r (omega arith))))

-- what is known of EMPTY, of UNIT, and of any family
pub shape-empty : (store : Families) (position : ℕ) (shape : Shape) → IsSound store → position ≡ 0 → shape.wide ≡ false → HasShape (family_at store position) shape
shape-empty store position shape sound e narrow =
    subst (λ f. HasShape f shape) (sym (ap (family_at store) e ∙ sound.empty)) (record { least = tt; greatest = λ h. tt; apart = λ h part whole here there k. absurd (contains_none part here); wide = λ h. absurd (false≢true (sym narrow ∙ h)) })

pub shape-unit : (store : Families) (position : ℕ) (shape : Shape) → IsSound store → position ≡ 1 → shape.least ≡ 0 → shape.apart ≡ false → shape.wide ≡ false → HasShape (family_at store position) shape
shape-unit store position shape sound e none apart narrow =
    subst (λ f. HasShape f shape) (sym (ap (family_at store) e ∙ sound.unit)) (record { least = (omega arith, tt); greatest = λ h. (omega arith, tt); apart = λ h. absurd (false≢true (sym apart ∙ h)); wide = λ h. absurd (false≢true (sym narrow ∙ h)) })

at_least_none : (family : Family) → HasAtLeast 0 family
at_least_none [] = tt
at_least_none (set ∷ sets) = (omega arith, at_least_none sets)

pub shape-any : (family : Family) (shape : Shape) → shape.least ≡ 0 → shape.greatest ≡ 4294967295 → shape.apart ≡ false → shape.wide ≡ false → HasShape family shape
shape-any family shape none all apart narrow =
    record { least = subst (λ n. HasAtLeast n family) (sym none) (at_least_none family); greatest = λ h. absurd (omega arith); apart = λ h. absurd (false≢true (sym apart ∙ h)); wide = λ h. absurd (false≢true (sym narrow ∙ h)) }

-- what is known of a node, from the table
pub shape-node : (store : Families) (table : List Shape) (position : ℕ) (shape : Shape) → AreShapes store table → ¬ (position ≡ 0) → ¬ (position ≡ 1) → slice_get table (position - 2) ≡ Some shape → HasShape (family_at store position) shape
shape-node store table position shape right some more e =
    let place : position - 2 + 2 ≡ position = omega arith in
    subst (λ p. HasShape (family_at store p) shape) place (right (position - 2) shape e).of_node

-- the table with the next node, if memory sufficed
pub shapes-pushed : (b : Bool) (store : Families) (table : List Shape) (shape : Shape) → AreShapes store table → HasShapeAt store (length table) shape → AreShapes store (if b then table ++ shape ∷ [] else table)
shapes-pushed true store table shape old new = λ place other e. by place other (last_or_before table shape other place e)
  where
    by : (place : ℕ) (other : Shape) → (slice_get table place ≡ Some other) ⊎ ((place ≡ length table) × (shape ≡ other)) → HasShapeAt store place other
    by place other (inl h) = old place other h
    by place other (inr h) = subst (HasShapeAt store place) h.1 (subst (λ p. HasShapeAt store p shape) (sym h.0) new)
shapes-pushed false store table shape old new = old

-- the table stays right where each number keeps its family
pub AreShapes-kept : (before after : Families) (table : List Shape) → Keeps before after → AreShapes before table → AreShapes after table
AreShapes-kept before after table kept right = λ place shape e. by place shape (right place shape e)
  where
    by : (place : ℕ) (shape : Shape) → HasShapeAt before place shape → HasShapeAt after place shape
    by place shape at =
        let more : length before ≤ length after = kept.more in
        let inside : place + 2 < length before = at.inside in
        record { inside = omega arith; of_node = subst (λ f. HasShape f shape) (sym (kept.same (place + 2) at.inside)) at.of_node }

-- the table with one entry changed
pub shapes-set : (store : Families) (table : List Shape) (at : ℕ) (shape : Shape) → at < length table → AreShapes store table → HasShapeAt store at shape → AreShapes store (set table at shape)
shapes-set store table at shape within right new = λ place other e. by place other e (cases_eq place at)
  where
    by : (place : ℕ) (other : Shape) → slice_get (set table at shape) place ≡ Some other → (place ≡ at) ⊎ (place ≡ at → ⊥) → HasShapeAt store place other
    by place other e (inl same) =
        let is : other ≡ shape = sym (get_or_from_slice_get (set table at shape) place other other e) ∙ ap (λ p. get_or (set table at shape) p other) same ∙ get_or-set_same table at shape other within in
        subst (HasShapeAt store place) (sym is) (subst (λ p. HasShapeAt store p shape) (sym same) new)
    by place other e (inr differ) =
        let inside : place < length table = omega (arith, slice_get_within (set table at shape) place other e, length-set table at shape) in
        let is : get_or table place other ≡ other = sym (get_or-set_other table at place shape other differ) ∙ get_or_from_slice_get (set table at shape) place other other e in
        right place other (slice_get-get_or table place other inside ∙ ap Some is)
