-- Families brought into another store.
use Rattle.std.proofs.Common.{◌≡◌, ℕ, zero, suc, ◌<◌, Bool, true, false, cond, length, Option, Some, Ok, refl, sym, ap, ◌∙◌, subst, arith}
use Rattle.zdd_store.specs.inner.Family.{Family, branch, least_number}
use Rattle.zdd_store.specs.inner.Store.{Families, IsIn, family_at, family_of, family_with, Keeps, IsSound}
use Rattle.zdd_store.specs.declared.id.Id.{Id}
use Rattle.zdd_store.specs.declared.id.Node.{Node}
use Rattle.zdd_families.specs.inner.Copies.{IsCopy, KnowsCopies, Copied}
use Rattle.zdd_families.proofs.Ways.{Keeps_same}
use Rattle.zdd_families.proofs.Pairs.{found_kept}

-- EMPTY and UNIT stand for the same in each store
copy_terminal : (from to : Families) (id : Id) → IsSound from → IsSound to → id.position < 2 → IsCopy to (family_of from id) id
copy_terminal from to id sf st h = by id.position refl h
  where
    by : (p : ℕ) → id.position ≡ p → p < 2 → IsCopy to (family_of from id) id
    by zero e k =
        let some : 1 < length to = st.some in
        record { found = omega arith; same = ap (family_at to) e ∙ st.empty ∙ sym (ap (family_at from) e ∙ sf.empty) }
    by (suc zero) e k =
        let some : 1 < length to = st.some in
        record { found = omega arith; same = ap (family_at to) e ∙ st.unit ∙ sym (ap (family_at from) e ∙ sf.unit) }
    by (suc (suc n)) e k = absurd (omega arith)

pub copied_terminal : (from to : Families) (id : Id) → IsSound from → IsSound to → id.position < 2 → Copied from to to id (Ok id)
copied_terminal from to id sf st h = record { kept = Keeps_same to; copy = copy_terminal from to id sf st h }

-- a copy stays one
pub copy_kept : (before after : Families) (family : Family) (id : Id) → Keeps before after → IsCopy before family id → IsCopy after family id
copy_kept before after family id kept copy = record { found = found_kept before after id kept copy.found; same = kept.same id.position copy.found ∙ copy.same }

pub copies_kept : (from before after : Families) (known : Id → Option Id) → Keeps before after → KnowsCopies from before known → KnowsCopies from after known
copies_kept from before after known kept right = λ id copy e. copy_kept before after (family_of from id) copy kept (right id copy e)

-- a copy of a child has no smaller numbers
pub copy_above : (store : Families) (var : ℕ) (family : Family) (id : Id) → IsCopy store family id → var < least_number family → var < least_number (family_of store id)
copy_above store var family id copy h = subst (λ f. var < least_number f) (sym copy.same) h

-- the branch of the copies of a node's children is a copy of its family
pub copy_made : (from s1 s2 after : Families) (id lo hi copy : Id) (node : Node) → family_of from id ≡ family_with from node → Keeps s1 s2
    → IsCopy s1 (family_of from node.lo) lo → IsCopy s2 (family_of from node.hi) hi → IsIn after copy → family_of after copy ≡ branch node.var (family_of s2 lo) (family_of s2 hi)
    → IsCopy after (family_of from id) copy
copy_made from s1 s2 after id lo hi copy node is kept low high found made =
    record {
      found = found;
      same = made ∙ ap (λ f. branch node.var f (family_of s2 hi)) (kept.same lo.position low.found ∙ low.same) ∙ ap (branch node.var (family_of from node.lo)) high.same ∙ sym is;
    }

-- what holds of each answer and of one more holds of each after that is put in
pub knows_more : {K X : Type 0} (eq : K → K → Bool) (P : K → X → Type 0) (before after : K → Option X) (key : K) (value : X)
    → ((k : K) → eq key k ≡ true → key ≡ k) → ((k : K) → after k ≡ cond (eq key k) (Some value) (before k)) → P key value
    → ((k : K) (x : X) → before k ≡ Some x → P k x) → (k : K) (x : X) → after k ≡ Some x → P k x
knows_more {K} {X} eq P before after key value exact put right known k x e = by (eq key k) refl (sym (put k) ∙ e)
  where
    by : (b : Bool) → eq key k ≡ b → cond b (Some value) (before k) ≡ Some x → P k x
    by true same is = let one : value ≡ x = cc in subst (λ j. P j x) (exact k same) (subst (P key) one right)
    by false other is = known k x is
