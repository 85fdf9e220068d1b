-- The least number of a node's family, and the families of EMPTY and UNIT.
use Rattle.std.proofs.Common.{◌≡◌, ℕ, zero, suc, ◌<◌, [], ◌∷◌, refl, sym, ap, ◌∙◌, subst, arith}
use Rattle.zdd_store.specs.inner.Family.{Family, branch, least_number, IsAntichain}
use Rattle.zdd_store.specs.inner.Store.{Families, IsIn, family_at, family_of, family_with, Fits, IsSound}
use Rattle.zdd_store.specs.declared.id.Id.{Id}
use Rattle.zdd_store.specs.declared.id.Node.{Node}
use Rattle.zdd_store.proofs.Branches.{branch-empty, least_number-branch}
use Rattle.zdd_store.proofs.Growing.{some_set}
use Rattle.zdd_store.proofs.Terminals.{least-empty, least-unit}
use Rattle.zdd_store.proofs.Orders.{contains_none}
use Rattle.zdd_families.specs.inner.Steps.{IsSplit}
use Rattle.zdd_families.proofs.Joins.{antichain-lo, antichain-hi}

-- the least number of a node's family is its variable
pub least-node : (store : Families) (node : Node) (family : Family) → IsSound store → Fits store node → family ≡ family_with store node → least_number family ≡ node.var
least-node store node family sound fits e = by (family_at store node.hi.position) refl
  where
    by : (hi : Family) → family_at store node.hi.position ≡ hi → least_number family ≡ node.var
    by [] is = absurd (some_set store node.hi.position sound fits.hi_some fits.hi_in is)
    by (set ∷ sets) is =
        ap least_number (e ∙ ap (branch node.var (family_at store node.lo.position)) is)
        ∙ least_number-branch node.var (family_at store node.lo.position) set sets fits.lo_greater (subst (λ f. node.var < least_number f) is fits.hi_greater)

-- EMPTY and UNIT have no number
pub least-terminal : (store : Families) (position : ℕ) → IsSound store → position < 2 → least_number (family_at store position) ≡ 4294967296
least-terminal store zero sound h = least-empty store sound
least-terminal store (suc zero) sound h = least-unit store sound
least-terminal store (suc (suc n)) sound h = absurd (omega arith)

-- a family whose numbers are all greater than the variable has no set with it
pub split-greater : (store : Families) (id : Id) (var : ℕ) → IsSound store → IsIn store id → var < least_number (family_of store id) → var < 4294967296
    → IsSplit store id var (record { lo = id; hi = record { position = 0 } })
split-greater store id var sound here greater fits =
    record {
      lo_in = here;
      hi_in = let some = sound.some in omega arith;
      lo_greater = greater;
      hi_greater = let empty : least_number (family_at store 0) ≡ 4294967296 = least-empty store sound in omega arith;
      family = sym (ap (branch var (family_of store id)) sound.empty ∙ branch-empty var (family_of store id));
      lo_apart = λ h. h;
      hi_apart = λ h. subst IsAntichain (sym sound.empty) (λ part whole here there k. absurd (contains_none part here));
    }

-- a node splits its family at its variable
pub split-node : (store : Families) (id : Id) (var : ℕ) (node : Node) → Fits store node → family_of store id ≡ family_with store node → node.var ≡ var
    → IsSplit store id var (record { lo = node.lo; hi = node.hi })
split-node store id var node fits is same =
    let at : family_of store id ≡ branch var (family_of store node.lo) (family_of store node.hi) = is ∙ ap (λ v. branch v (family_of store node.lo) (family_of store node.hi)) same in
    record {
      lo_in = fits.lo_in;
      hi_in = fits.hi_in;
      lo_greater = subst (λ v. v < least_number (family_of store node.lo)) same fits.lo_greater;
      hi_greater = subst (λ v. v < least_number (family_of store node.hi)) same fits.hi_greater;
      family = at;
      lo_apart = λ h. antichain-lo var (family_of store node.lo) (family_of store node.hi) (subst IsAntichain at h);
      hi_apart = λ h. antichain-hi var (family_of store node.lo) (family_of store node.hi) (subst IsAntichain at h);
    }

-- the family of the one set that has a number alone
pub single-family : (store : Families) (var : ℕ) → IsSound store → branch var (family_at store 0) (family_at store 1) ≡ (var ∷ []) ∷ []
unfolding branch
single-family store var sound = ap (λ lo. branch var lo (family_at store 1)) sound.empty ∙ ap (branch var []) sound.unit
