-- From the minimal cut sets of one event, and those of a system without these events, to all minimal cut sets.
use Rattle.std.proofs.Common.{ℕ, ◌≡◌, ◌⊎◌, Bool, true, false, not, List, [], ◌∷◌, Contains, Option, Some, inl, inr, ⊎_elim, ap, ◌∙◌, sym, subst, refl}
use Rattle.std.proofs.lemmas.Bool.{and_from, and_parts}
use Rattle.fault_system.specs.Truth.{Has, member, set_of}
use Rattle.fault_system.specs.Systems.{System}
use Rattle.fault_system.specs.CutSets.{IsCutSet, IsMinimalCutSet, IsSubset}
use Rattle.fault_system.specs.Listings.{IsWithinOrder}
use Rattle.zdd_store.specs.inner.Family.{Family, branch, is_within, IsAntichain}
use Rattle.zdd_store.specs.inner.Store.{Families, IsIn, family_of, family_with, IsSound, Fits}
use Rattle.zdd_store.specs.declared.id.Id.{Id}
use Rattle.zdd_store.specs.declared.id.Node.{Node}
use Rattle.zdd_store.proofs.Orders.{contains_first}
use Rattle.zdd_families.specs.inner.Unions.{HasMinimalSets, IsInEither}
use Rattle.zdd_families.proofs.Joins.{lo_in_branch, hi_in_branch}
use Rattle.zdd_families.proofs.Subsets.{has_first, has_rest, has_cases, has_none, within_has, within_from}
use Rattle.cutset_engine.specs.inner.Families.{HasMinimalCutSets}
use Rattle.cutset_engine.specs.inner.ThinSystems.{AreSingles, thin_of}
use Rattle.cutset_engine.proofs.CutSets.{has-set_of}
use Rattle.cutset_engine.proofs.ThinLaws.{left_events, holds-grows, holds-from, holds-to}

-- a set has one of some numbers, or none of them
abbrev HasSome : List Bool → List ℕ → Type 0
HasSome dropped set = (n : ℕ) × Has (set_of set) n × Has (member dropped) n

abbrev HasNone : List Bool → List ℕ → Type 0
HasNone dropped set = (n : ℕ) → Has (set_of set) n → member dropped n ≡ false

some_or_none : (dropped : List Bool) (set : List ℕ) → HasSome dropped set ⊎ HasNone dropped set
some_or_none dropped [] = inr (λ n h. absurd (has_none n (has-set_of [] n ∙ h)))
some_or_none dropped (m ∷ ms) = by (member dropped m) refl (some_or_none dropped ms) where
  by : (b : Bool) → member dropped m ≡ b → HasSome dropped ms ⊎ HasNone dropped ms → HasSome dropped (m ∷ ms) ⊎ HasNone dropped (m ∷ ms)
  by true is rest = inl (m, sym (has-set_of (m ∷ ms) m) ∙ has_first m ms, is)
  by false is (inl some) = inl (some.0, sym (has-set_of (m ∷ ms) some.0) ∙ has_rest m ms some.0 (has-set_of ms some.0 ∙ some.1), some.2)
  by false is (inr none) = inr (λ n h. ⊎_elim (λ same. subst (λ k. member dropped k ≡ false) same is) (λ rest. none n (sym (has-set_of ms n) ∙ rest)) (has_cases m ms n (has-set_of (m ∷ ms) n ∙ h)))

subset_within : (part whole : List ℕ) → IsSubset part whole → is_within part whole ≡ true
subset_within part whole s = within_from part whole (λ x h. has-set_of whole x ∙ s x (sym (has-set_of part x) ∙ h))

within_subset : (part whole : List ℕ) → is_within part whole ≡ true → IsSubset part whole
within_subset part whole w n h = sym (has-set_of whole n) ∙ within_has part whole n w (has-set_of part n ∙ h)

-- one number of a set is a subset
one_subset : (n : ℕ) (set : List ℕ) → Has (set_of set) n → IsSubset (n ∷ []) set
one_subset n set h m k = ⊎_elim (λ same. subst (Has (set_of set)) same h) (λ rest. absurd (has_none m rest)) (has_cases n [] m (has-set_of (n ∷ []) m ∙ k))

module _ (system : System) (target : ℕ) (most : Option ℕ) (dropped : List Bool) (ones rest all : Family) (allowed : (set : List ℕ) → IsWithinOrder (Some 1) set → IsWithinOrder most set)
    (ones_are : HasMinimalCutSets system target (Some 1) ones) (rest_are : HasMinimalCutSets (thin_of dropped target system) target most rest) (singles : AreSingles ones dropped) (joined : HasMinimalSets all (IsInEither ones rest)) where
  abbrev IsCut : List ℕ → Type 0
  IsCut = IsCutSet system target

  abbrev IsThinCut : List ℕ → Type 0
  IsThinCut = IsCutSet (thin_of dropped target system) target

  back : (set : List ℕ) → IsThinCut set → IsCut set
  back set cut = (cut.0, holds-grows system (left_events dropped (set_of set)) (set_of set) (λ n k. (and_parts _ _ k).0) target (holds-from dropped target system (set_of set) cut.1))

  forth : (set : List ℕ) → IsCut set → HasNone dropped set → IsThinCut set
  forth set cut none = (cut.0, holds-to dropped target system (set_of set) (holds-grows system (set_of set) (left_events dropped (set_of set)) (λ n k. and_from _ _ k (ap not (none n k))) target cut.1))

  -- a set of the family of one event each is a minimal cut set within the order
  of_one : (set : List ℕ) → Contains ones set → IsMinimalCutSet system target set × IsWithinOrder most set
  of_one set here = let is = (ones_are set).0 here in (is.0, allowed set is.1)

  of_rest : (set : List ℕ) → Contains rest set → HasNone dropped set → IsMinimalCutSet system target set × IsWithinOrder most set
  of_rest set here none =
      let is = (rest_are set).0 here in
      ((back set is.0.0, λ other is_cut part. is.0.1 other (forth other is_cut (λ n k. none n (part n k))) part), is.1)

  cut_of : (set : List ℕ) → IsInEither ones rest set → IsCut set
  cut_of set here = ⊎_elim (λ one. ((ones_are set).0 one).0.0) (λ other. back set ((rest_are set).0 other).0.0) here

  in_either : (set : List ℕ) → IsMinimalCutSet system target set → IsWithinOrder most set → IsInEither ones rest set
  in_either set minimal w = ⊎_elim
      (λ (n, h, d). inl (subst (Contains ones) (minimal.1 (n ∷ []) ((ones_are (n ∷ [])).0 (singles n d)).0.0 (one_subset n set h)) (singles n d)))
      (λ none. inr ((rest_are set).1 ((forth set minimal.0 none, λ other is_cut part. minimal.1 other (back other is_cut) part), w)))
      (some_or_none dropped set)

  pub joined-cut-sets : HasMinimalCutSets system target most all
  joined-cut-sets set = (
    λ here.
        let is = (joined set).0 here in
        ⊎_elim (λ one. of_one set one)
        (λ other. ⊎_elim
        (λ (n, h, d). of_one set (subst (Contains ones) (is.1 (n ∷ []) (inl (singles n d)) (subset_within (n ∷ []) set (one_subset n set h))) (singles n d)))
        (λ none. of_rest set other none)
        (some_or_none dropped set)) is.0,
    λ (minimal, w). (joined set).1 (in_either set minimal w, λ part here within. minimal.1 part (cut_of part here) (within_subset part set within)),
  )

-- no minimal cut set is within another one
pub cut-sets-apart : (system : System) (target : ℕ) (most : Option ℕ) (family : Family) → HasMinimalCutSets system target most family → IsAntichain family
cut-sets-apart system target most family exact part whole here there within =
    ((exact whole).0 there).0.1 part ((exact part).0 here).0.0 (within_subset part whole within)

-- ---- the events that are sets alone, along a diagram

-- what was found of a family before one of its numbers
pub record Found (store : Families) (id at : Id) (alone : List Bool) : Type 0 where
  pub at_in : IsIn store at
  pub within : (set : List ℕ) → Contains (family_of store at) set → Contains (family_of store id) set
  pub singles : AreSingles (family_of store id) alone

pub found-next : (store : Families) (id at : Id) (node : Node) (old new : List Bool) → IsSound store → Found store id at old → Fits store node → family_of store at ≡ family_with store node
    → ((n : ℕ) → Has (member new) n → Has (member old) n ⊎ ((n ≡ node.var) × (node.hi.position ≡ 1))) → Found store id node.lo new
found-next store id at node old new sound found fits is put =
    record {
      at_in = fits.lo_in;
      within = λ set here. found.within set (subst (λ f. Contains f set) (sym is) (lo_in_branch node.var (family_of store node.lo) (family_of store node.hi) set here));
      singles = λ n has. ⊎_elim (λ before. found.singles n before)
          (λ (same, unit).
          let hi : family_of store node.hi ≡ [] ∷ [] = ap (λ (p : ℕ). family_of store (record { position = p })) unit ∙ sound.unit in
          found.within (n ∷ []) (subst (λ f. Contains f (n ∷ [])) (sym is)
          (subst (λ m. Contains (branch node.var (family_of store node.lo) (family_of store node.hi)) (m ∷ [])) (sym same)
          (hi_in_branch node.var (family_of store node.lo) (family_of store node.hi) [] (subst (λ f. Contains f []) (sym hi) (contains_first [] []))))))
          (put n has);
    }
