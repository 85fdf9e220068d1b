-- Path listings, and the families that they are of.
use Rattle.std.proofs.Common.{ℕ, ◌≡◌, ◌<◌, ◌↔◌, Bool, true, false, List, [], ◌∷◌, length, Option, Some, None, Result, Ok, Err, IfOk, OnOk, Contains, inl, inr, ◌∙◌, sym, subst, refl, arith}
use Rattle.std.specs.Prelude.{IsTrue}
use Rattle.plain_values.specs.Order.{IsClear}
use Rattle.plain_values.specs.inner.Stops.{StopsFor}
use Rattle.plain_values.specs.declared.refusal.Refusal.{Refusal}
use Rattle.plain_values.specs.declared.refusal.Stop.{Stop}
use Rattle.plain_values.specs.declared.refusal.Stop.TheVariants.{Memory, Refused}
use Rattle.fault_system.specs.Systems.{System, IsSystem}
use Rattle.fault_system.specs.Listings.{IsInListingOrder, IsListing, IsWithinOrder}
use Rattle.fault_system.proofs.Elements.{In-contains, contains_In}
use Rattle.fault_system.proofs.Orders.{one_order}
use Rattle.backward_slice.specs.Slices.{HasLargeSlice}
use Rattle.backward_slice.proofs.OneSlice.{one_large, served_or_large}
use Rattle.round_gates.specs.Staged.{IsConstant}
use Rattle.round_gates.specs.Targets.{IsTreeFor}
use Rattle.round_gates.specs.declared.tree.Tree.{Tree}
use Rattle.round_gates.proofs.MadeWell.{made-well}
use Rattle.round_gates.proofs.OneTree.{one-tree, tree-or-large}
use Rattle.round_gates.proofs.TreeTruth.{tree-truth}
use Rattle.galileo_writer.specs.inner.TreeText.{HasTextNames}
use Rattle.galileo_writer.proofs.TreeNames.{gates-differ}
use Rattle.zdd_store.specs.inner.Family.{Family, is_within}
use Rattle.cutset_engine.specs.inner.Families.{HasMinimalCutSets}
use Rattle.cutset_engine.proofs.InSlice.{minimal_in_slice}
use Rattle.path_sets.specs.Duals.{dual_of}
use Rattle.path_sets.specs.inner.Duals.{IsWithoutFeedback}
use Rattle.path_sets.specs.GateSystems.{gate_system_of}
use Rattle.path_sets.specs.PathSets.{HasLargePaths, IsMinimalPathSet, IsPathListing}
use Rattle.path_sets.specs.inner.PathSets.{AreServedEvents, HasMinimalPathSets, constant_paths}
use Rattle.path_sets.proofs.GateTruth.{gates-free, gates-paths, gates-system, top-inside}
use Rattle.path_sets.proofs.PathLaws.{always-paths, minimal-paths, never-paths}

-- two facts of what a result has give a third
pub if_ok_both : {T E : Type 0} (result : Result T E) (P Q R : T → Type 0) → ((x : T) → P x → Q x → R x) → IfOk result P → IfOk result Q → IfOk result R
if_ok_both (Ok x) P Q R both p q = both x p q
if_ok_both (Err e) P Q R both p q = tt

-- what follows from what a result has, if it has one
pub on_ok : {T E P : Type 0} (result : Result T E) (Q : T → Type 0) → ((x : T) → Q x → P) → IfOk result Q → OnOk result P
on_ok (Ok x) Q gives q = gives x q
on_ok (Err e) Q gives q = tt

-- ---- one listing

pub one-listing : (system : System) (target : ℕ) (most : Option ℕ) (a b : List (List ℕ)) → IsPathListing system target most a → IsPathListing system target most b → a ≡ b
one-listing system target most a b one other = one_order a b one.ordered other.ordered
    (λ set i. In-contains set b ((other.exact set).1 ((one.exact set).0 (contains_In set a i))))
    (λ set i. In-contains set a ((one.exact set).1 ((other.exact set).0 (contains_In set b i))))

-- ---- the dual's cut sets

module _ (system : System) (is : IsSystem system) (free : IsWithoutFeedback system) (target : ℕ) (inside : target < length system.facts) (most : Option ℕ) where
  pub paths-are : (family : Family) → HasMinimalCutSets (dual_of system) target most family → HasMinimalPathSets system target most family
  paths-are family exact set =
      let law = minimal-paths system is target free inside set in (
        (λ here. let both = (exact set).0 here in (law.1 both.0, both.1)),
        (λ (path, short). (exact set).1 (law.0 path, short)),
      )

  cuts-are : (family : Family) → HasMinimalPathSets system target most family → HasMinimalCutSets (dual_of system) target most family
  cuts-are family exact set =
      let law = minimal-paths system is target free inside set in (
        (λ here. let both = (exact set).0 here in (law.0 both.0, both.1)),
        (λ (cut, short). (exact set).1 (law.1 cut, short)),
      )

  pub listings-same : (sets : List (List ℕ)) → IsPathListing system target most sets ↔ IsListing (dual_of system) target most sets
  listings-same sets = (
    (λ listing. record { exact = cuts-are sets listing.exact; ordered = listing.ordered }),
    (λ listing. record { exact = paths-are sets listing.exact; ordered = listing.ordered }),
  )

-- the sets of a family of minimal cut sets are among the events of the slice
pub among-events : (system : System) (target : ℕ) (most : Option ℕ) (family : Family) (events : List ℕ) → HasMinimalCutSets system target most family → AreServedEvents system target events
    → (set : List ℕ) → Contains family set → IsTrue (is_within set events)
among-events system target most family events exact (slice, served, same) set here =
    subst (λ (all : List ℕ). IsTrue (is_within set all)) (sym same) (minimal_in_slice system target slice served.is_slice set ((exact set).0 here).0)

-- ---- the gates of a target's tree

module _ (system : System) (is : IsSystem system) (target : ℕ) where
  module _ (tree : Tree) (of_target : IsTreeFor system target tree) where
    pub tree-paths : (set : List ℕ) → IsMinimalPathSet (gate_system_of system tree) tree.top set ↔ IsMinimalPathSet system target set
    tree-paths = gates-paths system tree target (λ events. tree-truth system target tree events is of_target)

    pub target-exact : (most : Option ℕ) (family : Family) → HasMinimalPathSets (gate_system_of system tree) tree.top most family → HasMinimalPathSets system target most family
    target-exact most family exact set =
        let law = tree-paths set in (
          (λ here. let both = (exact set).0 here in (law.0 both.0, both.1)),
          (λ (path, short). (exact set).1 (law.1 path, short)),
        )

    gates-exact : (most : Option ℕ) (family : Family) → HasMinimalPathSets system target most family → HasMinimalPathSets (gate_system_of system tree) tree.top most family
    gates-exact most family exact set =
        let law = tree-paths set in (
          (λ here. let both = (exact set).0 here in (law.1 both.0, both.1)),
          (λ (path, short). (exact set).1 (law.0 path, short)),
        )

    pub gate-listings : HasTextNames system → (most : Option ℕ) (sets : List (List ℕ)) → IsPathListing system target most sets ↔ IsListing (dual_of (gate_system_of system tree)) tree.top most sets
    gate-listings names most sets =
        let made = made-well system target tree is of_target in
        let law = listings-same (gate_system_of system tree) (gates-system system tree is made (gates-differ system is names tree made)) (gates-free system tree made) tree.top (top-inside system tree made) most sets in (
          (λ listing. law.0 (record { exact = gates-exact most sets listing.exact; ordered = listing.ordered })),
          (λ listing. let gates = law.1 listing in record { exact = target-exact most sets gates.exact; ordered = gates.ordered }),
        )

    -- nothing is refused where the slice of the dual of its gates is not too large
    pub clear-tree : (events : List ℕ) → AreServedEvents (dual_of (gate_system_of system tree)) tree.top events → IsClear (HasLargePaths system target)
    clear-tree events (slice, served, same) refusal large =
        elim large [
          | inl many ↦ tree-or-large system is target tree refusal of_target many
          | inr dual ↦ served_or_large (dual_of (gate_system_of system tree)) tree.top slice refusal served
              (subst (λ (t : Tree). HasLargeSlice (dual_of (gate_system_of system t)) t.top refusal) (one-tree system is target dual.0 tree dual.1 of_target) dual.2)
        ]

    pub tree-refused : (stop : Stop) → StopsFor (HasLargeSlice (dual_of (gate_system_of system tree)) tree.top) stop → StopsFor (HasLargePaths system target) stop
    tree-refused Memory why = why
    tree-refused (Refused refusal) why = inr (tree, of_target, why)

  -- the path sets are refused in one way at most
  pub one-refusal : (a b : Refusal) → HasLargePaths system target a → HasLargePaths system target b → a ≡ b
  one-refusal a b first second =
      elim first [
        | inl many ↦ elim second [
          | inl more ↦ many.refusal_is ∙ sym more.refusal_is
          | inr dual ↦ absurd (tree-or-large system is target dual.0 a dual.1 many)
        ]
        | inr dual ↦ elim second [
          | inl more ↦ absurd (tree-or-large system is target dual.0 b dual.1 more)
          | inr other ↦ one_large (dual_of (gate_system_of system dual.0)) dual.0.top a b dual.2
              (subst (λ (t : Tree). HasLargeSlice (dual_of (gate_system_of system t)) t.top b) (one-tree system is target other.0 dual.0 other.1 dual.1) other.2)
        ]
      ]

-- ---- constant targets

module _ (system : System) (target : ℕ) where
  pub clear-constant : (always : Bool) → IsConstant system target always → IsClear (HasLargePaths system target)
  clear-constant always constant refusal large =
      elim large [
        | inl many ↦ many.varying always constant
        | inr dual ↦ dual.1.varying always constant
      ]

  empty-short : (most : Option ℕ) → IsWithinOrder most []
  empty-short None = tt
  empty-short (Some most) = omega arith

  pub constant-exact : (always : Bool) (most : Option ℕ) → IsConstant system target always → HasMinimalPathSets system target most (constant_paths always)
  constant-exact true most constant set = (
    (λ here. absurd (In-contains set [] here)),
    (λ (path, short). absurd (always-paths system target set constant path)),
  )
  constant-exact false most constant set =
      let law = never-paths system target set constant in (
        (λ here. let same : set ≡ [] = only here in (law.1 same, subst (IsWithinOrder most) (sym same) (empty-short most))),
        (λ (path, short). subst (Contains ([] ∷ [])) (sym (law.0 path)) (contains_In [] ([] ∷ []) (inl refl))),
      )
    where
      only : Contains ([] ∷ []) set → set ≡ []
      only here = elim (In-contains set ([] ∷ []) here) [ inl same ↦ sym same | inr none ↦ absurd none ]

  pub constant-listing : (always : Bool) (most : Option ℕ) → IsConstant system target always → IsPathListing system target most (constant_paths always)
  constant-listing always most constant = record { exact = constant-exact always most constant; ordered = in-order always }
    where
      in-order : (b : Bool) → IsInListingOrder (constant_paths b)
      in-order true = tt
      in-order false = (tt, tt)

-- the sets of a constant target are among any events
pub constant-among : (always : Bool) (events set : List ℕ) → Contains (constant_paths always) set → IsTrue (is_within set events)
unfolding is_within
constant-among true events set here = absurd (In-contains set [] here)
constant-among false events set here = elim (In-contains set ([] ∷ []) here) [ inl same ↦ subst (λ (s : List ℕ). IsTrue (is_within s events)) same refl | inr none ↦ absurd none ]
