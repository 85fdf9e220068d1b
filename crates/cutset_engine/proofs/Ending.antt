-- From no families to those of all facts of a slice, and from the family of the target to its minimal cut sets.
use Rattle.std.proofs.Common.{ℕ, zero, suc, ◌≡◌, ◌↔◌, ◌<◌, ◌≤◌, Bool, true, false, ◌||◌, nat_le, List, [], ◌∷◌, filter, map, length, slice_index_or, All, Contains, Option, Some, None, ap, ◌∙◌, sym, subst, refl, arith}
use Rattle.std.proofs.lemmas.Bool.{false≢true, leb-true}
use Rattle.std.proofs.lemmas.List.{get_or-map}
use Rattle.std.proofs.lemmas.List.Elements.{All-weaker}
use Rattle.std.specs.List.{AllByRecursion}
use Rattle.fault_system.specs.Truth.{Has, member}
use Rattle.fault_system.specs.Systems.{System, IsSystem, Holds}
use Rattle.fault_system.specs.Listings.{IsWithinOrder}
use Rattle.fault_system.proofs.Elements.{In-contains, contains_In, In-filter}
use Rattle.fault_system.proofs.HoldsLaws.{holds_of-exact}
use Rattle.fault_system.proofs.NumberSets.{RisesWithin-each}
use Rattle.backward_slice.specs.Slices.{IsSlice}
use Rattle.backward_slice.specs.declared.parts.Slice.{Slice}
use Rattle.zdd_store.specs.inner.Family.{Family, covers, has, IsRising, IsAntichain}
use Rattle.zdd_store.specs.inner.Answers.{sets_up_to, IsLeastFamily}
use Rattle.zdd_store.specs.inner.Store.{Families, IsIn, family_of, IsSound}
use Rattle.zdd_store.specs.declared.id.Id.{Id}
use lib.ListN.{length-map}
use Rattle.zdd_families.proofs.Pairs.{covers-empty}
use Rattle.family_renaming.specs.inner.Renaming.{name_of, renamed, AreInverse, IsRenamedOf}
use Rattle.cutset_engine.specs.inner.Gates.{covers_each, events_of}
use Rattle.cutset_engine.specs.inner.Filling.{Task, covered, IsFilling, IsFilled, HaveTheirCauses}
use Rattle.cutset_engine.specs.inner.Families.{HasMinimalCutSets, IsLeast, sets_to}
use Rattle.zdd_families.proofs.Shorter.{covers_cut}
use Rattle.cutset_engine.proofs.Covering.{sound_rising}
use Rattle.cutset_engine.proofs.CutSets.{has_minimal_cut_sets, order-shorter}
use Rattle.cutset_engine.proofs.Renamed.{renamed-shorter, variables_of, variables_has, renamed-covers, renamed-apart}

none_covered : (store : Families) (now : List Id) (s : List ℕ) (n : ℕ) → IsSound store → All (λ (id : Id). id.position ≡ 0) now → Has (member (covers_each store now s)) n → ⊥
none_covered store [] s n sound none h = false≢true h
none_covered store (id ∷ now) s zero sound none h = false≢true (sym (covers-empty store id s sound (none 0 id (omega arith))) ∙ h)
none_covered store (id ∷ now) s (suc n) sound none h = none_covered store now s n sound (λ k d l. none (suc k) d (omega arith)) h

-- with no family for any fact, nothing is covered
pub filling-none : (task : Task) (store : Families) (now : List Id) → IsSound store → length now ≡ length task.system.facts → All (λ (id : Id). id.position ≡ 0) now → IsFilling task store now
filling-none task store now sound long none =
    record {
      size = long;
      found = All-weaker (λ (id : Id). id.position ≡ 0) (IsIn store) (λ id e. omega (arith, sound.some)) now none;
      holds = λ s w n h. absurd (none_covered store now s n sound none h);
      stays = λ s w n h. absurd (none_covered store now s n sound none h);
    }

-- a slice has all that occurs in its facts' formulas
pub slice-causes : (system : System) (target : ℕ) (slice : Slice) → IsSlice system target slice → HaveTheirCauses system slice.facts
slice-causes system target slice is n m fact here at o =
    (is.facts m).1 (λ xs causes has. causes n m fact ((is.facts n).0 here xs causes has) at o)

-- the target is in its slice
pub target-in : (system : System) (target : ℕ) (slice : Slice) → IsSlice system target slice → Contains slice.facts target
target-in system target slice is = (is.facts target).1 (λ xs causes has. has)

pub target-fact : (system : System) (target : ℕ) (slice : Slice) → IsSlice system target slice → target < length system.facts
target-fact system target slice is =
    let here = target-in system target slice is in
    subst (λ n. n < length system.facts) here.2 (RisesWithin-each 0 (length system.facts) slice.facts is.facts_rise here.0 target here.1)

or_false : (a b : Bool) → b ≡ false → a || b ≡ a
or_false true b e = refl
or_false false b e = e

-- a cut family: none of its sets is within another, each is within the order, and it covers as before within the order
cut_apart : (all : Family) (m : Option ℕ) → IsAntichain all → IsAntichain (sets_to m all)
unfolding sets_up_to
cut_apart all None apart part whole p w within = apart part whole p w within
cut_apart all (Some k) apart part whole p w within = apart part whole (from part p) (from whole w) within where
  from : (set : List ℕ) → Contains (filter (λ s. nat_le (length s) k) all) set → Contains all set
  from set h = contains_In set all (In-filter (λ s. nat_le (length s) k) set all (In-contains set (filter (λ s. nat_le (length s) k) all) h)).0

cut_short : (all : Family) (m : Option ℕ) (set : List ℕ) → Contains (sets_to m all) set → IsWithinOrder m set
unfolding sets_up_to
cut_short all None set h = tt
cut_short all (Some k) set h = leb-true _ _ (In-filter (λ s. nat_le (length s) k) set all (In-contains set (filter (λ s. nat_le (length s) k) all) h)).1

cut_right : (all : Family) (m : Option ℕ) (set : List ℕ) → AllByRecursion IsRising all → IsWithinOrder m set → covers (sets_to m all) set ≡ covers all set
cut_right all None set rising w = refl
cut_right all (Some k) set rising w = covers_cut k all set rising w

-- the minimal sets of a family within the order
pub least-made : (before middle after : Families) (most : Option ℕ) (id minimal answer : Id) → IsSound before → IsSound middle → IsSound after → IsIn middle minimal → IsLeastFamily (covers (family_of before id)) (family_of middle minimal)
    → IsIn after answer → family_of after answer ≡ sets_to most (family_of middle minimal) → IsLeast before after most id answer
least-made before middle after most id minimal answer sound sound1 sound2 found1 least found is =
    record {
      found = found;
      rising = sound_rising after answer sound2 found;
      apart = subst IsAntichain (sym is) (cut_apart (family_of middle minimal) most least.apart);
      short = λ set h. cut_short (family_of middle minimal) most set (subst (λ f. Contains f set) is h);
      right = λ set w. ap (λ f. covers f set) is ∙ cut_right (family_of middle minimal) most set (sound_rising middle minimal sound1 found1) w ∙ least.covering set;
    }

-- From the family of the target over variables to its minimal cut sets: the minimal sets within the order, and then their
-- renaming over events.
module _ (system : System) (target : ℕ) (slice : Slice) (most : Option ℕ) (events variables : List ℕ) (before : Families) (now : List Id) (id : Id) (inverse : AreInverse events variables) (is_system : IsSystem system) (few : length system.events ≤ 4294967296)
    (is_slice : IsSlice system target slice) (filled : IsFilled (record { system = system; order = variables; most = most }) slice.facts before now) (fits : target < length now) (at : id ≡ slice_index_or now target id) where
  marked : (set : List ℕ) → member (covered before now set) target ≡ covers (family_of before id) set
  marked set = get_or-map (λ (i : Id). covers (family_of before i) set) now target id false fits ∙ ap (λ (i : Id). covers (family_of before i) set) (sym at)

  -- the events of the variables of a set are those of the set
  same_events : (set : List ℕ) → events_of variables (variables_of events variables inverse set) ≡ has set
  same_events set = λ i e. variables_has events variables inverse set e i

  within_most : (set : List ℕ) → IsWithinOrder most set → IsWithinOrder most (variables_of events variables inverse set)
  within_most set w = order-shorter most (map (name_of variables) set) set (omega (arith, length-map set (name_of variables))) w

  pub exact-made : (middle after : Families) (inner answer : Id) → IsLeast before middle most id inner → IsSound after → IsIn after answer → ((set : List ℕ) → Contains (family_of after answer) set ↔ IsRenamedOf events (family_of middle inner) set) → HasMinimalCutSets system target most (family_of after answer)
  exact-made middle after inner answer least sound found sets =
      has_minimal_cut_sets system is_system few target most (family_of after answer) (sound_rising after answer sound found) (renamed-apart events variables inverse (family_of middle inner) (family_of after answer) sets least.apart)
      (λ set here.
      let part = (sets set).0 here in
      subst (IsWithinOrder most) (sym part.2) (order-shorter most (renamed events part.0) part.0 (renamed-shorter events part.0) (least.short part.0 part.1)))
      (λ set w.
      let own = variables_of events variables inverse set in
      let covered_so : covers (family_of after answer) set ≡ member (covered before now own) target =
      renamed-covers events variables inverse (family_of middle inner) (family_of after answer) sets set ∙ least.right own (within_most set w) ∙ sym (marked own) in (
        (λ h. subst (λ es. Holds system es target) (same_events set) (filled.filling.holds own (within_most set w) target (sym covered_so ∙ h))),
        (λ h. covered_so ∙ filled.all own (within_most set w) target (target-in system target slice is_slice) ((holds_of-exact system (events_of variables own) target).1 (subst (λ es. Holds system es target) (sym (same_events set)) h))),
      ))
