-- The families of the parts of a formula, and of the formula.
use Rattle.std.proofs.Common.{ℕ, ◌+◌, ◌≡◌, ◌<◌, ◌≤◌, Bool, true, false, ◌&&◌, ◌||◌, List, [], ◌∷◌, ◌++◌, map, take, length, All, Option, Some, Result, Ok, Err, IfOk, slice_index_or, nat_le, ap, ◌∙◌, sym, subst, refl, arith, add-one}
use Rattle.std.proofs.Math.Seq.{take-suc}
use Rattle.std.proofs.lemmas.List.{get_or-map, map-append, get_or_past}
use Rattle.std.proofs.lemmas.List.Elements.{All-push, All-get_or}
use Rattle.std.proofs.lemmas.Option.{slice_get_within, get_or_from_slice_get}
use Rattle.std.specs.List.{slice_get, list_all, list_any}
use Rattle.std.specs.declared.alloc.AllocError.{AllocError}
use lib.ListN.{length-map}
use Rattle.fault_system.specs.Truth.{NumberSet, member, truth, count_true}
use Rattle.fault_system.specs.declared.formula.Formula.TheVariants.{And, Or, AtLeast}
use Rattle.fault_system.proofs.TruthLaws.{truth-And, truth-Or, truth-AtLeast}
use Rattle.fault_system.specs.declared.formula.Formula.{Formula}
use Rattle.zdd_store.specs.inner.Family.{covers, has, is_within}
use Rattle.zdd_store.specs.inner.Store.{Families, IsIn, family_of, Keeps, IsSound}
use Rattle.zdd_store.specs.declared.id.Id.{Id}
use Rattle.zdd_families.proofs.Ways.{Keeps_same}
use Rattle.zdd_families.proofs.Pairs.{covers-empty, covers-unit}
use Rattle.cutset_engine.specs.inner.Gates.{covers_each, events_of, is_true_under, StandEach, Made}
use Rattle.cutset_engine.proofs.Covering.{kept_each, kept_in, made_then}

-- the parts so far
abbrev pub PartsStand : List ℕ → Families → Families → List Id → Option ℕ → List Formula → List Id → Type 0
PartsStand order before store now most parts ids = StandEach store most (λ set. map (λ part. is_true_under order before now part set) parts) ids

kept_true : (order : List ℕ) (before after : Families) (now : List Id) (part : Formula) (set : List ℕ) → Keeps before after → All (IsIn before) now → is_true_under order after now part set ≡ is_true_under order before now part set
kept_true order before after now part set kept found = ap (λ bs. truth (events_of order set) (member bs) part) (kept_each before after now set kept found)

each_append : (store : Families) (front back : List Id) (set : List ℕ) → covers_each store (front ++ back) set ≡ covers_each store front set ++ covers_each store back set
each_append store front back set = map-append (λ id. covers (family_of store id) set) front back

map_next : {X : Type 0} (f : X → Bool) (xs : List X) (i : ℕ) (x : X) → i < length xs → x ≡ slice_index_or xs i x → map f (take (i + 1) xs) ≡ map f (take i xs) ++ f x ∷ []
map_next f xs i x h e = rw add-one (ap (map f) (take-suc xs i x h) ∙ map-append f (take i xs) (slice_index_or xs i x ∷ []) ∙ ap (λ y. map f (take i xs) ++ f y ∷ []) (sym e))

-- one part more
pub parts_next : (order : List ℕ) (before s1 s2 : Families) (now : List Id) (most : Option ℕ) (parts : List Formula) (i : ℕ) (part : Formula) (ids ids' : List Id) (id : Id)
    → Keeps before s1 → All (IsIn before) now → PartsStand order before s1 now most (take i parts) ids → Made s1 s2 most (is_true_under order s1 now part) (Ok id) → i < length parts → part ≡ slice_index_or parts i part → ids' ≡ ids ++ id ∷ []
    → PartsStand order before s2 now most (take (i + 1) parts) ids'
parts_next order before s1 s2 now most parts i part ids ids' id kept found stand made fits is pushed =
    record {
      found = subst (All (IsIn s2)) (sym pushed) (All-push (IsIn s2) ids id (kept_in s1 s2 ids made.kept stand.found) made.made.found);
      right = λ set h.
          let old : covers_each s2 ids set ≡ map (λ p. is_true_under order before now p set) (take i parts) = kept_each s1 s2 ids set made.kept stand.found ∙ stand.right set h in
          let new : covers (family_of s2 id) set ≡ is_true_under order before now part set = made.made.right set h ∙ kept_true order before s1 now part set kept found in
          ap (λ xs. covers_each s2 xs set) pushed ∙ each_append s2 ids (id ∷ []) set ∙ ap (λ bs. bs ++ covers (family_of s2 id) set ∷ []) old
          ∙ ap (λ b. map (λ p. is_true_under order before now p set) (take i parts) ++ b ∷ []) new ∙ sym (map_next (λ p. is_true_under order before now p set) parts i part fits is);
    }

-- a gate over its parts
pub gate_made : (f : List Bool → Bool) (before middle after : Families) (most : Option ℕ) (tests : List ℕ → List Bool) (test : List ℕ → Bool) (ids ids' : List Id) (result : Result Id AllocError)
    → Keeps before middle → StandEach middle most tests ids → ids' ≡ ids → Made middle after most (λ set. f (covers_each middle ids' set)) result → ((set : List ℕ) → f (tests set) ≡ test set) → Made before after most test result
gate_made f before middle after most tests test ids ids' result kept stand is made same =
    made_then before middle after most _ test result kept made (λ set h. ap (λ xs. f (covers_each middle xs set)) is ∙ ap f (stand.right set h) ∙ same set)

single_covers : (v : ℕ) (set : List ℕ) → covers ((v ∷ []) ∷ []) set ≡ has set v
unfolding covers is_within
single_covers v set = once (has set v) where
  once : (b : Bool) → (b && true) || false ≡ b
  once true = refl
  once false = refl

pub event_made : (before after : Families) (most : Option ℕ) (v : ℕ) (test : List ℕ → Bool) (result : Result Id AllocError) → Keeps before after → IfOk result (IsIn after) → IfOk result (λ id. family_of after id ≡ (v ∷ []) ∷ []) → ((set : List ℕ) → has set v ≡ test set) → Made before after most test result
event_made before after most v test (Ok id) kept found family same = record { kept = kept; made = record { found = found; right = λ set h. ap (λ fam. covers fam set) family ∙ single_covers v set ∙ same set } }
event_made before after most v test (Err e) kept found family same = record { kept = kept; made = tt }

pub always_made : (store : Families) (most : Option ℕ) → IsSound store → Made store store most (λ set. true) (Ok (record { position = 1 }))
always_made store most sound = record { kept = Keeps_same store; made = record { found = sound.some; right = λ set h. covers-unit store (record { position = 1 }) set sound refl } }

pub fact_some : (store : Families) (most : Option ℕ) (now : List Id) (n : ℕ) (id : Id) → All (IsIn store) now → slice_get now n ≡ Some id → Made store store most (λ set. member (covers_each store now set) n) (Ok id)
fact_some store most now n id found at =
    let fits : n < length now = slice_get_within now n id at in
    let is : slice_index_or now n id ≡ id = get_or_from_slice_get now n id id at in
    record {
      kept = Keeps_same store;
      made = record {
        found = subst (IsIn store) is (All-get_or (IsIn store) now n id fits found);
        right = λ set h. sym (get_or-map (λ i. covers (family_of store i) set) now n id false fits ∙ ap (λ i. covers (family_of store i) set) is);
      };
    }

pub fact_none : (store : Families) (most : Option ℕ) (now : List Id) (n : ℕ) → IsSound store → length now ≤ n → Made store store most (λ set. member (covers_each store now set) n) (Ok (record { position = 0 }))
fact_none store most now n sound past =
    record {
      kept = Keeps_same store;
      made = record {
        found = omega (arith, sound.some);
        right = λ set h. covers-empty store (record { position = 0 }) set sound refl ∙ sym (get_or_past (covers_each store now set) n false (omega (arith, length-map now (λ i. covers (family_of store i) set))));
      };
    }

-- the truth of a gate from that of its parts
module _ (events facts : NumberSet) (formula : Formula) (parts xs : List Formula) (same : xs ≡ parts) where
  pub and_true : formula ≡ And parts → list_all (λ b. b) (map (λ part. truth events facts part) xs) ≡ truth events facts formula
  and_true is = ap (λ ys. list_all (λ b. b) (map (truth events facts) ys)) same ∙ sym (ap (truth events facts) is ∙ truth-And events facts parts)

  pub or_true : formula ≡ Or parts → list_any (λ b. b) (map (λ part. truth events facts part) xs) ≡ truth events facts formula
  or_true is = ap (λ ys. list_any (λ b. b) (map (truth events facts) ys)) same ∙ sym (ap (truth events facts) is ∙ truth-Or events facts parts)

  pub least_true : (k : ℕ) → formula ≡ AtLeast k parts → nat_le k (count_true (map (λ part. truth events facts part) xs)) ≡ truth events facts formula
  least_true k is = ap (λ ys. nat_le k (count_true (map (truth events facts) ys))) same ∙ sym (ap (truth events facts) is ∙ truth-AtLeast events facts k parts)
