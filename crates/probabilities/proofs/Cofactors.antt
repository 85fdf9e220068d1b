-- The families that come up are cofactors, and no two of them cover the same.
use Rattle.std.proofs.Common.{ℕ, zero, suc, ◌+◌, ◌<◌, ◌≤◌, ◌≡◌, ◌∙◌, sym, subst, ap, refl, inl, inr, Bool, true, false, cond, List, [], ◌∷◌, ◌++◌, map, length, Contains, append_assoc, get_or, is_some, Option, Some, None, arith}
use Rattle.std.specs.Prelude.{◌⊎◌, IsTrue, slice_get, Result, Ok, Err, IfOk, IfNone}
use Rattle.std.specs.declared.alloc.AllocError.{AllocError}
use Rattle.std.specs.List.{AllByRecursion, IsDistinct}
use Rattle.std.specs.Map.{lookup, keys_of}
use Rattle.std.proofs.lemmas.Bool.{false≢true}
use Rattle.std.proofs.lemmas.Option.{slice_get_cases}
use Rattle.std.proofs.lemmas.List.{length-map}
use Rattle.zdd_store.specs.inner.Family.{Family, branch, least_of, least_number, has, is_within, covers, IsAntichain, IsRising, HaveSameSets}
use Rattle.zdd_store.specs.inner.Store.{Families, IsIn, family_at, family_of, family_with, Fits, Keeps, IsSound}
use Rattle.zdd_store.specs.inner.Answers.{IsLeastFamily}
use Rattle.zdd_store.specs.declared.id.Node.{Node}
use Rattle.zdd_store.specs.declared.id.Id.{Id}
use Rattle.zdd_store.proofs.Orders.{all_contained, contains_first}
use Rattle.zdd_store.proofs.Growing.{some_set}
use Rattle.zdd_families.specs.inner.Steps.{either}
use Rattle.zdd_families.proofs.Subsets.{has_first, has_rest, has_cases, has-greater, within_has, within_from, within_self, within_trans, within_more, within-without, same_rising}
use Rattle.zdd_families.proofs.Covers.{covers_member, member_covers, covers_more, least-member, member-greater}
use Rattle.zdd_families.proofs.Booleans.{true_or_false}
use Rattle.zdd_families.proofs.Joins.{hi_in_branch, antichain-lo}
use Rattle.zdd_families.proofs.Pairs.{found_kept, apart_kept}
use Rattle.probabilities.specs.declared.rates.Bounds.{Bounds}
use Rattle.probabilities.specs.inner.Bounded.{AreParts}
use Rattle.probabilities.specs.inner.Cofactors.{IsCofactor, CoverTheSame, AreDifferent, HasMoreCofactors, HasEventFrom, IsGivenUp, IsCofactorAt, KnowsCofactors, IsTraced}
use Rattle.probabilities.proofs.Bounding.{at-absent, at-present}
use Rattle.probabilities.proofs.Deciding.{node_parts}

earlier_more : (a b : ℕ) (events : List ℕ) → a ≤ b → AllByRecursion (λ event. event < a) events → AllByRecursion (λ event. event < b) events
earlier_more a b [] le all = tt
earlier_more a b (e ∷ es) le all = let h : e < a = all.0 in (omega arith, earlier_more a b es le all.1)

earlier_last : (v : ℕ) (events : List ℕ) → AllByRecursion (λ event. event < v + 1) events → AllByRecursion (λ event. event < v + 1) (events ++ v ∷ [])
earlier_last v [] all = (omega arith, tt)
earlier_last v (e ∷ es) all = (all.0, earlier_last v es all.1)

least-more : (v low : ℕ) (set : List ℕ) → low ≤ v → v + 1 ≤ least_of set → low ≤ least_of (v ∷ set)
unfolding least_of
least-more v low set le above = omega arith

-- the family itself
pub root_cofactor : (family : Family) → IsCofactor family family
root_cofactor family = record { first = 0; occurred = []; earlier = tt; beyond = omega arith; covering = λ set above. refl }

-- where its first event did not occur, and where it did
pub absent_cofactor : (root family lo hi : Family) (v : ℕ) → AreParts family v lo hi → least_number family ≡ v → IsCofactor root family → IsCofactor root lo
absent_cofactor root family lo hi v parts top is =
    let start : is.first ≤ v = omega (arith, is.beyond) in
    record {
      first = v + 1;
      occurred = is.occurred;
      earlier = earlier_more is.first (v + 1) is.occurred (omega arith) is.earlier;
      beyond = omega (arith, parts.lo_greater);
      covering = λ set above. sym (at-absent family v lo hi parts set (has-greater set v (omega arith))) ∙ is.covering set (omega arith);
    }

pub present_cofactor : (root family lo hi : Family) (v : ℕ) → AreParts family v lo hi → least_number family ≡ v → IsCofactor root family → IsCofactor root hi
present_cofactor root family lo hi v parts top is =
    let start : is.first ≤ v = omega (arith, is.beyond) in
    record {
      first = v + 1;
      occurred = is.occurred ++ v ∷ [];
      earlier = earlier_last v is.occurred (earlier_more is.first (v + 1) is.occurred (omega arith) is.earlier);
      beyond = omega (arith, parts.hi_greater);
      covering = λ set above. sym (at-present family v lo hi parts set) ∙ (is.covering (v ∷ set) (least-more v is.first set start above) ∙ ap (covers root) (sym (append_assoc is.occurred (v ∷ []) set)));
    }

has_moved : (v x : ℕ) (events set : List ℕ) → has (events ++ v ∷ set) x ≡ true → has (v ∷ (events ++ set)) x ≡ true
has_moved v x [] set h = h
has_moved v x (e ∷ es) set h = at (has_cases e (es ++ v ∷ set) x h) (has_moved v x es set)
  where
    at : (e ≡ x) ⊎ (has (es ++ v ∷ set) x ≡ true) → (has (es ++ v ∷ set) x ≡ true → has (v ∷ (es ++ set)) x ≡ true) → has (v ∷ (e ∷ (es ++ set))) x ≡ true
    at (inl is) more = has_rest v (e ∷ (es ++ set)) x (subst (λ n. has (e ∷ (es ++ set)) n ≡ true) is (has_first e (es ++ set)))
    at (inr there) more = by (has_cases v (es ++ set) x (more there))
      where
        by : (v ≡ x) ⊎ (has (es ++ set) x ≡ true) → has (v ∷ (e ∷ (es ++ set))) x ≡ true
        by (inl is) = subst (λ n. has (v ∷ (e ∷ (es ++ set))) n ≡ true) is (has_first v (e ∷ (es ++ set)))
        by (inr rest) = has_rest v (e ∷ (es ++ set)) x (has_rest e (es ++ set) x rest)

-- what a family covers with an event and not without it is by a set with the event
set_with : (root : Family) (v : ℕ) (events set : List ℕ) → covers root (events ++ v ∷ set) ≡ true → (covers root (events ++ set) ≡ true → ⊥) → (part : List ℕ) × Contains root part × (has part v ≡ true)
set_with root v events set on off =
    let c = member_covers root (events ++ v ∷ set) on in
    let moved : is_within c.part (v ∷ (events ++ set)) ≡ true = within_from c.part (v ∷ (events ++ set)) (λ x here. has_moved v x events set (within_has c.part (events ++ v ∷ set) x c.within here)) in
    (c.part, c.member, at c.part c.member moved (true_or_false (has c.part v)))
  where
    at : (part : List ℕ) → Contains root part → is_within part (v ∷ (events ++ set)) ≡ true → (has part v ≡ true) ⊎ (has part v ≡ false) → has part v ≡ true
    at part member moved (inl there) = there
    at part member moved (inr out) = absurd (off (covers_member root part (events ++ set) member (sym (within-without part (events ++ set) v out) ∙ moved)))

-- the first event of a cofactor is one of the family
pub first_event : (root family lo hi : Family) (v count : ℕ) (set : List ℕ) → count ≤ v → family ≡ branch v lo hi → least_number family ≡ v → v < least_number hi → Contains hi set
    → IsAntichain family → IsCofactor root family → HasEventFrom count root
first_event root family lo hi v count set without is top greater here apart cofactor =
    let start : cofactor.first ≤ v = omega (arith, cofactor.beyond) in
    let low : least_number hi ≤ least_of set = least-member hi set here in
    let member : Contains family (v ∷ set) = subst (λ f. Contains f (v ∷ set)) (sym is) (hi_in_branch v lo hi set here) in
    let on : covers family (v ∷ set) ≡ true = covers_member family (v ∷ set) (v ∷ set) member (within_self (v ∷ set)) in
    let off : covers family set ≡ true → ⊥ = λ k. let c = member_covers family set k in
    let same : c.part ≡ v ∷ set = apart c.part (v ∷ set) c.member member (within_more c.part set v c.within) in
    let there : has set v ≡ true = within_has c.part set v c.within (subst (λ p. has p v ≡ true) (sym same) (has_first v set)) in
    false≢true (sym (member-greater hi set v here greater) ∙ there) in
    let found = set_with root v cofactor.occurred set
    (sym (cofactor.covering (v ∷ set) (least-more v cofactor.first set start (omega arith))) ∙ on)
    (λ k. off (cofactor.covering set (omega arith) ∙ k)) in
    record { set = found.0; event = v; member = found.1; stands = found.2; without = without }

-- families of minimal sets that cover the same have the same sets
same_set : (a b : Family) → IsAntichain a → AllByRecursion IsRising a → AllByRecursion IsRising b → CoverTheSame a b → (set : List ℕ) → Contains a set → Contains b set
same_set a b apart ra rb same set here =
    let c = member_covers b set (sym (same set) ∙ covers_member a set set here (within_self set)) in
    let d = member_covers a c.part (same c.part ∙ covers_member b c.part c.part c.member (within_self c.part)) in
    let back : d.part ≡ set = apart d.part set d.member here (within_trans d.part c.part set d.within c.within) in
    let both : c.part ≡ set = same_rising c.part set (all_contained IsRising b c.part rb c.member) (all_contained IsRising a set ra here) c.within (subst (λ s. is_within s c.part ≡ true) back d.within) in
    subst (λ s. Contains b s) both c.member

id_same : (a b : Id) → a.position ≡ b.position → a ≡ b
id_same a b e = ap (λ (p : ℕ). record { position = p }) e

-- so two numbers whose families cover the same are one
one_id : (root : Family) (store : Families) (a b : Id) → IsSound store → IsCofactorAt root store a → IsCofactorAt root store b → CoverTheSame (family_of store a) (family_of store b) → a ≡ b
one_id root store a b sound first second same =
    let ra = sound.rising a.position first.found in
    let rb = sound.rising b.position second.found in
    id_same a b (sound.canonical a.position b.position first.found second.found
    (λ set. (same_set (family_of store a) (family_of store b) first.apart ra rb same set, same_set (family_of store b) (family_of store a) second.apart rb ra (λ s. sym (same s)) set)))

module _ (eq : Id → Id → Bool) (reflexive : (a : Id) → eq a a ≡ true) where
  apart_ids : (a b : Id) → eq a b ≡ false → a ≡ b → ⊥
  apart_ids a b apart same = false≢true (sym apart ∙ (ap (eq a) (sym same) ∙ reflexive a))

  all_keys : (P : Id → Type 0) (entries : List (Id × Bounds)) → ((id : Id) (bounds : Bounds) → lookup (eq id) entries ≡ Some bounds → P id) → AllByRecursion P (keys_of entries)
  all_keys P [] known = tt
  all_keys P (e ∷ es) known = (known e.0 e.1 (head (eq e.0 e.0) (reflexive e.0)), all_keys P es (λ id bounds found. tail id bounds (eq id e.0) refl found))
    where
      head : (b : Bool) → b ≡ true → cond b (Some e.1) (lookup (eq e.0) es) ≡ Some e.1
      head true h = refl
      head false h = absurd (false≢true h)

      tail : (id : Id) (bounds : Bounds) (b : Bool) → eq id e.0 ≡ b → lookup (eq id) es ≡ Some bounds → P id
      tail id bounds true h found = known id e.1 (ap (λ (b : Bool). cond b (Some e.1) (lookup (eq id) es)) h)
      tail id bounds false h found = known id bounds (ap (λ (b : Bool). cond b (Some e.1) (lookup (eq id) es)) h ∙ found)

  no_key : (id : Id) (entries : List (Id × Bounds)) → lookup (eq id) entries ≡ None → AllByRecursion (λ key. eq id key ≡ false) (keys_of entries)
  no_key id [] none = tt
  no_key id (e ∷ es) none = at (eq id e.0) refl none (no_key id es)
    where
      at : (b : Bool) → eq id e.0 ≡ b → cond b (Some e.1) (lookup (eq id) es) ≡ None → (lookup (eq id) es ≡ None → AllByRecursion (λ key. eq id key ≡ false) (keys_of es))
          → (eq id e.0 ≡ false) × AllByRecursion (λ key. eq id key ≡ false) (keys_of es)
      at true h none more = absurd (false≢true (sym (ap is_some none)))
      at false h none more = (h, more none)

  different_from : (root : Family) (store : Families) (id : Id) (keys : List Id) → IsSound store → IsCofactorAt root store id → AllByRecursion (IsCofactorAt root store) keys → AllByRecursion (λ key. eq id key ≡ false) keys
      → AllByRecursion (λ other. CoverTheSame (family_of store id) other → ⊥) (map (family_of store) keys)
  different_from root store id [] sound at all apart = tt
  different_from root store id (k ∷ ks) sound at all apart = (λ same. apart_ids id k apart.0 (one_id root store id k sound at all.0 same), different_from root store id ks sound at all.1 apart.1)

  all_different : (root : Family) (store : Families) (keys : List Id) → IsSound store → AllByRecursion (IsCofactorAt root store) keys → IsDistinct eq keys → AreDifferent (map (family_of store) keys)
  unfolding AreDifferent IsDistinct
  all_different root store [] sound all apart = tt
  all_different root store (k ∷ ks) sound all apart = (different_from root store k ks sound all.0 all.1 apart.0, all_different root store ks sound all.1 apart.1)

  each_cofactor : (root : Family) (store : Families) (keys : List Id) → AllByRecursion (IsCofactorAt root store) keys → AllByRecursion (IsCofactor root) (map (family_of store) keys)
  each_cofactor root store [] all = tt
  each_cofactor root store (k ∷ ks) all = let a : IsCofactorAt root store k = all.0 in (a.cofactor, each_cofactor root store ks all.1)

  -- with a number more than those that are known, there are more cofactors than these
  pub more_cofactors : (root : Family) (store : Families) (entries : List (Id × Bounds)) (id : Id) (most : ℕ) → IsSound store → IsCofactorAt root store id → KnowsCofactors root store (λ k. lookup (eq k) entries)
      → IsDistinct eq (keys_of entries) → lookup (eq id) entries ≡ None → most ≤ length entries → HasMoreCofactors most root
  unfolding AreDifferent
  more_cofactors root store entries id most sound at known apart none full =
      let keys = keys_of entries in
      let all : AllByRecursion (IsCofactorAt root store) keys = all_keys (IsCofactorAt root store) entries known in
      let count : length keys ≡ length entries = length-map entries (λ (e : Id × Bounds). e.0) in
      let long : length (map (family_of store) keys) ≡ length keys = length-map keys (family_of store) in
      record {
        cofactors = family_of store id ∷ map (family_of store) keys;
        more = omega arith;
        each = (at.cofactor, each_cofactor root store keys all);
        different = (different_from root store id keys sound at all (no_key id entries none), all_different root store keys sound all apart);
      }

-- what is known stays known as the store grows
pub cofactor_kept : (root : Family) (before after : Families) (id : Id) → Keeps before after → IsCofactorAt root before id → IsCofactorAt root after id
cofactor_kept root before after id kept at =
    record {
      found = found_kept before after id kept at.found;
      apart = apart_kept before after id kept at.found at.apart;
      cofactor = subst (λ f. IsCofactor root f) (sym (kept.same id.position at.found)) at.cofactor;
    }

pub cofactors_kept : (root : Family) (before after : Families) (known : Id → Option Bounds) → Keeps before after → KnowsCofactors root before known → KnowsCofactors root after known
cofactors_kept root before after known kept all id bounds e = cofactor_kept root before after id kept (all id bounds e)

-- where nothing stands, all of the list stands before
pub behind_all : {X : Type 0} (list : List X) (at : ℕ) → slice_get list at ≡ None → length list ≤ at
behind_all {X = X} list at none = by (slice_get_cases list at).1
  where
    by : ((x : X) × (at < length list) × (slice_get list at ≡ Some x) × (get_or list at x ≡ x)) ⊎ ((length list ≤ at) × (slice_get list at ≡ None)) → length list ≤ at
    by (inl p) = absurd (false≢true (sym (ap is_some (sym p.2 ∙ none))))
    by (inr p) = p.0

some_member : (family : Family) → ¬ (family ≡ []) → (set : List ℕ) × Contains family set
some_member [] none = absurd (none refl)
some_member (set ∷ sets) none = (set, contains_first set sets)

-- the event of a node is one of the family
pub node_lacks : (root : Family) (store : Families) (id : Id) (node : Node) (count : ℕ) → IsSound store → Fits store node → family_of store id ≡ family_with store node
    → least_number (family_of store id) ≡ node.var → count ≤ node.var → IsCofactorAt root store id → HasEventFrom count root
node_lacks root store id node count sound fits is top without at =
    let some = some_member (family_of store node.hi) (some_set store node.hi.position sound fits.hi_some fits.hi_in) in
    first_event root (family_of store id) (family_of store node.lo) (family_of store node.hi) node.var count some.0 without is top fits.hi_greater some.1 at.apart at.cofactor

-- its parts are cofactors
pub lo_at : (root : Family) (before after : Families) (id with : Id) (node : Node) → Fits before node → family_of before id ≡ family_with before node → least_number (family_of before id) ≡ node.var
    → IsLeastFamily (either (family_of before node.lo) (family_of before node.hi)) (family_of after with) → Keeps before after → IsCofactorAt root before id → IsCofactorAt root after node.lo
lo_at root before after id with node fits is top least kept at =
    let parts = node_parts before after id with node fits is least in
    cofactor_kept root before after node.lo kept
    record {
      found = fits.lo_in;
      apart = antichain-lo node.var (family_of before node.lo) (family_of before node.hi) (subst (λ f. IsAntichain f) is at.apart);
      cofactor = absent_cofactor root (family_of before id) (family_of before node.lo) (family_of after with) node.var parts top at.cofactor;
    }

pub with_at : (root : Family) (before after later : Families) (id with : Id) (node : Node) → Fits before node → family_of before id ≡ family_with before node → least_number (family_of before id) ≡ node.var
    → IsIn after with → IsLeastFamily (either (family_of before node.lo) (family_of before node.hi)) (family_of after with) → Keeps after later → IsCofactorAt root before id → IsCofactorAt root later with
with_at root before after later id with node fits is top here least kept at =
    let parts = node_parts before after id with node fits is least in
    cofactor_kept root after later with kept
    record { found = here; apart = least.apart; cofactor = present_cofactor root (family_of before id) (family_of before node.lo) (family_of after with) node.var parts top at.cofactor }

-- what is answered at the end of a call
pub note_traced : (count most : ℕ) (root : Family) (store : Families) (known : Id → Option Bounds) (bounds : Bounds) (result : Result (Option Bounds) AllocError) → KnowsCofactors root store known
    → IfOk result (λ found. found ≡ Some bounds) → IfOk result (IsTraced count most root store known)
note_traced count most root store known bounds (Err e) still is = is
note_traced count most root store known bounds (Ok found) still is = subst (λ o. IsTraced count most root store known o) (sym is) record { still = still; none = tt }

pub given_up : (count most : ℕ) (root : Family) (store : Families) (known : Id → Option Bounds) (result : Result (Option Bounds) AllocError) → IfOk result (IsTraced count most root store known)
    → IfOk result (λ found. IfNone found (IsGivenUp count most root))
given_up count most root store known (Err e) traced = traced
given_up count most root store known (Ok found) traced = traced.none

pub nothing_known : (eq : Id → Id → Bool) (root : Family) (store : Families) (entries : List (Id × Bounds)) → entries ≡ [] → KnowsCofactors root store (λ k. lookup (eq k) entries)
nothing_known eq root store entries none id bounds e = absurd (false≢true (ap is_some (sym (ap (lookup (eq id)) none) ∙ e)))
