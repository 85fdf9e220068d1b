-- The minimal cut sets of a target as they are held, and what is told of those of two targets.
use Rattle.std.proofs.Common.{ℕ, ◌+◌, ◌≡◌, ◌↔◌, List, [], ◌++◌, codes, length, Contains, Option, sym, ap, subst, ◌∙◌, arith}
use Rattle.std.specs.List.{AllByRecursion}
use Rattle.std.specs.Borrow.{Bor}
use Rattle.fault_system.specs.Systems.{System}
use Rattle.fault_system.specs.CutSets.{IsEventSet}
use Rattle.fault_system.specs.Listings.{IsInListingOrder, IsListing}
use Rattle.zdd_store.specs.inner.Family.{Family}
use Rattle.zdd_store.specs.inner.Store.{Families, IsIn, family_of}
use Rattle.cutset_engine.specs.inner.Families.{HasMinimalCutSets}
use Rattle.cutset_lister.specs.inner.Walks.{IsStarted, all_sets, sets_left}
use Rattle.listing_changes.specs.Changes.{TellsChanges, change_lines, end_line, unmatched}
use Rattle.listing_changes.specs.inner.Sides.{AreCuts, CanBeAsked, CanBeTold}
use Rattle.listing_changes.specs.declared.cuts.Cuts.{Cuts}
use Rattle.listing_changes.proofs.Texts.{event-sets, family-sets, tells-changes}

-- a family of the minimal cut sets, and its sets in listing order
pub cuts-made : (system : System) (target : ℕ) (most : Option ℕ) (cuts : Cuts) (family : Family) → HasMinimalCutSets system target most family → IsIn cuts.store cuts.sets → family_of cuts.store cuts.sets ≡ family → IsStarted cuts.store cuts.listing
    → IsInListingOrder (all_sets cuts.store cuts.listing) → ((set : List ℕ) → Contains (all_sets cuts.store cuts.listing) set ↔ Contains family set) → sets_left cuts.store cuts.listing ≡ all_sets cuts.store cuts.listing → AreCuts system target most cuts
cuts-made system target most cuts family exact found is started ordered same left = record {
  found = found;
  started = started;
  listing = subst (IsListing system target most) (sym left) (record {
    exact = λ set. ((λ here. (exact set).0 ((same set).0 here)), (λ minimal. (same set).1 ((exact set).1 minimal)));
    ordered = ordered;
  });
  same = λ set. (
    (λ here. subst (λ sets. Contains sets set) (sym is) ((same set).0 (subst (λ sets. Contains sets set) left here))),
    (λ here. subst (λ sets. Contains sets set) (sym left) ((same set).1 (subst (λ sets. Contains sets set) is here))),
  );
}

-- they can be told, and others can be looked up among them
pub can-tell : (system : System) (target : ℕ) (most : Option ℕ) (cuts : Cuts) → cuts.system.now ≡ system → AreCuts system target most cuts → CanBeTold cuts
can-tell system target most cuts is are = record {
  started = are.started;
  sets = subst (λ (its : System). AllByRecursion (IsEventSet its) (sets_left cuts.store cuts.listing)) (sym is) (event-sets system target most (sets_left cuts.store cuts.listing) are.listing);
}

pub can-ask : (system : System) (target : ℕ) (most : Option ℕ) (cuts : Cuts) → cuts.system.now ≡ system → AreCuts system target most cuts → CanBeAsked cuts
can-ask system target most cuts is are = record {
  found = are.found;
  sets = λ set here. subst (λ (its : System). IsEventSet its set) (sym is) (family-sets system target most (sets_left cuts.store cuts.listing) (family_of cuts.store cuts.sets) are.listing are.same set here);
}

same-family : (before after : Cuts) → after.store ≡ before.store → after.sets ≡ before.sets → family_of after.store after.sets ≡ family_of before.store before.sets
same-family before after store sets = ap (family_of after.store) sets ∙ ap (λ (its : Families). family_of its before.sets) store

-- also where the listing went on
pub ask-still : (before after : Cuts) → after.system ≡ before.system → after.store ≡ before.store → after.sets ≡ before.sets → CanBeAsked before → CanBeAsked after
ask-still before after system store sets asked = record {
  found = subst (IsIn after.store) (sym sets) (subst (λ (its : Families). IsIn its before.sets) (sym store) asked.found);
  sets = λ set here. subst (λ (its : Bor System). IsEventSet its.now set) (sym system) (asked.sets set (subst (λ family. Contains family set) (same-family before after store sets) here));
}

none-more : (n : ℕ) → 0 + n ≡ n
none-more n = omega arith

-- what is put together from both tells what changed
pub all-told : (older newer : System) (o n : ℕ) (most : Option ℕ) (before after gone_through : Cuts) (first second third last : List ℕ) (none gone new : ℕ) → before.system.now ≡ older → after.system.now ≡ newer
    → AreCuts older o most before → AreCuts newer n most after → gone_through.system ≡ before.system → gone_through.store ≡ before.store → gone_through.sets ≡ before.sets → first ≡ [] → none ≡ 0
    → second ≡ first ++ change_lines (codes "gone ") before.system.now (unmatched before.system.now after.system.now (family_of after.store after.sets) (sets_left before.store before.listing))
    → gone ≡ none + length (unmatched before.system.now after.system.now (family_of after.store after.sets) (sets_left before.store before.listing))
    → third ≡ second ++ change_lines (codes "new ") after.system.now (unmatched after.system.now gone_through.system.now (family_of gone_through.store gone_through.sets) (sets_left after.store after.listing))
    → new ≡ 0 + length (unmatched after.system.now gone_through.system.now (family_of gone_through.store gone_through.sets) (sets_left after.store after.listing))
    → last ≡ third ++ end_line gone new → TellsChanges older o newer n most last
all-told older newer o n most before after gone_through first second third last none gone new older_is newer_is before_are after_are system store sets empty zero second_is gone_is third_is new_is last_is =
    let family = same-family before gone_through store sets in
    let of_before = sets_left before.store before.listing in
    let of_after = sets_left after.store after.listing in
    let gone_sets = unmatched before.system.now after.system.now (family_of after.store after.sets) of_before in
    let new_sets = unmatched after.system.now gone_through.system.now (family_of gone_through.store gone_through.sets) of_after in
    let lacking : unmatched after.system.now gone_through.system.now (family_of gone_through.store gone_through.sets) of_after ≡ unmatched after.system.now before.system.now (family_of before.store before.sets) of_after =
    ap (λ (its : Bor System). unmatched after.system.now its.now (family_of gone_through.store gone_through.sets) of_after) system ∙ ap (λ its. unmatched after.system.now before.system.now its of_after) family in
    let its = subst (λ (s : System). AreCuts s o most before) (sym older_is) before_are in
    let others = subst (λ (s : System). AreCuts s n most after) (sym newer_is) after_are in
    subst (λ (s : System). TellsChanges s o newer n most last) older_is (subst (λ (s : System). TellsChanges before.system.now o s n most last) newer_is
    (tells-changes before.system.now after.system.now o n most of_before of_after (family_of before.store before.sets) (family_of after.store after.sets) first second third last gone new its.listing others.listing its.same others.same empty
    second_is (third_is ∙ ap (λ (of : List (List ℕ)). second ++ change_lines (codes "new ") after.system.now of) lacking) last_is
    (gone_is ∙ ap (λ k. k + length gone_sets) zero ∙ none-more (length gone_sets)) (new_is ∙ none-more (length new_sets) ∙ ap length lacking)))
