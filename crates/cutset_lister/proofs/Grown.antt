-- A listing in a store that grew.
use Rattle.std.proofs.Common.{◌≡◌, ℕ, ◌+◌, List, [], ◌∷◌, ◌++◌, drop, zero, suc, refl, ap, ◌∙◌, arith}
use Rattle.std.specs.List.{AllByRecursion, flat_map}
use Rattle.zdd_store.specs.inner.Family.{Family, branch}
use Rattle.zdd_store.specs.inner.Store.{Families, IsIn, Keeps, family_of}
use Rattle.zdd_store.specs.declared.id.Id.{Id}
use Rattle.cutset_lister.specs.declared.path.Frame.{Frame}
use Rattle.cutset_lister.specs.inner.Trails.{Trail, IsPlace, left_below, greatest_size}
use Rattle.cutset_lister.specs.inner.Walks.{Walk, AreSizes, IsStarted, StaysStarted}
use Rattle.cutset_lister.proofs.BySize.{sizes-kept}

module _ (before after : Families) (kept : Keeps before after) where
  stays_in : (id : Id) → IsIn before id → IsIn after id
  stays_in id here = let more = kept.more in omega arith

  left_kept : (frames : List Frame) (family : Family) → AllByRecursion (λ frame. IsIn before frame.low) frames → left_below after frames family ≡ left_below before frames family
  unfolding left_below
  left_kept [] family all = refl
  left_kept (f ∷ fs) family all =
      ap (λ lo. branch f.number lo (left_below after fs family)) (kept.same f.low.position all.0) ∙ ap (branch f.number (family_of before f.low)) (left_kept fs family all.1)

  frames_kept : (frames : List Frame) → AllByRecursion (λ frame. IsIn before frame.low) frames → AllByRecursion (λ frame. IsIn after frame.low) frames
  frames_kept [] all = tt
  frames_kept (f ∷ fs) all = (stays_in f.low all.0, frames_kept fs all.1)

  sets_kept : (family : Family) (size : ℕ) (ids : List Id) → AreSizes before family size ids → flat_map (family_of after) ids ≡ flat_map (family_of before) ids
  sets_kept family size [] sizes = refl
  sets_kept family size (x ∷ xs) sizes = ap (λ f. f ++ flat_map (family_of after) xs) (kept.same x.position sizes.0) ∙ ap (λ f. family_of before x ++ f) (sets_kept family (size + 1) xs sizes.2)

  rest_kept : (family : Family) (size place : ℕ) (ids : List Id) → AreSizes before family size ids → flat_map (family_of after) (drop place ids) ≡ flat_map (family_of before) (drop place ids)
  rest_kept family size zero ids sizes = sets_kept family size ids sizes
  rest_kept family size (suc place) [] sizes = refl
  rest_kept family size (suc place) (x ∷ xs) sizes = rest_kept family (size + 1) place xs sizes.2

  place_kept : (trail : Trail) (rest : Id) → IsPlace before trail rest → left_below after trail.frames (family_of after rest) ≡ left_below before trail.frames (family_of before rest)
  place_kept trail rest place = ap (left_below after trail.frames) (kept.same rest.position place.rest_in) ∙ left_kept trail.frames (family_of before rest) place.frames_in

  pub stays : (walk : Walk) → IsStarted before walk → StaysStarted before after walk
  stays walk started =
      let place = started.place in
      let same = place_kept walk.path walk.rest place in
      let size : greatest_size (left_below after walk.path.frames (family_of after walk.rest)) ≡ greatest_size (left_below before walk.path.frames (family_of before walk.rest)) = ap greatest_size same in
      let short = place.short in
      record {
        started = record {
          family = started.family;
          events = started.events;
          parts = sizes-kept before after started.family 0 walk.parts kept started.parts;
          part_count = started.part_count;
          events_are = started.events_are;
          within = started.within;
          place = record { frames_in = frames_kept walk.path.frames place.frames_in; rest_in = stays_in walk.rest place.rest_in; short = omega arith };
        };
        all = sets_kept started.family 0 walk.parts started.parts;
        left =
            ap (λ f. f ++ flat_map (family_of after) (drop walk.begun walk.parts)) same
            ∙ ap (λ f. left_below before walk.path.frames (family_of before walk.rest) ++ f) (rest_kept started.family 0 walk.begun walk.parts started.parts);
      }
