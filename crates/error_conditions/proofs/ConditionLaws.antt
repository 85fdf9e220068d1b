-- Conditions: the equations of their refusals, and steps of loops over their parts.
use Rattle.std.proofs.Common.{ℕ, ◌+◌, ◌≡◌, ◌<◌, List, [], ◌∷◌, ◌++◌, length, map, take, get_or, flat_map, sym, ap, ◌∙◌}
use Rattle.std.proofs.lemmas.List.{map-append, take_more}
use Rattle.std.proofs.lemmas.List.Folds.{flat_map-map}
use Rattle.aadl_syntax.specs.declared.error_model.Atom.{Atom}
use Rattle.aadl_syntax.specs.declared.error_model.Condition.{Condition, fold-roll-Condition}
use Rattle.aadl_syntax.specs.declared.error_model.Condition.TheVariants.{All, Any, AtLeast, AtMost, rolls-All, rolls-Any, rolls-AtLeast, rolls-AtMost}
use Rattle.aadl_syntax.specs.declared.error_model.Condition.TheOpen as open_one
use Rattle.plain_values.specs.declared.spot.Spot.{Spot}
use Rattle.plain_values.specs.declared.refusal.Code.TheVariants.{OrLess}
use Rattle.plain_values.specs.declared.refusal.Refusal.{Refusal}
use Rattle.plain_values.specs.Refusal.{refused_so}
use Rattle.profiles.specs.declared.profile.Profile.{Profile}
use Rattle.profiles.specs.Profiles.{is_first}
use Rattle.error_conditions.specs.Conditions.{condition_refusals, refusals_step}

module _ (profile : Profile) (faults : Atom → List Refusal) where
  pub faults-All : (parts : List Condition) → condition_refusals profile faults (All parts) ≡ flat_map (condition_refusals profile faults) parts
  faults-All parts = ap (condition_refusals profile faults) (sym (rolls-All parts)) ∙ fold-roll-Condition (List Refusal) (refusals_step profile faults) (open_one.All parts) ∙ flat_map-map (λ part. part) (condition_refusals profile faults) parts

  pub faults-Any : (parts : List Condition) → condition_refusals profile faults (Any parts) ≡ flat_map (condition_refusals profile faults) parts
  faults-Any parts = ap (condition_refusals profile faults) (sym (rolls-Any parts)) ∙ fold-roll-Condition (List Refusal) (refusals_step profile faults) (open_one.Any parts) ∙ flat_map-map (λ part. part) (condition_refusals profile faults) parts

  pub faults-AtLeast : (least : ℕ) (parts : List Condition) → condition_refusals profile faults (AtLeast least parts) ≡ flat_map (condition_refusals profile faults) parts
  faults-AtLeast least parts = ap (condition_refusals profile faults) (sym (rolls-AtLeast least parts)) ∙ fold-roll-Condition (List Refusal) (refusals_step profile faults) (open_one.AtLeast least parts) ∙ flat_map-map (λ part. part) (condition_refusals profile faults) parts

  pub faults-AtMost : (most : ℕ) (parts : List Condition) (spot : Spot) → condition_refusals profile faults (AtMost most parts spot) ≡ refused_so (is_first profile) OrLess spot ++ flat_map (condition_refusals profile faults) parts
  faults-AtMost most parts spot =
      ap (condition_refusals profile faults) (sym (rolls-AtMost most parts spot)) ∙ fold-roll-Condition (List Refusal) (refusals_step profile faults) (open_one.AtMost most parts spot)
      ∙ ap (λ rest. refused_so (is_first profile) OrLess spot ++ rest) (flat_map-map (λ part. part) (condition_refusals profile faults) parts)

-- what the items give, with one item more
pub map-more : {A B : Type 0} (f : A → B) (xs : List A) (i : ℕ) (x : A) (y : B) (before after : List B) → i < length xs → x ≡ get_or xs i x
    → before ≡ map f (take i xs) → after ≡ before ++ y ∷ [] → y ≡ f x → after ≡ map f (take (i + 1) xs)
map-more f xs i x y before after within is had one made =
    one ∙ ap (λ front. front ++ y ∷ []) had ∙ ap (λ last. map f (take i xs) ++ last ∷ []) (made ∙ ap f is) ∙ sym (ap (map f) (take_more xs i x within) ∙ map-append f (take i xs) (get_or xs i x ∷ []))

-- what the items give by way of another, with one item more
pub map-map-more : {A B C : Type 0} (h : B → C) (f : A → B) (xs : List A) (i : ℕ) (x : A) (y : C) (before after : List C) → i < length xs → x ≡ get_or xs i x
    → before ≡ map h (map f (take i xs)) → after ≡ before ++ y ∷ [] → y ≡ h (f x) → after ≡ map h (map f (take (i + 1) xs))
map-map-more h f xs i x y before after within is had one made =
    one ∙ ap (λ front. front ++ y ∷ []) had ∙ ap (λ last. map h (map f (take i xs)) ++ last ∷ []) (made ∙ ap (λ z. h (f z)) is)
    ∙ sym (ap (λ ys. map h (map f ys)) (take_more xs i x within) ∙ ap (map h) (map-append f (take i xs) (get_or xs i x ∷ [])) ∙ map-append h (map f (take i xs)) (f (get_or xs i x) ∷ []))
