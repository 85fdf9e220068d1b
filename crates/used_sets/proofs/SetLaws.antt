-- The sets of conditions, part by part.
use Rattle.std.proofs.Common.{ℕ, ◌≡◌, List, flat_map, sym, ap, ◌∙◌}
use Rattle.std.proofs.lemmas.List.Folds.{flat_map-map}
use Rattle.aadl_syntax.specs.declared.error_model.Condition.{Condition, fold-roll-Condition}
use Rattle.aadl_syntax.specs.declared.error_model.Condition.TheVariants.{All, Any, AtLeast, AtMost, rolls-All, rolls-Any, rolls-AtLeast, rolls-AtMost}
use Rattle.aadl_syntax.specs.declared.error_model.Condition.TheOpen as open_one
use Rattle.aadl_syntax.specs.declared.error_model.TypeSet.{TypeSet}
use Rattle.plain_values.specs.declared.spot.Spot.{Spot}
use Rattle.used_sets.specs.Sets.{condition_sets, sets_step}

pub sets-All : (parts : List Condition) → condition_sets (All parts) ≡ flat_map condition_sets parts
sets-All parts = ap condition_sets (sym (rolls-All parts)) ∙ fold-roll-Condition (List TypeSet) sets_step (open_one.All parts) ∙ flat_map-map (λ part. part) condition_sets parts

pub sets-Any : (parts : List Condition) → condition_sets (Any parts) ≡ flat_map condition_sets parts
sets-Any parts = ap condition_sets (sym (rolls-Any parts)) ∙ fold-roll-Condition (List TypeSet) sets_step (open_one.Any parts) ∙ flat_map-map (λ part. part) condition_sets parts

pub sets-AtLeast : (least : ℕ) (parts : List Condition) → condition_sets (AtLeast least parts) ≡ flat_map condition_sets parts
sets-AtLeast least parts = ap condition_sets (sym (rolls-AtLeast least parts)) ∙ fold-roll-Condition (List TypeSet) sets_step (open_one.AtLeast least parts) ∙ flat_map-map (λ part. part) condition_sets parts

pub sets-AtMost : (most : ℕ) (parts : List Condition) (spot : Spot) → condition_sets (AtMost most parts spot) ≡ flat_map condition_sets parts
sets-AtMost most parts spot = ap condition_sets (sym (rolls-AtMost most parts spot)) ∙ fold-roll-Condition (List TypeSet) sets_step (open_one.AtMost most parts spot) ∙ flat_map-map (λ part. part) condition_sets parts
