-- The effects of a model rise.
use Rattle.std.proofs.Common.{ℕ, ◌+◌, ◌≡◌, Bool, true, false, cond, List, [], ◌∷◌, ◌++◌, length, arith}
use Rattle.plain_values.specs.Numbered.{numbered_from}
use Rattle.plain_values.specs.Rising.{RisesWithin}
use Rattle.plain_values.proofs.Rising.{rises-as}
use Rattle.model_facts.specs.Assembly.{Assembly}
use Rattle.model_facts.specs.Effects.{effect_number, effects_among, is_effect}
use Rattle.model_facts.specs.declared.keys.FactKey.{FactKey}

rises-lower : (low high : ℕ) (ns : List ℕ) → RisesWithin (low + 1) high ns → RisesWithin low high ns
rises-lower low high [] r = tt
rises-lower low high (n ∷ ns) r = (omega (arith, r.0), r.1, r.2)

module _ (assembly : Assembly) where
  rises-from : (low high : ℕ) (facts : List FactKey) → low + length facts ≡ high → RisesWithin low high (numbered_from (effect_number assembly) low facts)
  rises-from low high [] is = tt
  rises-from low high (fact ∷ facts) is = first (is_effect assembly fact) (rises-from (low + 1) high facts (omega (arith, is)))
    where
      first : (b : Bool) → RisesWithin (low + 1) high (numbered_from (effect_number assembly) (low + 1) facts) → RisesWithin low high (cond b (low ∷ []) [] ++ numbered_from (effect_number assembly) (low + 1) facts)
      first true rest = (omega arith, omega (arith, is), rest)
      first false rest = rises-lower low high (numbered_from (effect_number assembly) (low + 1) facts) rest

  pub effects-rise : (facts : List FactKey) (effects : List ℕ) → effects ≡ effects_among assembly facts → RisesWithin 0 (length facts) effects
  effects-rise facts effects is = rises-as 0 (length facts) (effects_among assembly facts) effects is (rises-from 0 (length facts) facts (omega arith))
