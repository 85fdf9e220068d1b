use Rattle.std.proofs.Common.{◌≡◌, ◌*◌, ◌^◌, inl, inr, arith}
use Rattle.std.specs.Prelude.{◌⊎◌, ◌<◌, ◌≤◌}
use Rattle.decimals.specs.Decimals.{parts, AreNear, HasPlaces}
use Rattle.decimals.proofs.EqualParts.{part_up, part_up_near, ceiling_none, lifted_places, room_places}
use Rattle.decimals.proofs.decimal.Decimal.over_up.Goals as goal

pub returns-clause-up : goal.returns-clause-up
returns-clause-up c =
    let x = c.lifted-lifted.result in
    let h = part_up x.mantissa c.args.count c.div_ceil.result (10 ^ x.exponent) c.requires c.div_ceil.ensures in
    omega (arith, c.lifted-lifted.ensures.same)

pub returns-clause-near : goal.returns-clause-near
returns-clause-near c whole places have fit =
    let x = c.lifted-lifted.result in
    let room = room_places whole places c.args.self.mantissa c.args.self.exponent fit have in
    rw (← c.lifted-lifted.ensures.same)
    (part_up_near c.args.self.mantissa x.mantissa c.args.count c.div_ceil.result (10 ^ x.exponent) c.requires c.div_ceil.ensures c.lifted-lifted.ensures.none (at room))
  where
    at : (c.args.self.mantissa ≡ 0) ⊎ (18 ≤ c.args.self.exponent) → (c.args.self.mantissa ≡ 0) ⊎ (100000000000000000 < c.lifted-lifted.result.mantissa)
    at (inl none) = inl none
    at (inr some) = c.lifted-lifted.ensures.full some

pub returns-clause-places : goal.returns-clause-places
returns-clause-places c whole places have =
    let x = c.lifted-lifted.result in
    lifted_places whole places c.args.self.mantissa c.args.self.exponent x.mantissa x.exponent c.div_ceil.result c.lifted-lifted.ensures.room
    (λ none. ceiling_none x.mantissa c.args.count c.div_ceil.result c.requires c.div_ceil.ensures (c.lifted-lifted.ensures.none none)) have
