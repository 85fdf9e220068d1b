use Rattle.std.proofs.Common.{◌≡◌, ◌/◌, ◌*◌, ◌^◌, ap, inl, inr, arith}
use Rattle.std.specs.Prelude.{◌⊎◌, ◌<◌, ◌≤◌}
use Rattle.decimals.specs.Decimals.{parts, AreNear, HasPlaces}
use Rattle.decimals.proofs.EqualParts.{part_down, part_down_near, part_none, lifted_places, room_places}
use Rattle.decimals.proofs.decimal.Decimal.over_down.Goals as goal

pub returns-clause-down : goal.returns-clause-down
returns-clause-down c =
    let x = c.lifted-lifted.result in
    let h = part_down x.mantissa c.args.count (10 ^ x.exponent) c.requires in
    omega (arith, c.lifted-lifted.ensures.same)

pub returns-clause-near : goal.returns-clause-near
returns-clause-near c whole places have fit few =
    let x = c.lifted-lifted.result in
    let room = room_places whole places c.args.self.mantissa c.args.self.exponent fit have in
    rw (← c.lifted-lifted.ensures.same)
    (part_down_near c.args.self.mantissa x.mantissa c.args.count (10 ^ x.exponent) c.requires few c.lifted-lifted.ensures.none (at room))
  where
    at : (c.args.self.mantissa ≡ 0) ⊎ (18 ≤ c.args.self.exponent) → (c.args.self.mantissa ≡ 0) ⊎ (100000000000000000 < c.lifted-lifted.result.mantissa)
    at (inl none) = inl none
    at (inr some) = c.lifted-lifted.ensures.full some

pub returns-clause-places : goal.returns-clause-places
returns-clause-places c whole places have =
    let x = c.lifted-lifted.result in
    lifted_places whole places c.args.self.mantissa c.args.self.exponent x.mantissa x.exponent (x.mantissa / c.args.count) c.lifted-lifted.ensures.room
    (λ none. part_none x.mantissa c.args.count c.requires (c.lifted-lifted.ensures.none none)) have
