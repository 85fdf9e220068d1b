use Rattle.std.proofs.Common.{◌^◌, ◌*◌, ◌+◌, ◌<◌, ◌≡◌, subst, arith}
use Rattle.std.proofs.Math.Nat.{one-le-pow}
use Rattle.decimals.specs.Decimals.{parts, AreNear, HasPlaces}
use Rattle.probabilities.proofs.Bounding.{lower-node, upper-node}
use Rattle.probabilities.proofs.Nearness.{family_near}
use Rattle.probabilities.proofs.steps.family_step.Goals as goal

pub returns-clause-bounds : goal.returns-clause-bounds
returns-clause-bounds c rates end event family low high h =
    let w = c.args.whole in
    let one = one-le-pow w 10 (omega arith) in
    let some : 0 < 10 ^ w = omega arith in
    record {
      lower = lower-node (10 ^ w) rates end family event low high _ _ _ some h.right h.inside h.top h.parts h.lo_bounds.lower h.hi_bounds.lower
          (rw (h.rated.low_not, h.rated.low) c.lower_step.ensures.down);
      upper = upper-node (10 ^ w) rates end family event low high _ _ _ some h.right h.inside h.top h.parts h.lo_bounds.upper h.hi_bounds.upper
          (rw (h.rated.high_not, h.rated.high) c.upper_step.ensures.up);
      most = c.upper_step.ensures.most;
    }

pub returns-clause-narrow : goal.returns-clause-narrow
returns-clause-narrow c places units count rate lo hi fit =
    let w = c.args.whole in
    let one = one-le-pow w 10 (omega arith) in
    let some : 0 < 10 ^ w = omega arith in
    let r = c.args.rate in
    let down = c.lower_step.ensures.near places (places * count) rate.low_not_places rate.low_places lo.lower_places hi.lower_places fit rate.fits.least lo.within hi.within in
    let up = c.upper_step.ensures.near places (places * count) rate.high_not_places rate.high_places lo.upper_places hi.upper_places fit in
    let more : places + places * count ≡ places * (count + 1) = omega arith in
    let all : 4 + units + (4 + units) * count ≡ (4 + units) * (count + 1) = omega arith in
    record {
      within = down.within;
      lower_places = subst (λ k. HasPlaces w k c.lower_step.result) more down.few;
      upper_places = subst (λ k. HasPlaces w k c.upper_step.result) more up.few;
      near = subst (λ k. AreNear k (parts c.upper_step.result) (parts c.lower_step.result)) all
          (family_near (10 ^ w) (parts r.high_not) (parts r.high) (parts r.low_not) (parts r.low) (parts c.args.lo.upper) (parts c.args.hi.upper) (parts c.args.lo.lower) (parts c.args.hi.lower)
          (parts c.upper_step.result) (parts c.lower_step.result) units ((4 + units) * count) some up.near down.near rate.absent rate.present lo.near hi.near);
    }

pub returns-clause-sharp : goal.returns-clause-sharp
returns-clause-sharp c p q rate first second third fourth fit low high =
    (c.lower_step.ensures.near p q rate.low_not_places rate.low_places first second fit rate.least low high, c.upper_step.ensures.near p q rate.high_not_places rate.high_places third fourth fit)
