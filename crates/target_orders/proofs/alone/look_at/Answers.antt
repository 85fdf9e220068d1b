use Rattle.std.proofs.Common.{⊎_elim, arith}
use Rattle.target_orders.proofs.alone.look_at.Goals as goal

pub spread-requires-clause-walk : goal.spread-requires-clause-walk
spread-requires-clause-walk c = record {
  some = omega arith;
  there = omega (arith, c.requires.event);
  few = λ n. omega (arith, c.requires.rest.few n);
  held = λ n e. absurd (omega (arith, e, c.requires.rest.few n));
  only = λ k h. ⊎_elim (λ o. absurd (c.requires.rest.none k o)) (λ e. omega (arith, e)) (c.put.ensures k h);
}
