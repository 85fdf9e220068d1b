use Rattle.std.proofs.Common.{◌≡◌, drop, flat_map}
use Rattle.noted_refusals.specs.inner.Noted.{noting}
use Rattle.error_models.specs.Refused.{set_refusals}
use Rattle.error_models.proofs.sets.note_sets.Given as goal

abbrev pub invariant-loop-number : goal.invariant-loop-number
invariant-loop-number l = record {
  kept : l.reading.types ≡ l.fn.reading.types;
  first : noting l.reading.refusals (flat_map (set_refusals l.fn.reading.types) (drop l.number l.instance.kinds)) ≡ noting l.fn.reading.refusals (flat_map (set_refusals l.fn.reading.types) l.instance.kinds);
}
