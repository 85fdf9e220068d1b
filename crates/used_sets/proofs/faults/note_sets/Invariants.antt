use Rattle.std.proofs.Common.{◌≡◌, drop, flat_map, option_copied}
use Rattle.noted_refusals.specs.inner.Noted.{noting}
use Rattle.used_sets.specs.Used.{set_fault}
use Rattle.used_sets.proofs.faults.note_sets.Given as goal

abbrev pub invariant-loop-set : goal.invariant-loop-set
invariant-loop-set l = record {
  kept : l.reading.types ≡ l.fn.reading.types;
  first : noting l.reading.refusals (flat_map (λ set. set_fault l.fn.reading.types (option_copied l.scope) set.now) (drop l.set-index l.set-items)) ≡ noting l.fn.reading.refusals (flat_map (λ set. set_fault l.fn.reading.types (option_copied l.scope) set.now) l.set-items);
}
