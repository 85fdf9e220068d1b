use Rattle.std.proofs.Common.{◌≡◌, drop, flat_map}
use Rattle.noted_refusals.specs.inner.Noted.{noting}
use Rattle.component_extension.proofs.limits.note_all.Given as goal

abbrev pub invariant-loop-member : goal.invariant-loop-member
invariant-loop-member g l = noting l.refusals (flat_map g.M.Limited.limits (drop l.member-index l.members)) ≡ noting l.fn.refusals (flat_map g.M.Limited.limits l.members)
