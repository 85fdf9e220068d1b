use Rattle.std.proofs.Common.{◌≡◌, drop, flat_map}
use Rattle.noted_refusals.specs.inner.Noted.{noting}
use Rattle.propagation_links.specs.Refused.{path_refusals}
use Rattle.propagation_links.proofs.refused.note_paths.Given as goal

abbrev pub invariant-loop-path : goal.invariant-loop-path
invariant-loop-path l =
    noting l.refusals (flat_map (path_refusals l.pointed l.number) (drop l.path-index l.paths)) ≡ noting l.fn.refusals (flat_map (path_refusals l.pointed l.number) l.paths)
