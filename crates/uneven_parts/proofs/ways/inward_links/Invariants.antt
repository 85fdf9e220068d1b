use Rattle.std.proofs.Common.{◌≡◌, filter, take}
use Rattle.std.specs.Prelude.{not}
use Rattle.propagation_links.specs.declared.link.Link.{Link}
use Rattle.uneven_parts.proofs.ways.inward_links.Given as goal

abbrev pub invariant-loop-link : goal.invariant-loop-link
invariant-loop-link l = l.inward ≡ filter (λ (link : Link). not link.to.outward) (take l.link-index l.links)
