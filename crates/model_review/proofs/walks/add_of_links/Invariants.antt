use Rattle.std.proofs.Common.{◌≡◌, ◌++◌, flat_map, take}
use Rattle.model_review.proofs.walks.add_of_links.Given as goal

abbrev pub invariant-loop-link : goal.invariant-loop-link
invariant-loop-link g l = l.found ≡ l.fn.found ++ flat_map (g.F.LinkFinding.finding l.told l.view) (take l.link-index l.link-items)
