use Rattle.std.proofs.Common.{◌≡◌, drop, flat_map}
use Rattle.requirement_names.specs.Wrong.{noting, wrong_members}
use Rattle.requirement_names.proofs.wrong.note_groups.Given as goal

abbrev pub invariant-loop-group : goal.invariant-loop-group
invariant-loop-group l = noting l.first (flat_map (wrong_members l.model) (drop l.group-index l.groups)) ≡ noting l.fn.first (flat_map (wrong_members l.model) l.groups)
