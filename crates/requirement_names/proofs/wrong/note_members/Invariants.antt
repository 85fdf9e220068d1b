use Rattle.std.proofs.Common.{◌≡◌, drop, flat_map}
use Rattle.requirement_names.specs.Wrong.{noting, wrong_member}
use Rattle.requirement_names.proofs.wrong.note_members.Given as goal

abbrev pub invariant-loop-member : goal.invariant-loop-member
invariant-loop-member l = noting l.first (flat_map (wrong_member l.model l.kind) (drop l.member-index l.members)) ≡ noting l.fn.first (flat_map (wrong_member l.model l.kind) l.members)
