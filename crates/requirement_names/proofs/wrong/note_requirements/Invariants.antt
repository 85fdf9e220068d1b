use Rattle.std.proofs.Common.{◌≡◌, drop, flat_map}
use Rattle.requirement_names.specs.Wrong.{noting, wrong_words}
use Rattle.requirement_names.proofs.wrong.note_requirements.Given as goal

abbrev pub invariant-loop-requirement : goal.invariant-loop-requirement
invariant-loop-requirement l = noting l.first (flat_map (wrong_words l.model l.groups) (drop l.requirement-index l.requirements)) ≡ noting l.fn.first (flat_map (wrong_words l.model l.groups) l.requirements)
