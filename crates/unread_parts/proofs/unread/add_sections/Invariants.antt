use Rattle.std.proofs.Common.{◌≡◌, ◌++◌, flat_map, take}
use Rattle.unread_parts.specs.Unread.{told_section}
use Rattle.unread_parts.proofs.unread.add_sections.Given as goal

abbrev pub invariant-loop-section : goal.invariant-loop-section
invariant-loop-section l = l.parts ≡ l.fn.parts ++ flat_map (told_section l.what l.number l.file) (take l.section-index l.sections)
