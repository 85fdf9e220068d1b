use Rattle.std.proofs.Common.{◌≡◌, take}
use Rattle.plain_values.specs.Numbered.{numbered_from}
use Rattle.unread_parts.specs.Unread.{told_of}
use Rattle.unread_parts.proofs.unread.unread_parts.Given as goal

abbrev pub invariant-loop-number : goal.invariant-loop-number
invariant-loop-number l = l.parts ≡ numbered_from (told_of l.what l.instance) 0 (take l.number l.instance.components)
