use Rattle.std.proofs.Common.{take}
use Rattle.std.specs.Prelude.{option_copied}
use Rattle.std.specs.HashMap.{get}
use Rattle.package_index.specs.inner.Tables.{same_text}
use Rattle.rate_keys.specs.inner.Found.{SaysOfEach}
use Rattle.rate_keys.proofs.lone.add_targets.Given as goal

abbrev pub invariant-loop-target : goal.invariant-loop-target
invariant-loop-target l = SaysOfEach (get same_text l.fn.found) (get same_text l.found) (take l.target-index l.targets) (option_copied l.word)
