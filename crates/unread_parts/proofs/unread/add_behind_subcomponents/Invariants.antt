use Rattle.std.proofs.Common.{◌≡◌, ◌++◌, flat_map, take}
use Rattle.aadl_syntax.specs.declared.core_model.Subcomponent.{Subcomponent}
use Rattle.unread_parts.specs.Unread.{told_braces}
use Rattle.unread_parts.proofs.unread.add_behind_subcomponents.Given as goal

abbrev pub invariant-loop-subcomponent : goal.invariant-loop-subcomponent
invariant-loop-subcomponent l = l.parts ≡ l.fn.parts ++ flat_map (λ (subcomponent : Subcomponent). told_braces l.what l.number subcomponent.spot.file subcomponent.name subcomponent.tail) (take l.subcomponent-index l.subcomponents)
