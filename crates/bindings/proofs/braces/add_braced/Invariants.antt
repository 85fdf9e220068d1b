use Rattle.std.proofs.Common.{◌≡◌, ◌++◌, flat_map, take}
use Rattle.std.specs.Prelude.{option_to_list}
use Rattle.bindings.specs.Bindings.{braced_binding}
use Rattle.bindings.proofs.braces.add_braced.Given as goal

abbrev pub invariant-loop-piece : goal.invariant-loop-piece
invariant-loop-piece l = l.bindings ≡ l.fn.bindings ++ flat_map (λ piece. option_to_list (braced_binding l.file l.name piece)) (take l.piece-index l.piece-items)
