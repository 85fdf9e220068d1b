use Rattle.std.proofs.Common.{◌≡◌, ◌++◌, false, flat_map, take}
use Rattle.std.specs.Prelude.{option_to_list}
use Rattle.bindings.specs.Bindings.{piece_binding}
use Rattle.bindings.proofs.binding.add_bindings.Given as goal

abbrev pub invariant-loop-piece : goal.invariant-loop-piece
invariant-loop-piece l = l.bindings ≡ l.fn.bindings ++ flat_map (λ piece. option_to_list (piece_binding l.file false piece)) (take l.piece-index l.piece-items)
