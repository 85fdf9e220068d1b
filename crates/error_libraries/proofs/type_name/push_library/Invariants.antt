use Rattle.std.proofs.Common.{◌≡◌, ◌++◌, codes, flat_map, take}
use Rattle.error_libraries.proofs.type_name.push_library.Given as goal

abbrev pub invariant-loop-identifier : goal.invariant-loop-identifier
invariant-loop-identifier l = l.text.items ≡ l.fn.text.items ++ flat_map (λ identifier. identifier ++ codes "::") (take l.identifier-index l.library)
