use Rattle.std.proofs.Common.{◌≡◌, drop}
use Rattle.std.specs.HashMap.{get}
use Rattle.plain_values.specs.Order.{nearer}
use Rattle.error_libraries.specs.inner.Known.{AreFound, same_search}
use Rattle.error_libraries.specs.Search.{search_along}
use Rattle.error_libraries.proofs.declarations.search_along.Given as goal

abbrev pub invariant-loop-number : goal.invariant-loop-number
invariant-loop-number l = ((search_along l.libraries l.name (drop l.number-index l.numbers)).found ≡ (search_along l.libraries l.name l.numbers).found)
    × (nearer l.first (search_along l.libraries l.name (drop l.number-index l.numbers)).first ≡ nearer l.fn.first (search_along l.libraries l.name l.numbers).first)
    × AreFound l.libraries (get same_search l.known)
