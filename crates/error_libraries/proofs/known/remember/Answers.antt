use Rattle.std.specs.HashMap.{get}
use Rattle.error_libraries.specs.inner.Known.{IsFound, SearchKey, same_search}
use Rattle.error_libraries.proofs.Remembering.{found-alike, remembered-more}
use Rattle.error_libraries.proofs.known.remember.Goals as goal

pub returns : goal.returns
returns c =
    let libraries = c.args.libraries.now in
    let key : SearchKey = (c.args.number, c.args.name) in
    remembered-more same_search (IsFound libraries) (get same_search c.args.known.now) (get same_search c.insert.new.self) key c.args.found c.in_ok-insert.ensures.updates.0
    (λ other same. found-alike libraries key other c.args.found c.requires.found same) c.requires.known
