use Rattle.std.proofs.Common.{◌≡◌, [], drop, take}
use Rattle.std.specs.HashMap.{get}
use Rattle.requirement_names.specs.inner.Tables.{Knows, has_text, same_text}
use Rattle.requirement_names.specs.Wrong.{again_behind, noting}
use Rattle.requirement_names.proofs.names.NameTable.of.Given as goal

abbrev pub invariant-loop-number : goal.invariant-loop-number
invariant-loop-number g l = record {
  table : Knows has_text (take l.number l.names) (get same_text l.places);
  first : noting l.first (again_behind g.T.Called.word_of (take l.number l.names) (drop l.number l.items)) ≡ noting l.fn.first (again_behind g.T.Called.word_of [] l.items);
}
