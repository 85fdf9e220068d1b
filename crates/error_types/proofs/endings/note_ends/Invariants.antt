use Rattle.std.proofs.Common.{◌≡◌, reverse, vec_len}
use Rattle.std.specs.HashMap.{get}
use Rattle.package_index.specs.inner.Tables.{same_pair}
use Rattle.error_types.specs.inner.Endings.{AreEnds, EndsIn, IsWay, origin}
use Rattle.error_types.proofs.endings.note_ends.Given as goal

abbrev pub invariant-loop-id : goal.invariant-loop-id
invariant-loop-id l = record {
  way : IsWay l.declarations (reverse l.way.items) l.last;
  end : EndsIn l.declarations l.last l.end;
  origin : origin (reverse l.way.items) l.last ≡ origin (reverse l.initial.way.items) l.initial.last;
  ends : AreEnds l.declarations (get same_pair l.ends);
}

abbrev pub decreases-loop-id : goal.decreases-loop-id
decreases-loop-id l = vec_len l.way
