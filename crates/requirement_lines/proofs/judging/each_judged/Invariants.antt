use Rattle.std.proofs.Common.{◌-◌, length, take}
use Rattle.std.specs.List.{AllZip}
use Rattle.requirement_lines.specs.inner.Found.{IsFoundFor}
use Rattle.requirement_lines.specs.inner.Judged.{IsJudgedSo}
use Rattle.requirement_lines.proofs.judging.each_judged.Given as goal

abbrev pub invariant-loop-named : goal.invariant-loop-named
invariant-loop-named l = record {
  found : IsFoundFor l.system l.found;
  judged : AllZip (IsJudgedSo l.system l.known.rates.now) (take (length l.judgements) l.all) l.judgements;
}

abbrev pub decreases-loop-named : goal.decreases-loop-named
decreases-loop-named l = length l.all - length l.judgements
