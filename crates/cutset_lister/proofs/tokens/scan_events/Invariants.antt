use Rattle.cutset_lister.specs.inner.Scanning.{Scanned}
use Rattle.cutset_lister.proofs.tokens.scan_events.Given as goal

abbrev pub invariant-loop-number : goal.invariant-loop-number
invariant-loop-number l = Scanned l.system l.text l.number l.place l.set.items
