use Rattle.std.proofs.Common.{length, ◌-◌, ◌≡◌, ◌≤◌, ◌+◌, drop}
use Rattle.aadl_lexer.specs.inner.Scan.{word_rest_len}
use Rattle.aadl_lexer.proofs.form.word_rest_len.Given as goal

abbrev pub invariant-loop-len : goal.invariant-loop-len
invariant-loop-len l = record { within : l.len ≤ length l.text; counted : l.len + word_rest_len (drop l.len l.text) ≡ word_rest_len l.text }

abbrev pub decreases-loop-len : goal.decreases-loop-len
decreases-loop-len l = length l.text - l.len
