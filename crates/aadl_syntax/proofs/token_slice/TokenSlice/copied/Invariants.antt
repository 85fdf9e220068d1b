use Rattle.std.proofs.Common.{◌≡◌, take}
use Rattle.aadl_syntax.proofs.token_slice.TokenSlice.copied.Given as goal

abbrev pub invariant-loop-number : goal.invariant-loop-number
invariant-loop-number l = l.list ≡ take l.number l.self
