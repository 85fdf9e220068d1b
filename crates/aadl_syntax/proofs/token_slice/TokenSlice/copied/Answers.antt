use Rattle.std.proofs.Common.{List, ◌∷◌, ◌++◌, [], ◌∙◌, ap, sym, arith}
use Rattle.aadl_syntax.specs.declared.token.Token.{Token}
use Rattle.aadl_syntax.specs.inner.Token.{shown}
use Rattle.aadl_syntax.proofs.Marked.{take-more, none-there}
use Rattle.aadl_syntax.proofs.token_slice.TokenSlice.copied.Goals as goal
use Rattle.aadl_syntax.proofs.token_slice.TokenSlice.copied.Goals.{in-Some+in_ok-add_copy, in_default}

pub loop-number-preserved : goal.loop-number-preserved
loop-number-preserved c = elim c.match-get.branch [
  | in-Some+in_ok-add_copy w ↦
      let n = c.loop-number.number in
      let token : Token = shown w.in-Some.token in
      w.list-is ∙ w.in_ok-add_copy.ensures ∙ ap (λ (ts : List Token). ts ++ token ∷ []) c.loop-number.invariant
      ∙ sym (take-more c.args.self.now n token (sym w.in-Some.ensures.value))
  | in_default w ↦ absurd (none-there c.args.self.now c.loop-number.number (let h = c.loop-number-test.true in omega arith) (sym w.in_default.ensures.value))
]
