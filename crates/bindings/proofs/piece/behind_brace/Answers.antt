use Rattle.std.proofs.Common.{◌≡◌, List, [], ◌∷◌, None, refl, slice_get, sym, ◌∙◌}
use Rattle.aadl_syntax.specs.declared.token.Token.{Token}
use Rattle.bindings.specs.Pieces.{behind_brace}
use Rattle.bindings.proofs.piece.behind_brace.Goals as goal

-- nothing stands behind nothing
nothing-left : (left : List Token) → None ≡ slice_get left 0 → left ≡ behind_brace left
nothing-left [] none = refl
nothing-left (token ∷ tokens) none = cc

pub returns : goal.returns
returns c = nothing-left c.loop-token.left c.in_default.ensures.value ∙ sym c.loop-token.invariant
