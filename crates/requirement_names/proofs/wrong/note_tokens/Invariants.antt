use Rattle.std.proofs.Common.{◌≡◌, drop, flat_map}
use Rattle.requirement_names.specs.Wrong.{noting, wrong_token}
use Rattle.requirement_names.proofs.wrong.note_tokens.Given as goal

abbrev pub invariant-loop-token : goal.invariant-loop-token
invariant-loop-token l = noting l.first (flat_map (wrong_token l.model) (drop l.token-index l.tokens)) ≡ noting l.fn.first (flat_map (wrong_token l.model) l.tokens)
