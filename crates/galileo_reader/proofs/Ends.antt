-- At the end of a text no token stands.
use Rattle.std.proofs.Common.{ℕ, Bool, true, false, zero, suc, ◌+◌, ◌≡◌, ◌≤◌, List, [], ◌∷◌, length, drop, Option, Some, None, ap, ◌∙◌, refl, arith}
use Rattle.std.specs.Option.{option_map}
use Rattle.galileo_reader.specs.declared.token.Front.{Front}
use Rattle.galileo_reader.specs.declared.token.Mark.{Mark}
use Rattle.galileo_reader.specs.Marks.{front_of, gap_len, mark_from}
use Rattle.galileo_reader.specs.Tokens.{counts_len, name_len, rate_at, rate_len, token_at, word_at}
use Rattle.galileo_reader.specs.WideTokens.{wide_token_at, word_front}

none-token : (wide : Bool) → front_of wide [] ≡ None
unfolding token_at name_len counts_len word_at rate_at rate_len wide_token_at word_front
none-token false = refl
none-token true = refl

pub dropped : (text : List ℕ) (k : ℕ) → length text ≤ k → drop k text ≡ []
dropped [] zero h = refl
dropped [] (suc k) h = refl
dropped (x ∷ xs) zero h = absurd (omega arith)
dropped (x ∷ xs) (suc k) h = dropped xs k (omega arith)

no-mark : (front : Option Front) (f : Front → Mark) (mark : Mark) → front ≡ None → option_map f front ≡ Some mark → ⊥
no-mark None f mark e h = cc
no-mark (Some x) f mark e h = cc

pub none-at_end : (wide : Bool) (text : List ℕ) (at : ℕ) (mark : Mark) → at + gap_len wide (drop at text) ≡ length text → mark_from wide text at ≡ Some mark → ⊥
unfolding mark_from
none-at_end wide text at mark end e =
    no-mark (front_of wide (drop (at + gap_len wide (drop at text)) text)) _ mark
    (ap (front_of wide) (dropped text (at + gap_len wide (drop at text)) (omega (arith, end))) ∙ none-token wide) e
