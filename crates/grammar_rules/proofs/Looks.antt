-- What tests of the next tokens have seen.
use Rattle.std.proofs.Common.{◌≡◌, ℕ, suc, ◌+◌, ◌<◌, ◌≤◌, Bool, true, false, ◌&&◌, List, [], ◌∷◌, length, Option, Some, None, refl, sym, ◌∙◌, ap, arith}
use Rattle.std.specs.Prelude.{slice_get, if◌then◌else◌}
use Rattle.std.proofs.lemmas.Option.{slice_get_within}
use Rattle.aadl_syntax.specs.declared.token.Token.{Token}
use Rattle.grammar_rules.specs.Rules.{Test, passes_test, begin_at}
use Rattle.grammar_rules.specs.Running.{seen, looked_at}

-- The lists have the same at each place of the first that is no longer unseen.
pub record SameSeen (left : ℕ) (tokens others : List Token) : Type 0 where
  pub same : (k : ℕ) → k + left ≤ length tokens → slice_get tokens k ≡ slice_get others k

pub SameSeen-le : {left more : ℕ} {tokens others : List Token} → left ≤ more → SameSeen left tokens others → SameSeen more tokens others
SameSeen-le {left} {more} {tokens} h s = record { same = λ k w. s.same k (omega arith) }

pub looked_at-le : (k : ℕ) (tests : List Test) (tokens : List Token) (unseen : ℕ) → looked_at k tests tokens unseen ≤ unseen
looked_at-le k [] tokens unseen = omega arith
looked_at-le k (test ∷ tests) tokens unseen = either (passes_test test (slice_get tokens k)) (looked_at-le (suc k) tests tokens (seen k tokens unseen)) where
  either : (b : Bool) → looked_at (suc k) tests tokens (seen k tokens unseen) ≤ seen k tokens unseen → (if b then looked_at (suc k) tests tokens (seen k tokens unseen) else seen k tokens unseen) ≤ unseen
  either true h = omega arith
  either false h = omega arith

within : (test : Test) (tokens : List Token) (k : ℕ) (o : Option Token) → slice_get tokens k ≡ o → passes_test test o ≡ true → k < length tokens
within test tokens k None e h = cc
within test tokens k (Some t) e h = slice_get_within tokens k t e

-- What the tests say rests on what they have seen.
pub begin-same : (k : ℕ) (tests : List Test) (tokens others : List Token) (unseen left : ℕ) → k ≤ length tokens → left ≤ looked_at k tests tokens unseen → SameSeen left tokens others → begin_at k tests others ≡ begin_at k tests tokens
begin-same k [] tokens others unseen left w h s = refl
begin-same k (test ∷ tests) tokens others unseen left w h s =
    either (passes_test test (slice_get tokens k)) refl h (λ v l. begin-same (suc k) tests tokens others (seen k tokens unseen) left v l s) where
      first : left ≤ seen k tokens unseen → passes_test test (slice_get others k) ≡ passes_test test (slice_get tokens k)
      first l = ap (passes_test test) (sym (s.same k (omega arith)))

      either : (b : Bool) → passes_test test (slice_get tokens k) ≡ b → left ≤ (if b then looked_at (suc k) tests tokens (seen k tokens unseen) else seen k tokens unseen)
          → (suc k ≤ length tokens → left ≤ looked_at (suc k) tests tokens (seen k tokens unseen) → begin_at (suc k) tests others ≡ begin_at (suc k) tests tokens)
          → (passes_test test (slice_get others k) && begin_at (suc k) tests others) ≡ (b && begin_at (suc k) tests tokens)
      either true e l again =
          let m = looked_at-le (suc k) tests tokens (seen k tokens unseen) in
          let lt = within test tokens k (slice_get tokens k) refl e in
          ap (λ b. b && begin_at (suc k) tests others) (first (omega arith) ∙ e) ∙ again (omega arith) l
      either false e l again = ap (λ b. b && begin_at (suc k) tests others) (first l ∙ e)
