-- The reading of tokens by a rule as a function, which also counts how much of the tokens is still unseen.
use Rattle.std.specs.Prelude.{ℕ, zero, suc, ◌-◌, min, Bool, if◌then◌else◌, List, [], ◌∷◌, ◌++◌, length, drop, Option, Some, None, option_and_then, is_none, nat_lt, slice_get}
use Rattle.aadl_syntax.specs.declared.token.Token.{Token}
use Rattle.grammar_rules.specs.Rules.{Test, Rule, gives, gives_file, refuses, takes, sees, ends, spans, joins, chooses, repeats, gathers, passes_test, begin}

-- What a reading comes to: a value, the tokens that are left, and how many of these and the end no test has looked at;
-- or a refusal, where that many of the tokens and the end are unseen.
pub data Outcome (A : Type 0) : Type 0 where
  read : A → List Token → ℕ → Outcome A
  dead : ℕ → Outcome A

-- what is unseen once the token at place k was looked at: no more than what stands behind it, with the end
abbrev pub seen : ℕ → List Token → ℕ → ℕ
seen k tokens unseen = min unseen (length tokens - k)

-- what is unseen once the tests have looked at the tokens from place k on, one by one up to the first that fails
abbrev pub looked_at : ℕ → List Test → List Token → ℕ → ℕ
looked_at k [] tokens unseen = unseen
looked_at k (test ∷ tests) tokens unseen =
    if passes_test test (slice_get tokens k) then looked_at (suc k) tests tokens (seen k tokens unseen) else seen k tokens unseen

-- what is unseen once the tests have looked at the next tokens
abbrev pub looked : List Test → List Token → ℕ → ℕ
looked tests tokens unseen = looked_at 0 tests tokens unseen

-- the value where there is one, and else a refusal
abbrev pub found : {A : Type 0} → Option A → List Token → ℕ → Outcome A
found None rest unseen = dead unseen
found (Some value) rest unseen = read value rest unseen

-- a reading, then one that starts where it ended
abbrev pub followed : {A B : Type 0} → Outcome A → (A → List Token → ℕ → Outcome B) → Outcome B
followed (read value rest unseen) next = next value rest unseen
followed (dead unseen) next = dead unseen

-- the tokens up to the first that stops, after those that were passed before
abbrev pub spanned : (List Token → Token → Bool) → List Token → List Token → ℕ → Outcome (List Token)
spanned stops before [] unseen = dead 0
spanned stops before (token ∷ tokens) unseen =
    if stops before token then read before (token ∷ tokens) (seen 0 (token ∷ tokens) unseen) else spanned stops (before ++ token ∷ []) tokens unseen

-- parts as long as the next tokens pass the tests, in less than so many turns
abbrev pub repeated : {A : Type 0} → List Test → (List Token → ℕ → Outcome A) → ℕ → List Token → ℕ → Outcome (List A)
repeated tests part zero tokens unseen = dead unseen
repeated tests part (suc turns) tokens unseen =
    if begin tests tokens
    then followed (part tokens (looked tests tokens unseen)) (λ value rest left.
    if nat_lt (length rest) (length tokens) then followed (repeated tests part turns rest left) (λ values end last. read (value ∷ values) end last) else dead left)
    else read [] tokens (looked tests tokens unseen)

-- parts as long as the next tokens pass the tests, each going on from the value of those before it, in less than so many turns
abbrev pub gathered : {A : Type 0} → List Test → (A → List Token → ℕ → Outcome A) → ℕ → A → List Token → ℕ → Outcome A
gathered tests part zero value tokens unseen = dead unseen
gathered tests part (suc turns) value tokens unseen =
    if begin tests tokens
    then followed (part value tokens (looked tests tokens unseen)) (λ next rest left. if nat_lt (length rest) (length tokens) then gathered tests part turns next rest left else dead left)
    else read value tokens (looked tests tokens unseen)

-- the reading of these tokens of a file by a rule, where so many of the tokens and the end are unseen
abbrev pub run : {A : Type 0} → ℕ → Rule A → List Token → ℕ → Outcome A
run file (gives x) tokens unseen = read x tokens unseen
run file gives_file tokens unseen = read file tokens unseen
run file refuses tokens unseen = dead unseen
run file (takes of) tokens unseen = found (option_and_then of (slice_get tokens 0)) (drop 1 tokens) (seen 0 tokens unseen)
run file (sees of) tokens unseen = found (option_and_then of (slice_get tokens 0)) tokens (seen 0 tokens unseen)
run file ends tokens unseen = if is_none (slice_get tokens 0) then read tt tokens (seen 0 tokens unseen) else dead (seen 0 tokens unseen)
run file (spans stops) tokens unseen = spanned stops [] tokens unseen
run file (joins first after) tokens unseen = followed (run file first tokens unseen) (λ value rest left. run file (after value) rest left)
run file (chooses tests one other) tokens unseen = if begin tests tokens then run file one tokens (looked tests tokens unseen) else run file other tokens (looked tests tokens unseen)
run file (repeats tests part) tokens unseen = repeated tests (run file part) (suc (length tokens)) tokens unseen
run file (gathers tests part start) tokens unseen = gathered tests (λ x. run file (part x)) (suc (length tokens)) start tokens unseen
