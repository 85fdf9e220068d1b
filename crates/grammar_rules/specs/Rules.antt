-- Grammar rules as data, and what it means that tokens read by a rule.
use Rattle.std.specs.Prelude.{◌≡◌, ℕ, suc, ◌<◌, ◌≤◌, Bool, true, false, ◌&&◌, IsTrue, IsFalse, MatchBool, List, [], ◌∷◌, ◌++◌, length, Option, Some, None, slice_get}
use Rattle.aadl_syntax.specs.declared.token.Token.{Token}

-- a test of one token
abbrev pub Test : Type 0
Test = Token → Bool

-- a rule of a grammar, whose tokens give a value of the type A
pub data Rule : Type 0 → Type 1 where
  -- no token, and this value
  gives : {A : Type 0} → A → Rule A
  -- no token, and the number of the file
  gives_file : Rule ℕ
  -- nothing is read so
  refuses : {A : Type 0} → Rule A
  -- one token, with the value that it has
  takes : {A : Type 0} → (Token → Option A) → Rule A
  -- no token, with the value that the next one has
  sees : {A : Type 0} → (Token → Option A) → Rule A
  -- no token, at the end of the tokens alone
  ends : Rule (Unit {0})
  -- the tokens before the first one that stops it; whether one does may depend on the tokens before it
  spans : (List Token → Token → Bool) → Rule (List Token)
  -- the tokens of a first rule, then those of a rule that may depend on its value
  joins : {A B : Type 0} → Rule A → (A → Rule B) → Rule B
  -- the first rule where the next tokens pass these tests, else the second
  chooses : {A : Type 0} → List Test → Rule A → Rule A → Rule A
  -- parts, one after the other, as long as the next tokens pass these tests
  repeats : {A : Type 0} → List Test → Rule A → Rule (List A)
  -- parts as long as the next tokens pass these tests, each of which goes on from the value of those before it
  gathers : {A : Type 0} → List Test → (A → Rule A) → A → Rule A

-- the rules of a production are written one below the other, in a `do` block
infixl 10 ◌>>=◌
abbrev pub ◌>>=◌ : {A B : Type 0} → Rule A → (A → Rule B) → Rule B
first >>= after = joins first after

-- whether there is a token, and it passes the test
abbrev pub passes_test : Test → Option Token → Bool
passes_test test None = false
passes_test test (Some token) = test token

-- whether the tokens from place k on pass these tests, each token its own
abbrev pub begin_at : ℕ → List Test → List Token → Bool
begin_at k [] tokens = true
begin_at k (test ∷ tests) tokens = passes_test test (slice_get tokens k) && begin_at (suc k) tests tokens

-- whether the next tokens pass these tests
abbrev pub begin : List Test → List Token → Bool
begin tests tokens = begin_at 0 tests tokens

-- The tokens passed are those before the first that stops, which is the first of the rest; others may stand before them.
abbrev pub IsSpan : (List Token → Token → Bool) → List Token → List Token → List Token → Type 0
IsSpan stops before [] [] = ⊥
IsSpan stops before [] (token ∷ rest) = IsTrue (stops before token)
IsSpan stops before (token ∷ passed) rest = IsFalse (stops before token) × IsSpan stops (before ++ token ∷ []) passed rest

-- The tokens are parts that read so, each of at least one token, up to where the next tokens fail the tests.
abbrev pub ReadsEach : {A : Type 0} → List Test → (List Token → A → List Token → Type 0) → List Token → List A → List Token → Type 0
ReadsEach tests Part tokens [] rest = IsFalse (begin tests tokens) × (rest ≡ tokens)
ReadsEach tests Part tokens (value ∷ values) rest = IsTrue (begin tests tokens) × (middle : List Token) × (length middle < length tokens) × Part tokens value middle × ReadsEach tests Part middle values rest

-- The tokens are parts that read so, each of at least one token, up to where the next tokens fail the tests; each goes on from
-- the value of the one before it, and these are the values after each of them.
abbrev pub ReadsThrough : {A : Type 0} → List Test → (A → List Token → A → List Token → Type 0) → List Token → A → List A → A → List Token → Type 0
ReadsThrough tests Part tokens before [] value rest = IsFalse (begin tests tokens) × (value ≡ before) × (rest ≡ tokens)
ReadsThrough tests Part tokens before (after ∷ more) value rest = IsTrue (begin tests tokens) × (middle : List Token) × (length middle < length tokens) × Part before tokens after middle × ReadsThrough tests Part middle after more value rest

-- The front of the tokens of this file reads by the rule as the value, and the rest is left.
abbrev pub Reads : {A : Type 0} → ℕ → Rule A → List Token → A → List Token → Type 0
Reads file (gives x) tokens value rest = (value ≡ x) × (rest ≡ tokens)
Reads file gives_file tokens value rest = (value ≡ file) × (rest ≡ tokens)
Reads file refuses tokens value rest = ⊥
Reads file (takes of) tokens value rest = (token : Token) × (tokens ≡ token ∷ rest) × (of token ≡ Some value)
Reads file (sees of) tokens value rest = (token : Token) × (slice_get tokens 0 ≡ Some token) × (of token ≡ Some value) × (rest ≡ tokens)
Reads file ends tokens value rest = (tokens ≡ []) × (rest ≡ [])
Reads file (spans stops) tokens value rest = (tokens ≡ value ++ rest) × IsSpan stops [] value rest
Reads file (joins {A = A} first after) tokens value rest = (x : A) × (middle : List Token) × Reads file first tokens x middle × Reads file (after x) middle value rest
Reads file (chooses tests one other) tokens value rest = MatchBool (begin tests tokens) (Reads file one tokens value rest) (Reads file other tokens value rest)
Reads file (repeats tests part) tokens values rest = ReadsEach tests (Reads file part) tokens values rest
Reads file (gathers {A = A} tests part start) tokens value rest = (values : List A) × ReadsThrough tests (λ x. Reads file (part x)) tokens start values value rest

-- Two lists of tokens have the same at every place up to and with this one; the end of a list is the place after its last token.
abbrev pub AgreeTo : ℕ → List Token → List Token → Type 0
AgreeTo place tokens others = (k : ℕ) → k ≤ place → slice_get tokens k ≡ slice_get others k

-- No tokens that agree with these up to and with the place read whole by the rule.
abbrev pub Dead : {A : Type 0} → ℕ → Rule A → List Token → ℕ → Type 0
Dead {A} file rule tokens place = (others : List Token) → AgreeTo place tokens others → (value : A) → Reads file rule others value [] → ⊥
