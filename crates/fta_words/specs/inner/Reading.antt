-- How words are read: what private functions say of them.
use Rattle.std.specs.Prelude.{◌≡◌, Bool, true, false, not, ◌==◌, ◌&&◌, if◌then◌else◌, ℕ, List, [], ◌∷◌, ◌++◌, Option, MatchOption}
use Rattle.std.specs.List.{AllByRecursion}
use Rattle.aadl_syntax.specs.Form.{is_letter_or_digit}
use Rattle.plain_values.specs.declared.name.Root.{Root}
use Rattle.fta_words.specs.declared.asked.Asked.{Asked}
use Rattle.fta_words.specs.declared.command.Options.{Options}
use Rattle.fta_words.specs.declared.command.Request.{Request as RequestInCode}
use Rattle.fta_words.specs.declared.kind.Kind.{Kind}
use Rattle.fta_words.specs.declared.kind.Shape.{Shape}
use Rattle.fta_words.specs.inner.Shown.{request_shown}
use Rattle.fta_words.specs.Table.{flags_of, name_of, required_of, shape_of, valued_of}
use Rattle.fta_words.specs.Words.{AreOptions, Given, IsAllowed, IsAsked, IsInFull, IsPlainWord, Request, Say, Spelling, in_full, is_fit, is_given, option_words, spelled}

-- whether letters and digits follow, each perhaps after one `_`: it goes along the bytes, and after a
-- `_` (waiting) a letter or digit must stand
abbrev pub follows_well : Bool → List ℕ → Bool
follows_well waiting [] = not waiting
follows_well waiting (byte ∷ bytes) =
    if is_letter_or_digit byte then follows_well false bytes else (byte == 95 && (not waiting && follows_well true bytes))

-- ---- options

-- The options are allowed.
abbrev pub Allowed : List (List ℕ) → List (List ℕ) → List Given → Type 0
Allowed flags valued given = AllByRecursion (λ option. IsAllowed flags valued option.name option.spelling) given

-- An option of this name stands first in the words, and these words follow it.
pub record StandsFirst (flags valued words : List (List ℕ)) (name : List ℕ) (rest : List (List ℕ)) : Type 0 where
  pub spelling : Spelling
  pub words_are : words ≡ spelled name spelling ++ rest
  pub allowed : IsAllowed flags valued name spelling

-- No option stands first in the words.
abbrev pub NoneStandsFirst : List (List ℕ) → List (List ℕ) → List (List ℕ) → Type 0
NoneStandsFirst flags valued words =
    (name : List ℕ) (spelling : Spelling) (rest : List (List ℕ)) → words ≡ spelled name spelling ++ rest → IsAllowed flags valued name spelling → ⊥

-- The words are options.
abbrev pub HaveOptions : List (List ℕ) → List (List ℕ) → List (List ℕ) → Type 0
HaveOptions flags valued words = (given : List Given) × (words ≡ option_words given) × AreOptions flags valued given

-- ---- requests

-- The answer is what plain words of a shape say, or none where they are none of it.
abbrev pub AsksAs : Shape → List (List ℕ) → Option Asked → Type 0
AsksAs shape words answer =
    MatchOption answer
    ((root : Root) (target : List ℕ) (number : ℕ) (of : Option Kind) (files : List (List ℕ)) → IsAsked shape words root target number of files → ⊥)
    (λ asked. IsAsked shape words asked.root asked.target asked.number asked.of asked.files)

-- The words are the plain words behind the name of a command and then its options, and this is the request.
pub record IsRead (reports : List (List ℕ)) (kind : Kind) (plain behind : List (List ℕ)) (request : Request) : Type 0 where
  pub kind_is : request.kind ≡ kind
  pub given : List Given
  pub behind_are : behind ≡ option_words given
  pub options : AreOptions (flags_of kind) (valued_of kind) given
  pub required : AllByRecursion (λ name. is_given name given ≡ true) (required_of kind)
  pub fit : is_fit kind given ≡ true
  pub asked : IsAsked (shape_of kind) plain request.root request.target request.number request.of request.files
  pub said : Say kind reports given request.options

-- The answer is the request that such words are, or none where they are none.
abbrev pub ReadsAs : List (List ℕ) → Kind → List (List ℕ) → List (List ℕ) → Option RequestInCode → Type 0
ReadsAs reports kind plain behind answer =
    MatchOption answer ((request : Request) → IsRead reports kind plain behind request → ⊥) (λ request. IsRead reports kind plain behind (request_shown request))

-- The answer is what the options say, or none where they say nothing of its form.
abbrev pub SaysAs : Kind → List (List ℕ) → List Given → Option Options → Type 0
SaysAs kind reports given answer = MatchOption answer ((options : Options) → Say kind reports given options → ⊥) (Say kind reports given)

-- The answer is the request that words in full are, or none where they are none.
abbrev pub AnswersInFull : List (List ℕ) → List (List ℕ) → Option RequestInCode → Type 0
AnswersInFull reports words answer =
    MatchOption answer ((request : Request) → IsInFull reports words request → ⊥) (λ request. IsInFull reports words (request_shown request))

-- The answer is the request that the words are, or none where they are none.
abbrev pub Answers : List (List ℕ) → List (List ℕ) → Option RequestInCode → Type 0
Answers reports words answer = AnswersInFull reports (in_full words) answer

-- The words are a short form: in full they are the name of a command and these plain words.
pub record IsShort (words : List (List ℕ)) (kind : Kind) (plain : List (List ℕ)) : Type 0 where
  pub in_full_is : in_full words ≡ name_of kind ∷ plain
  pub plain_words : AllByRecursion IsPlainWord plain
