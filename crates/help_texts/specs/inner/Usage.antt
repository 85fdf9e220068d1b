-- What `explain` writes of words that give no request.
use Rattle.std.specs.Prelude.{ℕ, Bool, false, not, ◌&&◌, ◌||◌, ◌==◌, if◌then◌else◌, List, [], ◌∷◌, ◌++◌, codes, map, Option, None, Some}
use Rattle.std.specs.List.{flat_map}
use Rattle.near_names.specs.inner.Near.{near_text}
use Rattle.fta_words.specs.Table.{flags_of, is_among, kind_named, name_of, optional_of, usage_of, valued_of}
use Rattle.fta_words.specs.Words.{is_option}
use Rattle.fta_words.specs.declared.kind.Kind.{Kind}
use Rattle.fta_words.specs.declared.kind.TheConstants.{KINDS}

-- a text up to the first byte that is this sign
unfoldable pub before_sign : ℕ → List ℕ → List ℕ
before_sign sign [] = []
before_sign sign (byte ∷ bytes) = if byte == sign then [] else byte ∷ before_sign sign bytes

-- a text without a first `-`
abbrev pub behind_dash : List ℕ → List ℕ
behind_dash [] = []
behind_dash (byte ∷ bytes) = if byte == 45 then bytes else byte ∷ bytes

-- the name that a word has which begins with `-`: what stands behind one or two of them, up to a `=`
abbrev pub name_in : List ℕ → List ℕ
name_in word = before_sign 61 (behind_dash (behind_dash word))

-- the names of all options of a command
abbrev pub options_of : Kind → List (List ℕ)
options_of kind = flags_of kind ++ valued_of kind

-- what is said of a word behind the name of a command: where it begins with `-` and is no option of the command, that, and the nearest
-- options
abbrev pub option_text : Kind → List ℕ → List ℕ
option_text kind word =
    if is_option word && not (is_among (options_of kind) (name_in word)) then codes "no option " ++ (word ++ (codes "\n" ++ near_text (codes "--") (name_in word) (options_of kind)))
    else []

-- what is said of words that begin with a name: that it is none of a command, and the nearest; or which of them are no options, and how the
-- words of the command are
abbrev pub call_text : Option Kind → List ℕ → List (List ℕ) → List ℕ
call_text None name words = codes "no command " ++ (name ++ (codes "\n" ++ near_text [] name (map name_of KINDS)))
call_text (Some kind) name words = flat_map (option_text kind) words ++ (codes "usage aadl_fta " ++ (usage_of kind ++ (optional_of kind ++ codes "\n")))

-- what is said of words that give no request
abbrev pub usage_text : List (List ℕ) → List ℕ
usage_text [] = []
usage_text (name ∷ words) = call_text (kind_named name) name words
