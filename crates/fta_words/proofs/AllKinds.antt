-- The options of one command are among those of all, and their words are text.
use Rattle.std.proofs.Common.{◌≡◌, ◌≢◌, ◌<◌, ℕ, zero, suc, Bool, true, false, not, ◌==◌, ◌&&◌, nat_lt, slice_index, arith, List, [], ◌∷◌, ◌++◌, refl, sym, ap, subst, ◌∙◌}
use Rattle.std.specs.Prelude.{Contains, IsUtf8}
use Rattle.std.specs.List.{AllByRecursion, list_all}
use Rattle.std.proofs.lemmas.Bool.{false≢true}
use Rattle.std.proofs.lemmas.Bool.Decides.{nat_tests}
use Rattle.std.proofs.lemmas.Str.{IsUtf8-append, IsUtf8-from_ascii}
use Rattle.clap.proofs.WalkLemmas.{both}
use Rattle.fta_words.specs.declared.kind.Kind.{Kind}
use Rattle.fta_words.specs.Table.{all_flags, flags_of, is_among, name_of, valued_of}
use Rattle.fta_words.specs.inner.Parsed.{all_valued}
use Rattle.fta_words.specs.Words.{Alone, Apart, AreOptions, Attached, Given, IsAllowed, IsPlainWord, Spelling, option_words, spelled}
use Rattle.fta_words.specs.inner.Reading.{Allowed, HaveOptions}
use Rattle.fta_words.proofs.EachKind.{every_kind}
use Rattle.fta_words.proofs.Names.{has_name}
use Rattle.fta_words.proofs.Places.{each_of}

-- ---- the names of all options

names_among : (names wanted : List (List ℕ)) → list_all (is_among names) wanted ≡ true → AllByRecursion (Contains names) wanted
names_among names [] all = tt
names_among names (name ∷ wanted) all =
    let two = both (is_among names name) (list_all (is_among names) wanted) all in (has_name names name two.0, names_among names wanted two.1)

flag_of_all : (k : Kind) → AllByRecursion (Contains all_flags) (flags_of k)
flag_of_all k = names_among all_flags (flags_of k) (every_kind (λ j. list_all (is_among all_flags) (flags_of j)) refl k)

valued_of_all : (k : Kind) → AllByRecursion (Contains all_valued) (valued_of k)
valued_of_all k = names_among all_valued (valued_of k) (every_kind (λ j. list_all (is_among all_valued) (valued_of j)) refl k)

allowed_one : (k : Kind) (name : List ℕ) (spelling : Spelling) → IsAllowed (flags_of k) (valued_of k) name spelling → IsAllowed all_flags all_valued name spelling
allowed_one k name Alone is = each_of (Contains all_flags) (flags_of k) name (flag_of_all k) is
allowed_one k name (Attached value) is = (each_of (Contains all_valued) (valued_of k) name (valued_of_all k) is.0, is.1)
allowed_one k name (Apart value) is = (each_of (Contains all_valued) (valued_of k) name (valued_of_all k) is.0, is.1)

pub allowed_all : (k : Kind) (given : List Given) → Allowed (flags_of k) (valued_of k) given → Allowed all_flags all_valued given
allowed_all k [] allowed = tt
allowed_all k (option ∷ given) allowed = (allowed_one k option.name option.spelling allowed.0, allowed_all k given allowed.1)

-- options of a command are options of the command line
pub all_options : (k : Kind) (given : List Given) → AreOptions (flags_of k) (valued_of k) given → AreOptions all_flags all_valued given
all_options k given options = record { allowed = allowed_all k given options.allowed; once = options.once }

-- ---- text

plain_text : (word : List ℕ) → IsPlainWord word → IsUtf8 word
plain_text [] plain = absurd plain
plain_text (byte ∷ bytes) plain = plain.1

small : (byte : ℕ) → nat_lt byte 128 ≡ true → byte < 128
small byte is = grind (arith, nat_tests)

ascii : (bytes : List ℕ) → list_all (λ byte. nat_lt byte 128) bytes ≡ true → (i : ℕ) → slice_index bytes i < 128
ascii [] all zero = omega arith
ascii [] all (suc i) = omega arith
ascii (byte ∷ bytes) all zero = small byte (both (nat_lt byte 128) (list_all (λ b. nat_lt b 128) bytes) all).0
ascii (byte ∷ bytes) all (suc i) = ascii bytes (both (nat_lt byte 128) (list_all (λ b. nat_lt b 128) bytes) all).1 i

pub ascii_text : (bytes : List ℕ) → list_all (λ byte. nat_lt byte 128) bytes ≡ true → IsUtf8 bytes
ascii_text bytes all = IsUtf8-from_ascii bytes (ascii bytes all)

-- the name of an option, behind `--`, is text
IsName : List ℕ → Type 0
IsName name = IsUtf8 (45 ∷ 45 ∷ name)

name_text : (names : List (List ℕ)) → AllByRecursion IsName names → (name : List ℕ) → Contains names name → IsName name
name_text names all name has = each_of IsName names name all has

abbrev are_ascii : List (List ℕ) → Bool
are_ascii names = list_all (λ name. list_all (λ byte. nat_lt byte 128) (45 ∷ 45 ∷ name)) names

ascii_names : (names : List (List ℕ)) → are_ascii names ≡ true → AllByRecursion IsName names
unfolding IsName
ascii_names [] all = tt
ascii_names (name ∷ names) all =
    let two = both (list_all (λ byte. nat_lt byte 128) (45 ∷ 45 ∷ name)) (list_all (λ n. list_all (λ byte. nat_lt byte 128) (45 ∷ 45 ∷ n)) names) all in
    (ascii_text (45 ∷ 45 ∷ name) two.0, ascii_names names two.1)

flags_text : AllByRecursion IsName all_flags
flags_text = ascii_names all_flags refl

valued_text : AllByRecursion IsName all_valued
valued_text = ascii_names all_valued refl

words_text : (name : List ℕ) (spelling : Spelling) → IsAllowed all_flags all_valued name spelling → (rest : List (List ℕ)) → AllByRecursion IsUtf8 rest → AllByRecursion IsUtf8 (spelled name spelling ++ rest)
unfolding IsName
words_text name Alone is rest all = (name_text all_flags flags_text name is, all)
words_text name (Attached value) is rest all =
    (IsUtf8-append (45 ∷ 45 ∷ name) (61 ∷ value) (name_text all_valued valued_text name is.0) (IsUtf8-append (61 ∷ []) value (ascii_text (61 ∷ []) refl) (plain_text value is.1)), all)
words_text name (Apart value) is rest all = (name_text all_valued valued_text name is.0, (plain_text value is.1, all))

options_text : (given : List Given) → Allowed all_flags all_valued given → AllByRecursion IsUtf8 (option_words given)
options_text [] allowed = tt
options_text (option ∷ given) allowed = words_text option.name option.spelling allowed.0 (option_words given) (options_text given allowed.1)

-- words that are options are text
pub are_text : (k : Kind) (words : List (List ℕ)) → HaveOptions (flags_of k) (valued_of k) words → AllByRecursion IsUtf8 words
are_text k words have = subst (AllByRecursion IsUtf8) (sym have.1) (options_text have.0 (allowed_all k have.0 have.2.allowed))

-- the name of a command is a plain word
abbrev is_plain_name : List ℕ → Bool
is_plain_name [] = false
is_plain_name (byte ∷ bytes) = not (byte == 45) && list_all (λ b. nat_lt b 128) (byte ∷ bytes)

not_dash : (byte : ℕ) → not (byte == 45) ≡ true → byte ≢ 45
not_dash byte is same = false≢true (sym (ap (λ b. not (b == 45)) same) ∙ is)

plain_name : (name : List ℕ) → is_plain_name name ≡ true → IsPlainWord name
plain_name [] is = false≢true is
plain_name (byte ∷ bytes) is =
    let two = both (not (byte == 45)) (list_all (λ b. nat_lt b 128) (byte ∷ bytes)) is in (not_dash byte two.0, ascii_text (byte ∷ bytes) two.1)

pub name_is_plain : (k : Kind) → IsPlainWord (name_of k)
name_is_plain k = plain_name (name_of k) (every_kind (λ j. is_plain_name (name_of j)) refl k)
