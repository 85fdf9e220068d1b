-- The words of the command line: the name of a command, plain words by its shape, and options.
use Rattle.std.specs.Prelude.{◌≡◌, ◌≢◌, ◌<◌, ◌≤◌, ◌↔◌, ◌+◌, ◌*◌, ◌-◌, ℕ, Bool, true, false, not, ◌&&◌, ◌||◌, ◌==◌, if◌then◌else◌, List, [], ◌∷◌, ◌++◌, drop, filter, length, map, fold, codes, Option, Some, None, is_some, IfSome, IsUtf8, Contains, option_map, option_to_list, slice_get, take, unwrap_or}
use Rattle.std.specs.List.{AllByRecursion, flat_map, join_with_byte, list_all, list_any}
use Rattle.std.specs.Option.{option_map_or}
use Rattle.plain_values.specs.Name.{folded, is_same_text}
use Rattle.plain_values.specs.declared.name.Root.{Root}
use Rattle.decimals.specs.Numerals.{number_of as number_of_text}
use Rattle.aadl_syntax.specs.Form.{IsWord}
use Rattle.fta_words.specs.declared.command.Form.{Form}
use Rattle.fta_words.specs.declared.command.Options.{Options}
use Rattle.fta_words.specs.declared.kind.Kind.{Kind}
use Rattle.fta_words.specs.declared.kind.Kind.TheVariants as kind
use Rattle.fta_words.specs.declared.kind.Shape.{Shape}
use Rattle.fta_words.specs.declared.kind.Shape.TheVariants as shape
use Rattle.fta_words.specs.Table.{all_codes, all_flags, flags_of, formats_of, gate_choices, is_among, kind_named, name_of, profile_choices, required_of, shape_of, unrated_choices, valued_of}

-- ---- plain words

-- a word that stands for itself: UTF-8 text, not empty, that does not begin with `-`
abbrev pub IsPlainWord : List ℕ → Type 0
IsPlainWord [] = ⊥
IsPlainWord (byte ∷ bytes) = (byte ≢ 45) × IsUtf8 (byte ∷ bytes)

-- names with `::` between them
abbrev pub with_colons : List (List ℕ) → List ℕ
with_colons [] = []
with_colons (name ∷ []) = name
with_colons (name ∷ next ∷ names) = name ++ (58 ∷ 58 ∷ with_colons (next ∷ names))

-- the item of an implementation, after a dot
abbrev pub dotted : Option (List ℕ) → List ℕ
dotted None = []
dotted (Some item) = 46 ∷ item

-- The text of a root: at least two identifiers with `::` between them, and perhaps a dot and one more.
pub record IsRoot (text : List ℕ) (root : Root) : Type 0 where
  pub text_is : text ≡ with_colons root.names ++ dotted root.item
  pub at_least_two : 2 ≤ length root.names
  pub identifiers : AllByRecursion IsWord root.names
  pub item_identifier : IfSome root.item IsWord

-- ---- numbers

-- a decimal digit
abbrev pub IsDigit : ℕ → Type 0
IsDigit byte = (48 ≤ byte) × (byte ≤ 57)

-- the number of decimal digits
abbrev pub number_of : List ℕ → ℕ
number_of digits = fold (λ number digit. number * 10 + (digit - 48)) 0 digits

-- A text of one to nine decimal digits, and its number.
pub record IsNumberText (text : List ℕ) (number : ℕ) : Type 0 where
  pub some_digit : 0 < length text
  pub at_most_nine : length text ≤ 9
  pub digits : AllByRecursion IsDigit text
  pub number_is : number ≡ number_of text

-- ---- options

-- how an option stands in the words
pub data Spelling : Type 0 where
  -- `--name`
  Alone : Spelling
  -- `--name=value`
  Attached : List ℕ → Spelling
  -- `--name` and then the value, as a word of its own
  Apart : List ℕ → Spelling

-- an option as it stands
pub record Given : Type 0 where
  pub name : List ℕ
  pub spelling : Spelling

-- the words of an option
abbrev pub spelled : List ℕ → Spelling → List (List ℕ)
spelled name Alone = (45 ∷ 45 ∷ name) ∷ []
spelled name (Attached value) = (45 ∷ 45 ∷ name ++ (61 ∷ value)) ∷ []
spelled name (Apart value) = (45 ∷ 45 ∷ name) ∷ value ∷ []

-- the words of options, one after the other
abbrev pub option_words : List Given → List (List ℕ)
option_words given = flat_map (λ option. spelled option.name option.spelling) given

-- an option that stands alone is one of the flags, and one with a value, which is a plain word, one of those that have one
abbrev pub IsAllowed : List (List ℕ) → List (List ℕ) → List ℕ → Spelling → Type 0
IsAllowed flags valued name Alone = Contains flags name
IsAllowed flags valued name (Attached value) = Contains valued name × IsPlainWord value
IsAllowed flags valued name (Apart value) = Contains valued name × IsPlainWord value

-- each name is different from all that follow it
abbrev pub AreDifferent : List (List ℕ) → Type 0
AreDifferent [] = Unit {0}
AreDifferent (name ∷ names) = AllByRecursion (λ other. name ≢ other) names × AreDifferent names

-- Each option is allowed, and none stands twice.
pub record AreOptions (flags valued : List (List ℕ)) (given : List Given) : Type 0 where
  pub allowed : AllByRecursion (λ option. IsAllowed flags valued option.name option.spelling) given
  pub once : AreDifferent (map (λ option. option.name) given)

-- the value of an option as it stands
abbrev pub value_in : Spelling → Option (List ℕ)
value_in Alone = None
value_in (Attached value) = Some value
value_in (Apart value) = Some value

-- the value of the option of a name, where it is given
abbrev pub value_of : List ℕ → List Given → Option (List ℕ)
value_of name [] = None
value_of name (option ∷ given) = if is_same_text name option.name then value_in option.spelling else value_of name given

-- whether the option of a name is given
abbrev pub is_given : List ℕ → List Given → Bool
is_given name given = list_any (λ option. is_same_text name option.name) given

-- ---- what an option says

-- what an option says where it is given, and nothing where it is not
abbrev pub Says : {A : Type 0} → (List ℕ → A → Type 0) → Option (List ℕ) → Option A → Type 0
Says Is None None = Unit {0}
Says Is None (Some a) = ⊥
Says Is (Some text) None = ⊥
Says Is (Some text) (Some a) = Is text a

-- the letters of a text are folded
abbrev pub IsFolded : List ℕ → List ℕ → Type 0
IsFolded text name = name ≡ folded text

-- whether a text is a number of hours: one with a point or an exponent or none, without `_` and without a base
abbrev pub is_hours : List ℕ → Bool
is_hours text = is_some (number_of_text text) && list_all (λ byte. not (byte == 95 || byte == 35)) text

-- a text is a number of hours, and stays as it is
abbrev pub AreHours : List ℕ → List ℕ → Type 0
AreHours text hours = (is_hours text ≡ true) × (hours ≡ text)

-- the first report of a name stands at a place
pub record IsReport (reports : List (List ℕ)) (name : List ℕ) (place : ℕ) : Type 0 where
  pub here : slice_get reports place ≡ Some name
  pub first : (other : ℕ) → slice_get reports other ≡ Some name → place ≤ other

-- each number is less than all that follow it
abbrev pub Rise : List ℕ → Type 0
Rise [] = Unit {0}
Rise (number ∷ numbers) = AllByRecursion (λ other. number < other) numbers × Rise numbers

-- Names of reports with `+` between them, none of them twice; and the places of these reports, in order.
pub record AreNames (reports : List (List ℕ)) (text : List ℕ) (chosen : List ℕ) : Type 0 where
  pub names : List (List ℕ)
  pub some_name : 0 < length names
  pub text_is : text ≡ join_with_byte 43 names
  pub no_plus : AllByRecursion (λ name. Contains name 43 → ⊥) names
  pub once : AreDifferent names
  pub rise : Rise chosen
  pub each : (name : List ℕ) → Contains names name → (place : ℕ) × IsReport reports name place
  pub chosen_are : (place : ℕ) → Contains chosen place ↔ ((name : List ℕ) × Contains names name × IsReport reports name place)

-- All places of reports are chosen, where no names are given.
pub record AreAll (reports : List (List ℕ)) (chosen : List ℕ) : Type 0 where
  pub rise : Rise chosen
  pub chosen_are : (place : ℕ) → Contains chosen place ↔ (place < length reports)

abbrev pub AreChosen : List (List ℕ) → Option (List ℕ) → List ℕ → Type 0
AreChosen reports None chosen = AreAll reports chosen
AreChosen reports (Some text) chosen = AreNames reports text chosen

-- the reports that a command may choose: those that are handed in, where it has `--reports`
abbrev pub reports_for : Kind → List (List ℕ) → List (List ℕ)
reports_for kind reports = if is_among (valued_of kind) (codes "reports") then reports else []

-- a word that is one of some, or nothing where none is given
abbrev pub IsChoice : List (List ℕ) → Option (List ℕ) → List ℕ → Type 0
IsChoice words None chosen = chosen ≡ []
IsChoice words (Some word) chosen = (is_among words word ≡ true) × (chosen ≡ word)

-- What options say of how a model or a tree is read, and a tree is written: each says one of its words.
pub record SayForm (kind : Kind) (given : List Given) (form : Form) : Type 0 where
  pub format : IsChoice (formats_of kind) (value_of (codes "format") given) form.format
  pub gates : IsChoice gate_choices (value_of (codes "gates") given) form.gates
  pub unrated : IsChoice unrated_choices (value_of (codes "unrated") given) form.unrated
  pub profile : IsChoice profile_choices (value_of (codes "profile") given) form.profile

-- What options say, each by its own line, which is the same for all commands; the flags that are given, by their names, in the order of
-- those of all commands. An option that is not given says nothing, and what it would say is none or empty; but without `--reports` all
-- reports are chosen.
pub record Say (kind : Kind) (reports : List (List ℕ)) (given : List Given) (options : Options) : Type 0 where
  pub limit : Says IsNumberText (value_of (codes "limit") given) options.paging.limit
  pub after : Says IsFolded (value_of (codes "after") given) options.paging.after
  pub max_order : Says IsNumberText (value_of (codes "max-order") given) options.paging.max_order
  pub set : options.set ≡ folded (unwrap_or (value_of (codes "set") given) [])
  pub hours : Says AreHours (value_of (codes "hours") given) options.hours
  pub form : SayForm kind given options.form
  pub chosen : AreChosen (reports_for kind reports) (value_of (codes "reports") given) options.chosen
  pub flags : options.flags ≡ filter (λ name. is_given name given) all_flags

-- whether an option of a listing is given
abbrev pub is_listed : List Given → Bool
is_listed given = is_given (codes "paths") given || (is_given (codes "limit") given || is_given (codes "max-order") given)

-- whether no option of a listing is given where a format is, and no gates where none is
abbrev pub is_drawn_or_listed : List Given → Bool
is_drawn_or_listed given = if is_given (codes "format") given then not (is_listed given) else not (is_given (codes "gates") given)

-- whether not both the importance of events and a greatest number of events of a set are given
abbrev pub is_whole_or_to_order : List Given → Bool
is_whole_or_to_order given = not (is_given (codes "events") given && is_given (codes "max-order") given)

-- whether an option of a page of sets, or of a picture, is given
abbrev pub is_shown : List Given → Bool
is_shown given = is_given (codes "paths") given || (is_given (codes "limit") given || (is_given (codes "format") given || is_given (codes "gates") given))

-- whether an option of a probability is given
abbrev pub is_timed : List Given → Bool
is_timed given = is_given (codes "hours") given || is_given (codes "events") given

-- whether options of a tree that is read from a file have a meaning together: those of a probability where one is asked for, and else those
-- of a listing or of a picture
abbrev pub is_told_or_shown : List Given → Bool
is_told_or_shown given = if is_given (codes "probability") given then not (is_shown given) && is_whole_or_to_order given else not (is_timed given) && is_drawn_or_listed given

-- whether not both a table of all effects and a sheet are asked for
abbrev pub is_table_or_sheet : List Given → Bool
is_table_or_sheet given = not (is_given (codes "all") given && is_given (codes "sheet") given)

-- Whether options that are given have a meaning together: a tree that is read from a file has no sets where it is written in a format, neither
-- where its probability is asked for, the importance of events is by all sets, and a sheet has all effects.
abbrev pub is_fit : Kind → List Given → Bool
is_fit kind.Galileo given = is_told_or_shown given
is_fit kind.Probability given = is_whole_or_to_order given
is_fit kind.Fmea given = is_table_or_sheet given
is_fit _ given = true

-- whether the flag of a name is given
abbrev pub is_set : Options → List ℕ → Bool
is_set options name = is_among options.flags name

-- ---- requests

-- what the words ask for: a command, what its plain words say, and what its options say
pub record Request : Type 0 where
  pub kind : Kind
  -- the root of a model
  pub root : Root
  -- the name of a fact of it, or that of the code of a refusal
  pub target : List ℕ
  -- the size of a model that is made, a byte of a text, or how many of the files are the older ones
  pub number : ℕ
  -- the command on which help is asked for
  pub of : Option Kind
  -- the names of the files
  pub files : List (List ℕ)
  pub options : Options

-- A word stands for the root, whose letters are folded, and there is a file.
pub record NamesModel (root_word : List ℕ) (root : Root) (files : List (List ℕ)) : Type 0 where
  pub root_is : IsRoot (folded root_word) root
  pub some_file : 0 < length files

-- whether a word is `to`, which stands between the older files and the newer ones of a command that compares
abbrev pub is_to : List ℕ → Bool
is_to word = is_same_text word (codes "to")

-- the words before the first `to`, or all where there is none
abbrev pub before_to : List (List ℕ) → List (List ℕ)
before_to [] = []
before_to (word ∷ words) = if is_to word then [] else word ∷ before_to words

-- the words behind the first `to`; none where there is none
abbrev pub behind_to : List (List ℕ) → List (List ℕ)
behind_to [] = []
behind_to (word ∷ words) = if is_to word then words else behind_to words

-- the words without the first `to`
abbrev pub without_to : List (List ℕ) → List (List ℕ)
without_to words = before_to words ++ behind_to words

-- no root
abbrev pub no_root : Root
no_root = record { names = []; item = None }

-- What the plain words behind the name of a command say, by their shape; what the shape does not have is empty, zero or none.
abbrev pub IsAsked : Shape → List (List ℕ) → Root → List ℕ → ℕ → Option Kind → List (List ℕ) → Type 0
IsAsked shape.Model words root target number of files =
    (root_word : List ℕ) × (words ≡ root_word ∷ files) × NamesModel root_word root files
    × (target ≡ []) × (number ≡ 0) × (of ≡ None)
IsAsked shape.Target words root target number of files =
    (root_word : List ℕ) × (target_word : List ℕ) × (words ≡ root_word ∷ target_word ∷ files) × NamesModel root_word root files
    × IsFolded target_word target × (number ≡ 0) × (of ≡ None)
IsAsked shape.Derivation words root target number of files =
    (root_word : List ℕ) × (target_word : List ℕ) × (words ≡ root_word ∷ target_word ∷ files) × NamesModel root_word root files
    × IsFolded target_word target × (number ≡ 0) × (of ≡ None) × (2 ≤ length files)
IsAsked shape.Requirements words root target number of files =
    (root_word : List ℕ) × (words ≡ root_word ∷ files) × NamesModel root_word root files
    × (target ≡ []) × (number ≡ 0) × (of ≡ None) × (2 ≤ length files)
IsAsked shape.Compared words root target number of files =
    (root_word : List ℕ) × (target_word : List ℕ) × (names : List (List ℕ)) × (words ≡ root_word ∷ target_word ∷ names) × NamesModel root_word root (before_to names)
    × (0 < length (behind_to names)) × IsFolded target_word target × (number ≡ length (before_to names)) × (of ≡ None) × (files ≡ without_to names)
IsAsked shape.Number words root target number of files =
    (number_word : List ℕ) × (words ≡ number_word ∷ []) × IsNumberText number_word number × (1 ≤ number) × (number ≤ 512)
    × (root ≡ no_root) × (target ≡ []) × (of ≡ None) × (files ≡ [])
IsAsked shape.File words root target number of files =
    (words ≡ files) × (length files ≡ 1)
    × (root ≡ no_root) × (target ≡ []) × (number ≡ 0) × (of ≡ None)
IsAsked shape.Place words root target number of files =
    (byte_word : List ℕ) × (words ≡ files ++ byte_word ∷ []) × (length files ≡ 1) × IsNumberText byte_word number
    × (root ≡ no_root) × (target ≡ []) × (of ≡ None)
IsAsked shape.Code words root target number of files =
    (code_word : List ℕ) × (words ≡ code_word ∷ []) × IsFolded code_word target × (is_among all_codes target ≡ true)
    × (root ≡ no_root) × (number ≡ 0) × (of ≡ None) × (files ≡ [])
IsAsked shape.Topic words root target number of files =
    (words ≡ option_to_list (option_map name_of of))
    × (root ≡ no_root) × (target ≡ []) × (number ≡ 0) × (files ≡ [])
IsAsked shape.Alone words root target number of files =
    (words ≡ [])
    × (root ≡ no_root) × (target ≡ []) × (number ≡ 0) × (of ≡ None) × (files ≡ [])

-- The words, none of them a short form, are a request, where these are the names of the reports: the name of its command, plain words of
-- its shape, and then options which it may have, each at most once, with all that it requires and none that has no meaning beside another.
pub record IsInFull (reports words : List (List ℕ)) (request : Request) : Type 0 where
  pub plain : List (List ℕ)
  pub given : List Given
  pub words_are : words ≡ name_of request.kind ∷ (plain ++ option_words given)
  pub plain_words : AllByRecursion IsPlainWord plain
  pub options : AreOptions (flags_of request.kind) (valued_of request.kind) given
  pub required : AllByRecursion (λ name. is_given name given ≡ true) (required_of request.kind)
  pub fit : is_fit request.kind given ≡ true
  pub asked : IsAsked (shape_of request.kind) plain request.root request.target request.number request.of request.files
  pub said : Say request.kind reports given request.options

-- ---- short forms

-- what a word that stands alone is in full: `--help` and `-h` are `help`, `--version` and `-V` are `version`
abbrev pub word_in_full : List ℕ → List ℕ
word_in_full word =
    if is_among (codes "--help" ∷ codes "-h" ∷ []) word then codes "help" else (if is_among (codes "--version" ∷ codes "-V" ∷ []) word then codes "version" else word)

-- whether two words are the name of a command and `--help`
abbrev pub is_help_of : List ℕ → List ℕ → Bool
is_help_of name last = option_map_or (λ kind. is_same_text last (codes "--help")) (kind_named name) false

-- the words in full: a command with `--help` behind it is `help` with its name
abbrev pub in_full : List (List ℕ) → List (List ℕ)
in_full [] = []
in_full (word ∷ []) = word_in_full word ∷ []
in_full (name ∷ last ∷ []) = if is_help_of name last then codes "help" ∷ name ∷ [] else name ∷ last ∷ []
in_full (name ∷ next ∷ more ∷ words) = name ∷ next ∷ more ∷ words

-- The words, in full, are a request.
abbrev pub IsRequest : List (List ℕ) → List (List ℕ) → Request → Type 0
IsRequest reports words request = IsInFull reports (in_full words) request

-- The words give a request.
abbrev pub GiveRequest : List (List ℕ) → List (List ℕ) → Type 0
GiveRequest reports words = (request : Request) × IsRequest reports words request

-- The words give no request.
abbrev pub GiveNoRequest : List (List ℕ) → List (List ℕ) → Type 0
GiveNoRequest reports words = (request : Request) → IsRequest reports words request → ⊥

-- ---- the words that name files

-- whether a word begins with `-`
abbrev pub is_option : List ℕ → Bool
is_option [] = false
is_option (byte ∷ bytes) = byte == 45

-- the words before the first that begins with `-`
abbrev pub before_options : List (List ℕ) → List (List ℕ)
before_options [] = []
before_options (word ∷ words) = if is_option word then [] else word ∷ before_options words

-- the shape of the words behind a name; behind one that is no command's they are taken as those of a target
abbrev pub shape_named : List ℕ → Shape
shape_named name = option_map_or shape_of (kind_named name) shape.Target

-- the words that name files, of plain words of a shape with the name before them
abbrev pub files_in : Shape → List (List ℕ) → List (List ℕ)
files_in shape.Model words = drop 2 words
files_in shape.Requirements words = drop 2 words
files_in shape.Compared words = without_to (drop 3 words)
files_in shape.Number words = drop 2 words
files_in shape.Code words = drop 2 words
files_in shape.File words = drop 1 words
files_in shape.Place words = take 1 (drop 1 words)
files_in shape.Target words = drop 3 words
files_in shape.Derivation words = drop 3 words
files_in shape.Topic words = drop 3 words
files_in shape.Alone words = drop 3 words

-- the words that name files: by the shape of the first word's command, up to the first that begins with `-`
abbrev pub file_words : List (List ℕ) → List (List ℕ)
file_words [] = []
file_words (name ∷ words) = files_in (shape_named name) (before_options (name ∷ words))
