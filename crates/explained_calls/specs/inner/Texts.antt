-- What `explain` writes of a call, by the status with which the call ends.
use Rattle.std.specs.Prelude.{◌≡◌, ◌⊎◌, ℕ, Bool, true, false, ◌||◌, ◌==◌, if◌then◌else◌, List, [], ◌∷◌, ◌++◌, drop, map, codes, get_or, take, unwrap_or, slice_index_or}
use Rattle.std.specs.List.{before_last, flat_map, list_any, take_while}
use Rattle.std.specs.Io.BufRead.{strip_last}
use Rattle.plain_values.specs.Name.{folded, is_same_text}
use Rattle.plain_values.specs.Refusal.{code_text}
use Rattle.plain_values.specs.declared.name.Root.{Root}
use Rattle.plain_values.specs.declared.refusal.Code.{Code}
use Rattle.plain_values.specs.declared.refusal.Code.TheVariants.{BadToken, NotCutSet, SliceTooLarge, TooManyGates, TooManySliceEvents, UnknownClassifier, UnknownPackage, UnknownTarget}
use Rattle.plain_values.specs.declared.refusal.Place.{Place}
use Rattle.plain_values.specs.declared.refusal.Place.TheVariants.{At, Whole, Words}
use Rattle.plain_values.specs.declared.refusal.Refusal.{Refusal}
use Rattle.aadl_syntax.specs.Form.{is_letter_or_digit}
use Rattle.aadl_syntax.specs.declared.core_model.Decl.{Decl}
use Rattle.aadl_syntax.specs.declared.core_model.PackageUnit.{PackageUnit}
use Rattle.aadl_syntax.specs.declared.core_model.Unit.{Unit as FileUnit}
use Rattle.phases.specs.Phases.{Passes, Phase, Stops}
use Rattle.phases.specs.declared.status.Status.{Status}
use Rattle.phases.specs.declared.status.Status.TheVariants.{Constant, Done, Refused, StaleToken, Unrated, Usage, WriteFault}
use Rattle.package_index.specs.Lookup.{packages_of}
use Rattle.page_tokens.specs.Keys.{dotted, joined}
use Rattle.text_places.specs.Places.{place_text}
use Rattle.event_lines.specs.Text.{file_word}
use Rattle.near_names.specs.inner.Near.{near_text}
use Rattle.help_texts.specs.Texts.{explain_text}
use Rattle.help_texts.specs.inner.Usage.{before_sign, usage_text}
use Rattle.fta_words.specs.declared.command.Options.{Options}
use Rattle.fta_words.specs.declared.kind.Kind.{Kind}
use Rattle.fta_words.specs.declared.kind.Kind.TheVariants as kind
use Rattle.model_phases.specs.declared.flat.FlatModel.{FlatModel}
use Rattle.fta_run.specs.Required.{Output}
use Rattle.fta_run.specs.Line.{status_line}
use Rattle.fta_run.specs.Words.{IsRequest, Request}
use Rattle.fta_run.specs.Forms.{profile_of}
use Rattle.fta_run.specs.inner.Read.{model_read, units_read}
use Rattle.explained_calls.specs.inner.Unplaced.{has_sign, places_text}

-- ---- the word that a refusal is about

-- the line of a word: what it is called where the words of commands are described, and the word
abbrev pub word_line : List ℕ → List ℕ → List ℕ
word_line name word = name ++ (codes " " ++ (word ++ codes "\n"))

-- the text of a set among the options, or that behind which a page begins
abbrev pub token_of : Options → List ℕ
token_of options = options.set ++ unwrap_or options.paging.after []

-- the line of the word of a call that a refusal of the words is about: the root, the target, or the text of a set
abbrev pub word_text : List (List ℕ) → Options → Code → List ℕ
word_text call options UnknownPackage = word_line (codes "ROOT") (slice_index_or call 1 [])
word_text call options UnknownClassifier = word_line (codes "ROOT") (slice_index_or call 1 [])
word_text call options UnknownTarget = word_line (codes "TARGET") (slice_index_or call 2 [])
word_text call options BadToken = word_line (codes "TOKEN") (token_of options)
word_text call options NotCutSet = word_line (codes "TOKEN") (token_of options)
word_text call options _ = []

-- where a refusal of a place is: the word of the call that it is about, or the line and the column of its byte in a file
abbrev pub place_in : List (List ℕ) → Options → List (List ℕ) → List (List ℕ) → Code → Place → List ℕ
place_in call options files texts code Words = word_text call options code
place_in call options files texts code (Whole file) = []
place_in call options files texts code (At file at) = place_text (file_word files file) (get_or texts file []) at

-- ---- the nearest names

-- the texts of the model, among those of the files: `confirm` has a derivation before them, `require` has requirements, and `compare` has
-- so many files of the older model before those of the newer one
abbrev pub texts_of_model : Kind → ℕ → List (List ℕ) → List (List ℕ)
texts_of_model kind.Confirm count texts = drop 1 texts
texts_of_model kind.Require count texts = drop 1 texts
texts_of_model kind.Compare count texts = take count texts
texts_of_model _ count texts = texts

-- the same of a request
abbrev pub model_texts : Request → List (List ℕ) → List (List ℕ)
model_texts asked texts = texts_of_model asked.kind asked.number texts

-- the name of a package before that of a classifier, if it is asked for
abbrev pub package_before : Bool → PackageUnit → List ℕ
package_before true unit = joined unit.name ++ codes "::"
package_before false unit = []

-- the name of a classifier: as a root is written, or without its package
abbrev pub classifier_name : Bool → PackageUnit → Decl → List ℕ
classifier_name packaged unit decl = package_before packaged unit ++ (decl.name ++ dotted decl.item)

-- the names of the classifiers of a package
abbrev pub classifier_names : Bool → PackageUnit → List (List ℕ)
classifier_names packaged unit = map (classifier_name packaged unit) unit.decls

-- the names of the classifiers of some files
abbrev pub names_in : Bool → List (List FileUnit) → List (List ℕ)
names_in packaged files = flat_map (classifier_names packaged) (packages_of files)

-- the classifiers that are nearest to the root of a call, among those of some files
abbrev pub near_roots : List (List ℕ) → List (List FileUnit) → List ℕ
near_roots call files = near_text [] (folded (slice_index_or call 1 [])) (names_in true files)

-- the facts that are nearest to a target, and the events that are nearest to a text
abbrev pub near_facts : List ℕ → FlatModel → List ℕ
near_facts target model = near_text [] target (map (λ fact. fact.name) model.system.facts)

abbrev pub near_events : List ℕ → FlatModel → List ℕ
near_events text model = near_text [] text (map (λ event. event.name) model.system.events)

-- ---- the name at a byte

-- whether a byte may stand in a name that has a package before it and an item behind it: a letter, a digit, `_`, `:` or `.`
abbrev pub is_name_byte : ℕ → Bool
is_name_byte byte = is_letter_or_digit byte || (byte == 95 || (byte == 58 || byte == 46))

-- the name that stands at a byte of a text, in lower case: all that may stand in one, up to the first byte that may not
abbrev pub name_at : List ℕ → ℕ → List ℕ
name_at text at = folded (take_while is_name_byte (drop at text))

-- whether a name has a package before it
abbrev pub is_packaged : List ℕ → Bool
is_packaged name = has_sign 58 name

-- what stands before the last `::` of a name; nothing where it has none
abbrev pub package_part : List ℕ → List ℕ
package_part name = strip_last 58 (before_last (λ byte. byte == 58) name)

-- the one text, or the other where it is empty
abbrev pub or_text : List ℕ → List ℕ → List ℕ
or_text [] other = other
or_text (byte ∷ text) other = byte ∷ text

-- the names of packages
abbrev pub package_names : List (List FileUnit) → List (List ℕ)
package_names files = map (λ unit. joined unit.name) (packages_of files)

-- the nearest of some names to a name; or else those that are nearest to what stands before its last `::`
abbrev pub near_either : List ℕ → List (List ℕ) → List ℕ
near_either name names = or_text (near_text [] name names) (near_text [] (package_part name) names)

-- the packages of some files that are so
abbrev pub near_packages : List ℕ → List (List FileUnit) → List ℕ
near_packages name files = near_either name (package_names files)

-- the nearest of some names that do not have this one
abbrev pub near_others : List ℕ → List (List ℕ) → List ℕ
near_others name names = if list_any (λ other. is_same_text other name) names then [] else near_text [] name names

-- the classifiers of some files that are nearest to a name, where none of them has it
abbrev pub near_classifiers : List ℕ → List (List FileUnit) → List ℕ
near_classifiers name files = near_others name (names_in (is_packaged name) files)

-- the texts in which a classifier of a name is looked for that stands in the file of a number: all of the model where it has a package
-- before it, and else that file
abbrev pub texts_for : Request → List (List ℕ) → ℕ → List ℕ → List (List ℕ)
texts_for asked texts file name = if is_packaged name then model_texts asked texts else take 1 (drop file texts)

-- ---- what is told of them

-- The text is what is told of a value that passes a phase, or empty where the phase stops.
abbrev pub IsToldOf : {A : Type 0} → Phase A → (A → List ℕ) → List ℕ → Type 0
IsToldOf {A} phase tell text = ((value : A) × Passes phase value × (text ≡ tell value)) ⊎ ((status : Status) × Stops phase status × (text ≡ []))

-- The text has the names that are nearest to the word that a refusal of this code is about.
abbrev pub IsNearOf : List (List ℕ) → Request → List (List ℕ) → Code → List ℕ → Type 0
IsNearOf call asked texts UnknownPackage near = IsToldOf (units_read (model_texts asked texts)) (near_roots call) near
IsNearOf call asked texts UnknownClassifier near = IsToldOf (units_read (model_texts asked texts)) (near_roots call) near
IsNearOf call asked texts UnknownTarget near = IsToldOf (model_read (profile_of asked.options.form) asked.root (model_texts asked texts)) (near_facts asked.target) near
IsNearOf call asked texts BadToken near = IsToldOf (model_read (profile_of asked.options.form) asked.root (model_texts asked texts)) (near_events (token_of asked.options)) near
IsNearOf call asked texts _ near = near ≡ []

-- The same of a refusal at a byte of a file, where this name stands.
abbrev pub IsNearAt : Request → List (List ℕ) → Code → ℕ → List ℕ → List ℕ → Type 0
IsNearAt asked texts UnknownPackage file name near = IsToldOf (units_read (model_texts asked texts)) (near_packages name) near
IsNearAt asked texts UnknownClassifier file name near = IsToldOf (units_read (texts_for asked texts file name)) (near_classifiers name) near
IsNearAt asked texts _ file name near = near ≡ []

-- The same of a refusal of a place.
abbrev pub IsNear : List (List ℕ) → Request → List (List ℕ) → Code → Place → List ℕ → Type 0
IsNear call asked texts code Words near = IsNearOf call asked texts code near
IsNear call asked texts code (Whole file) near = near ≡ []
IsNear call asked texts code (At file at) near = IsNearAt asked texts code file (name_at (get_or texts file []) at) near

-- ---- the text

-- the name of a code, in lower case
abbrev pub code_name : Code → List ℕ
code_name code = folded (before_sign 32 (code_text code))

-- The text says where a refusal of a call is, which names are near, and what to write instead.
pub record TellsRefusal (names call files texts : List (List ℕ)) (refusal : Refusal) (text : List ℕ) : Type 0 where
  pub asked : Request
  pub is_request : IsRequest names call asked
  pub near : List ℕ
  pub near_is : IsNear call asked texts refusal.code refusal.place near
  pub text_is : text ≡ place_in call asked.options files texts refusal.code refusal.place ++ (near ++ (codes "\n" ++ explain_text (code_name refusal.code)))

-- what is said of a constant target
abbrev pub constant_words : Bool → List ℕ
constant_words true = codes "\nThe target holds without any event: no set of events is needed, and it has no tree.\n"
constant_words false = codes "\nThe target does not hold even under all events: no set of events brings it about, and it has no tree.\n"

-- The text says why a call ended so: what stands behind the line of the status.
abbrev pub TellsMore : List (List ℕ) → List (List ℕ) → List (List ℕ) → List (List ℕ) → Status → List ℕ → Type 0
TellsMore names call files texts Usage text = text ≡ places_text call ++ usage_text call
TellsMore names call files texts (Refused refusal) text = TellsRefusal names call files texts refusal text
TellsMore names call files texts (Constant always) text = text ≡ constant_words always
TellsMore names call files texts (StaleToken token input) text = text ≡ codes "\n" ++ explain_text (codes "k2")
TellsMore names call files texts (Unrated event) text = text ≡ codes "\n" ++ explain_text (codes "r1")
TellsMore names call files texts _ text = text ≡ codes "not refused\n"

-- the line of a status with which a call is refused
abbrev pub line_before : List (List ℕ) → List (List ℕ) → Status → List ℕ
line_before files names Done = []
line_before files names WriteFault = []
line_before files names status = status_line files names status

-- The text explains how a call ended: the line of the status, and what is said of it.
abbrev pub IsExplanation : List (List ℕ) → List (List ℕ) → List (List ℕ) → List (List ℕ) → Status → List ℕ → Type 0
IsExplanation names call files texts status text = (more : List ℕ) × TellsMore names call files texts status more × (text ≡ line_before files names status ++ more)

-- The same of the text of an output.
abbrev pub ExplainsEnd : List (List ℕ) → List (List ℕ) → List (List ℕ) → List (List ℕ) → Status → Output → Type 0
ExplainsEnd names call files texts status output = IsExplanation names call files texts status output.text
