-- What is due: from the bytes of the words and of the files to the text of a command, or to the status with which it ends.
use Rattle.std.specs.Prelude.{ℕ, Bool, true, false, List, [], ◌∷◌, ◌++◌, length, codes, slice_index_or, drop, take, Option, None, Some}
use Rattle.plain_values.specs.declared.name.Root.{Root}
use Rattle.aadl_syntax.specs.declared.core_model.Unit.{Unit as FileUnit}
use Rattle.phases.specs.Phases.{Phase, yields, accepts, tests, answers, rejects, computes, finds, ◌>>=◌}
use Rattle.phases.specs.declared.status.Status.TheVariants.{Usage}
use Rattle.package_index.specs.Lookup.{packages_of}
use Rattle.fault_system.specs.Listings.{IsListing}
use Rattle.cutset_writer.specs.Text.{listing_page}
use Rattle.cutset_writer.specs.declared.form.SetForm.TheVariants.{Token}
use Rattle.page_tokens.specs.Keys.{asked_digits, root_text}
use Rattle.file_digests.specs.Digests.{digest_lines}
use Rattle.model_maker.specs.Text.{text_of as made_text}
use Rattle.text_places.specs.Places.{place_text}
use Rattle.help_texts.specs.Texts.{explain_text, help_text, version_text}
use Rattle.fmea_rows.specs.Rows.{rows_of}
use Rattle.fmea_rows.specs.Text.{table_text}
use Rattle.fta_run.specs.Forms.{drawn_words, is_drawn, is_exchanged, is_merging, is_wide, picture_legend, profile_of, tree_form, tree_words}
use Rattle.fta_words.specs.declared.command.Form.{Form}
use Rattle.fta_words.specs.declared.command.Options.{Options}
use Rattle.fta_words.specs.declared.command.Paging.{Paging}
use Rattle.model_facts.specs.Assembly.{Assembly}
use Rattle.profiles.specs.declared.profile.Profile.{Profile}
use Rattle.profiles.specs.declared.profile.Profile.TheVariants.{First, Second}
use Rattle.model_phases.specs.Phases.{assembled, flat_phase, origins_phase, review_phase}
use Rattle.model_phases.specs.declared.events.EventModel.{EventModel}
use Rattle.event_lines.specs.Text.{events_text as text_of_events}
use Rattle.sheet_model.specs.Phase.{sheet_phase}
use Rattle.fmea_sheet.specs.Text.{sheet_text}
use Rattle.finding_lines.specs.Text.{review_text}
use Rattle.model_phases.specs.declared.flat.FlatModel.{FlatModel}
use Rattle.fta_words.specs.declared.kind.Kind.TheVariants as kind
use Rattle.fta_run.specs.Words.{Kind, Request, IsRequest, is_set}
use Rattle.target_orders.specs.Text.{TellsOrders}
use Rattle.fta_run.specs.Effects.{asked_effects, asked_targets}
use Rattle.fta_run.specs.Groups.{TellsRefusals}
use Rattle.fta_run.specs.Compared.{compared_text}
use Rattle.fta_run.specs.Later.{in_later_files}
use Rattle.fta_run.specs.Files.{MayContain, NamesTooMany, HasTooLong, HasTooMuch, AreTokens, LacksTokens, AreUnits, LacksUnits}
use Rattle.fta_run.specs.Model.{HasDuplicate, root_named}
use Rattle.fta_run.specs.Sets.{set_asked}
use Rattle.fta_run.specs.Required.{Output, required_lines, required_text, with_all_met}
use Rattle.fta_run.specs.Text.{numbers_text}
use Rattle.system_answers.specs.Derivations.{confirm_text, why_text}
use Rattle.system_answers.specs.Texts.{cuts_text, drawn_text, galileo_paths_text, galileo_probability_text, galileo_text, paths_text, probability_text, report_text, slice_of, target_of, tree_text}
use Rattle.system_answers.specs.Voices.{Voice, labels}

-- these texts, where none is too long, and they are not too long together
abbrev pub within_limits : List (List ℕ) → Phase (List (List ℕ))
within_limits texts = do
  _ ← tests (HasTooLong texts)
  _ ← tests (HasTooMuch texts)
  yields texts

-- the texts of the files, which are not too many, none too long, and not too long together
abbrev pub texts_of : (List ℕ → Option (List ℕ)) → List (List ℕ) → Phase (List (List ℕ))
texts_of contents files = do
  _ ← tests (NamesTooMany files)
  texts ← accepts (MayContain contents files)
  within_limits texts

-- the first name of files
abbrev pub first_name : List (List ℕ) → List ℕ
first_name files = slice_index_or files 0 []

-- the text of the first file
abbrev pub first_text : List (List ℕ) → List ℕ
first_text texts = slice_index_or texts 0 []

-- the texts of the other files
abbrev pub other_texts : List (List ℕ) → List (List ℕ)
other_texts texts = drop 1 texts

-- the units of the files of these texts: what the tokens of each read as
abbrev pub units_of : List (List ℕ) → Phase (List (List FileUnit))
units_of texts = do
  tokens ← answers (AreTokens texts) (LacksTokens texts)
  rejects (AreUnits tokens) (LacksUnits texts tokens)

-- what a further phase makes of the model of the root in these files, read by a profile: nothing is declared again in them, the root
-- names a classifier, and its model is right
abbrev pub made_of_units : {A : Type 0} → (Assembly → Phase A) → Profile → Root → List (List FileUnit) → Phase A
made_of_units next profile root files = do
  _ ← tests (HasDuplicate files)
  id ← computes (root_named files root)
  assembled next profile (packages_of files) id

-- the same of files of these texts
abbrev pub made_of_texts : {A : Type 0} → (Assembly → Phase A) → Profile → Root → List (List ℕ) → Phase A
made_of_texts next profile root texts = do
  files ← units_of texts
  made_of_units next profile root files

-- the model of the root in files of these texts, read by a profile, as a system
abbrev pub model_of_texts : Profile → Root → List (List ℕ) → Phase FlatModel
model_of_texts profile root texts = made_of_texts flat_phase profile root texts

-- the text of `check`: the numbers of components, of facts and of events
abbrev pub check_text : FlatModel → Phase (List ℕ)
check_text model = yields (numbers_text model.components (length model.system.facts) (length model.system.events))

-- the text of `fmea`: the rows of the effects of the root, or of all components
abbrev pub fmea_text : Bool → FlatModel → Phase (List ℕ)
fmea_text all model = yields (table_text model.system model.rates (rows_of model.system (asked_effects all model)))

-- the text of `targets`: what it takes to make each effect of the root hold, or each fact
abbrev pub targets_text : Bool → FlatModel → Phase (List ℕ)
targets_text all model = accepts (TellsOrders model.system (asked_targets all model))

-- the text of `events`: each event with its kind, its rate, and where it is declared in files of these names
abbrev pub events_text : List (List ℕ) → EventModel → Phase (List ℕ)
events_text files model = yields (text_of_events files model)

-- the root, the target and the page of a model that is made
abbrev pub made_root : Root
made_root = record { names = codes "gen" ∷ codes "s" ∷ []; item = Some (codes "i") }

abbrev pub made_target : List ℕ
made_target = codes "root/state:bad"

abbrev pub made_paging : Paging
made_paging = record { limit = Some 3; after = None; max_order = None }

-- the numbers of a model, and the page of a target's listing
abbrev pub sized_page : ℕ → FlatModel → Phase (List ℕ)
sized_page number model = do
  sets ← accepts (IsListing model.system number made_paging.max_order)
  yields (numbers_text model.components (length model.system.facts) (length model.system.events) ++ listing_page Token model.system None made_paging.limit sets)

-- what is said of a model that is made: what `check` writes of it, and then what `cuts` writes of its target
abbrev pub sized_text : FlatModel → Phase (List ℕ)
sized_text model = do
  number ← target_of made_target model.system
  _ ← slice_of number model.system
  sized_page number model

-- what is said of the model in a file with this text
abbrev pub made_model_text : List ℕ → Phase (List ℕ)
made_model_text text = do
  texts ← within_limits (text ∷ [])
  model ← model_of_texts First made_root texts
  sized_text model

-- the text of `make`: what is said of the model that is made of a number, as of a file with its text; or its text
abbrev pub make_text : ℕ → Bool → Phase (List ℕ)
make_text number true = yields (made_text number)
make_text number false = made_model_text (made_text number)

-- the text of `galileo`: the minimal path sets of the tree in a text, or its minimal cut sets
abbrev pub sets_of_tree : Bool → Bool → Option ℕ → Option ℕ → List ℕ → Phase (List ℕ)
sets_of_tree true wide limit max_order text = galileo_paths_text wide limit max_order text
sets_of_tree false wide limit max_order text = galileo_text wide limit max_order text

-- the text of `galileo` of a text, but for a picture: how probable the top of its tree is, or sets
abbrev pub told_of_tree : Bool → Options → List ℕ → Phase (List ℕ)
told_of_tree true options text = galileo_probability_text (is_wide options.form) options.hours (is_set options (codes "events")) options.paging.max_order text
told_of_tree false options text = sets_of_tree (is_set options (codes "paths")) (is_wide options.form) options.paging.limit options.paging.max_order text

-- the text of `galileo` of the first of these texts: the tree in a format, or what is told of it
abbrev pub galileo_in : Bool → Options → List (List ℕ) → List (List ℕ) → Phase (List ℕ)
galileo_in true options files texts = drawn_text (is_wide options.form) (is_exchanged options.form) (is_merging options.form) (picture_legend (drawn_words (is_merging options.form)) files texts) (first_text texts)
galileo_in false options files texts = told_of_tree (is_set options (codes "probability")) options (first_text texts)

-- the text of `cuts` for the model of the root in files of these texts, with the digits of the key of what it is asked of, where they
-- are asked for
abbrev pub cuts_in : Profile → Root → List ℕ → Paging → Bool → List (List ℕ) → Phase (List ℕ)
cuts_in profile root target paging tokens texts = do
  model ← model_of_texts profile root texts
  cuts_text target paging tokens (asked_digits tokens paging.after profile root target paging.max_order texts) model.system

-- the text of `confirm`: of the derivation in the first of these texts, for the model of the root in the files of the others
abbrev pub confirmed_in : Profile → Root → List ℕ → List ℕ → List (List ℕ) → Phase (List ℕ)
confirmed_in profile root target set texts = do
  model ← in_later_files 1 (model_of_texts profile root (other_texts texts))
  confirm_text target (set_asked profile set model.system) (first_text texts) model.system

-- the text of `place`: where a byte stands in the first of these texts, which is that of the first of these files
abbrev pub place_in : List (List ℕ) → ℕ → List (List ℕ) → Phase (List ℕ)
place_in files byte texts = yields (place_text (first_name files) (first_text texts) byte)

-- ---- the texts of commands in files of these texts

abbrev pub check_in : Profile → Root → List (List ℕ) → Phase (List ℕ)
check_in profile root texts = do
  model ← model_of_texts profile root texts
  check_text model

abbrev pub tree_in : Profile → Root → List ℕ → Form → List (List ℕ) → List (List ℕ) → Phase (List ℕ)
tree_in profile root target form files texts = do
  model ← model_of_texts profile root texts
  tree_text target (tree_form form (tree_words profile root target) files texts) model.system model.rates

abbrev pub table_in : Profile → Root → Bool → List (List ℕ) → Phase (List ℕ)
table_in profile root all texts = do
  model ← model_of_texts profile root texts
  fmea_text all model

abbrev pub sheet_in : Profile → Root → List (List ℕ) → List (List ℕ) → Phase (List ℕ)
sheet_in profile root files texts = do
  model ← made_of_texts sheet_phase profile root texts
  yields (sheet_text files texts model)

-- what `fmea` writes: the sheet, where it is asked for, or else the table
abbrev pub fmea_in : Bool → Profile → Root → Bool → List (List ℕ) → List (List ℕ) → Phase (List ℕ)
fmea_in true profile root all files texts = sheet_in profile root files texts
fmea_in false profile root all files texts = table_in profile root all texts

abbrev pub report_in : Profile → Root → List ℕ → List ℕ → Option ℕ → List Voice → List (List ℕ) → Phase (List ℕ)
report_in profile root target chosen max_order voices texts = do
  model ← model_of_texts profile root texts
  report_text target chosen max_order voices model.system

abbrev pub paths_in : Profile → Root → List ℕ → Paging → List (List ℕ) → Phase (List ℕ)
paths_in profile root target paging texts = do
  model ← model_of_texts profile root texts
  paths_text target paging model.system

abbrev pub why_in : Profile → Root → List ℕ → List ℕ → List (List ℕ) → Phase (List ℕ)
why_in profile root target set texts = do
  model ← model_of_texts profile root texts
  why_text target (set_asked profile set model.system) model.system

abbrev pub targets_in : Profile → Root → Bool → List (List ℕ) → Phase (List ℕ)
targets_in profile root all texts = do
  model ← model_of_texts profile root texts
  targets_text all model

abbrev pub events_in : Profile → Root → List (List ℕ) → List (List ℕ) → Phase (List ℕ)
events_in profile root files texts = do
  model ← made_of_texts origins_phase profile root texts
  events_text files model

abbrev pub review_in : Profile → Root → List (List ℕ) → List (List ℕ) → Phase (List ℕ)
review_in profile root files texts = do
  reviewed ← made_of_texts review_phase profile root texts
  yields (review_text files texts reviewed.lines)

abbrev pub probability_in : Profile → Root → List ℕ → Option (List ℕ) → Bool → Option ℕ → List (List ℕ) → Phase (List ℕ)
probability_in profile root target hours asked max_order texts = do
  model ← model_of_texts profile root texts
  probability_text target hours asked max_order model.system model.rates

-- the line of a root
abbrev pub root_line : Root → List ℕ
root_line root = codes "root " ++ (root_text root ++ codes "\n")

-- the line of a profile that is not the first
abbrev pub profile_line : Profile → List ℕ
profile_line First = []
profile_line Second = codes "by profile 2\n"

-- the text of `manifest`: the version of the program, the root, the profile where it is not the first, what `check` writes, and the digests of the files
abbrev pub manifest_text : Profile → Root → List (List ℕ) → List (List ℕ) → FlatModel → List ℕ
manifest_text profile root files texts model =
    version_text ++ (root_line root ++ (profile_line profile ++ (numbers_text model.components (length model.system.facts) (length model.system.events) ++ digest_lines files texts)))

abbrev pub manifest_in : Profile → Root → List (List ℕ) → List (List ℕ) → Phase (List ℕ)
manifest_in profile root files texts = do
  model ← model_of_texts profile root texts
  yields (manifest_text profile root files texts model)

-- the text of `refusals`
abbrev pub refusals_in : Profile → Root → List (List ℕ) → List (List ℕ) → Phase (List ℕ)
refusals_in profile root files texts = accepts (TellsRefusals (model_of_texts profile root texts) (units_of texts) profile root files texts)

-- what is told of the requirements in the first of these texts, over the model of the root in files of the others
abbrev pub required_in : Profile → Root → Bool → List (List ℕ) → Phase Output
required_in profile root tap texts = do
  model ← in_later_files 1 (model_of_texts profile root (other_texts texts))
  required_text tap (first_text texts) model.system model.rates

-- the text of `require`
abbrev pub require_in : Profile → Root → Bool → List (List ℕ) → Phase (List ℕ)
require_in profile root tap texts = do
  model ← in_later_files 1 (model_of_texts profile root (other_texts texts))
  required_lines tap (first_text texts) model.system model.rates

-- the text of `compare`: what changed from the model of the root in files of the first of these texts, of which there are so many, to that in
-- files of the others
abbrev pub compared_in : Profile → Root → List ℕ → ℕ → Option ℕ → List (List ℕ) → Phase (List ℕ)
compared_in profile root target count max_order texts = do
  older ← model_of_texts profile root (take count texts)
  newer ← in_later_files count (model_of_texts profile root (drop count texts))
  compared_text target max_order older.system newer.system

-- the text of a command, asked with this request, in files of these texts, read by a profile, where these are the reports
abbrev pub text_by : Profile → Kind → List Voice → Request → List (List ℕ) → Phase (List ℕ)
text_by profile kind.Check voices asked texts = check_in profile asked.root texts
text_by profile kind.Cuts voices asked texts = cuts_in profile asked.root asked.target asked.options.paging (is_set asked.options (codes "tokens")) texts
text_by profile kind.Tree voices asked texts = tree_in profile asked.root asked.target asked.options.form asked.files texts
text_by profile kind.Fmea voices asked texts = fmea_in (is_set asked.options (codes "sheet")) profile asked.root (is_set asked.options (codes "all")) asked.files texts
text_by profile kind.Report voices asked texts = report_in profile asked.root asked.target asked.options.chosen asked.options.paging.max_order voices texts
text_by profile kind.Make voices asked texts = make_text asked.number (is_set asked.options (codes "text"))
text_by profile kind.Galileo voices asked texts = galileo_in (is_drawn asked.options.form) asked.options asked.files texts
text_by profile kind.Paths voices asked texts = paths_in profile asked.root asked.target asked.options.paging texts
text_by profile kind.Why voices asked texts = why_in profile asked.root asked.target asked.options.set texts
text_by profile kind.Confirm voices asked texts = confirmed_in profile asked.root asked.target asked.options.set texts
text_by profile kind.Targets voices asked texts = targets_in profile asked.root (is_set asked.options (codes "all")) texts
text_by profile kind.Events voices asked texts = events_in profile asked.root asked.files texts
text_by profile kind.Review voices asked texts = review_in profile asked.root asked.files texts
text_by profile kind.Place voices asked texts = place_in asked.files asked.number texts
text_by profile kind.Manifest voices asked texts = manifest_in profile asked.root asked.files texts
text_by profile kind.Refusals voices asked texts = refusals_in profile asked.root asked.files texts
text_by profile kind.Probability voices asked texts = probability_in profile asked.root asked.target asked.options.hours (is_set asked.options (codes "events")) asked.options.paging.max_order texts
text_by profile kind.Require voices asked texts = require_in profile asked.root (is_set asked.options (codes "tap")) texts
text_by profile kind.Compare voices asked texts = compared_in profile asked.root asked.target asked.number asked.options.paging.max_order texts
text_by profile kind.Explain voices asked texts = yields (explain_text asked.target)
text_by profile kind.Help voices asked texts = yields (help_text asked.of)
text_by profile kind.Version voices asked texts = yields version_text

-- ---- what is due

-- whether a command tells of requirements
abbrev pub is_require : Kind → Bool
is_require kind.Require = true
is_require _ = false

-- what a command writes, and whether it tells of no requirement that is not met: all but `require` tell of none
abbrev pub output_with : Bool → Profile → Kind → List Voice → Request → List (List ℕ) → Phase Output
output_with true profile kind voices asked texts = required_in profile asked.root (is_set asked.options (codes "tap")) texts
output_with false profile kind voices asked texts = with_all_met (text_by profile kind voices asked texts)

abbrev pub output_for : Kind → List Voice → Request → List (List ℕ) → Phase Output
output_for kind voices asked texts = output_with (is_require kind) (profile_of asked.options.form) kind voices asked texts

-- what a request writes, where this is what the files contain, and these are the reports
abbrev pub request_output : (List ℕ → Option (List ℕ)) → List Voice → Request → Phase Output
request_output contents voices asked = do
  texts ← texts_of contents asked.files
  output_for asked.kind voices asked texts

-- what the request that the words give writes
abbrev pub due : List (List ℕ) → (List ℕ → Option (List ℕ)) → List Voice → Phase Output
due words contents voices = do
  asked ← finds (IsRequest (labels voices) words) Usage
  request_output contents voices asked
