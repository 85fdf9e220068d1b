-- How a run ended, and what is due.
use Rattle.std.proofs.Common.{◌≡◌, ◌∙◌, ◌<◌, ◌⊎◌, ℕ, Bool, true, false, List, [], ◌∷◌, length, take, drop, Option, None, Some, Result, Ok, Err, refl, sym, ap, subst, inl, inr, codes}
use Rattle.std.specs.Prelude.{IfOk, IsErrAnd, IsOk, IsOkAnd, MatchResult}
use Rattle.std.proofs.lemmas.Bool.{false≢true}
use Rattle.std.proofs.lemmas.Result.{err_from_is_err_and}
use Rattle.plain_values.specs.declared.refusal.Code.TheVariants.{TooManyFiles}
use Rattle.plain_values.specs.declared.refusal.Refusal.{Refusal}
use Rattle.plain_values.specs.Order.{IsFirst}
use Rattle.plain_values.specs.declared.name.Root.{Root}
use Rattle.phases.specs.Phases.{Phase, Passes, Stops, yields, tells, chains, finds, IsDue, IsRefusal}
use Rattle.fta_run.specs.inner.OneEnd.{IsLikeEnd}
use Rattle.phases.specs.declared.status.Status.{Status}
use Rattle.phases.specs.declared.status.Status.TheVariants.{Done, Unmet, Usage, Refused, Constant, Unrated, StaleToken, ReadFault, WriteFault, ReportFault, Memory}
use Rattle.phases.proofs.Endings.{StopsOnly, stops_only}
use Rattle.fault_system.specs.Systems.{System, event_name}
use Rattle.fault_system.specs.Truth.{set_of}
use Rattle.package_index.specs.Lookup.{packages_of}
use Rattle.model_phases.proofs.Decided.{IsARefusal, assembled_stops, model_stops, origins_stop, review_stop}
use Rattle.profiles.specs.declared.profile.Profile.{Profile}
use Rattle.profiles.specs.declared.profile.Profile.TheVariants.{First}
use Rattle.model_phases.specs.Phases.{assembled, flat_phase, origins_phase, review_phase}
use Rattle.sheet_model.specs.Phase.{sheet_phase}
use Rattle.model_facts.specs.Assembly.{Assembly}
use Rattle.aadl_syntax.specs.declared.core_model.PackageUnit.{PackageUnit}
use Rattle.package_index.specs.declared.id.ClassifierId.{ClassifierId}
use Rattle.model_phases.specs.declared.flat.FlatModel.{FlatModel}
use Rattle.backward_slice.specs.Slices.{HasLargeSlice}
use Rattle.property_reader.specs.declared.rate.Rate.{Rate}
use Rattle.fta_words.specs.declared.kind.Kind.TheVariants as kind
use Rattle.fta_run.specs.Words.{Kind, Request, GiveRequest, GiveNoRequest, IsRequest, file_words, is_set}
use Rattle.fta_run.specs.Files.{HasTooLong, HasTooMuch, LacksTokens, LacksUnits, NamesTooMany, most_files}
use Rattle.plain_values.specs.Refusal.{of_words}
use Rattle.fta_words.specs.declared.command.Paging.{Paging}
use Rattle.fta_run.specs.Model.{HasDuplicate, root_named}
use Rattle.system_answers.specs.Targets.{LacksStart, LacksTarget}
use Rattle.galileo_reader.specs.TreeSystems.{system_of, target_of as top_of_tree}
use Rattle.system_answers.specs.Galileo.{LacksNamedTree}
use Rattle.system_answers.specs.Derivations.{IsNotGood, LacksSteps, LacksWhy, confirm_text, why_text}
use Rattle.system_answers.specs.Texts.{begin_of, cuts_text, drawn_form, drawn_rates, formed_tree, galileo_paths_text, galileo_probability_text, galileo_text, paths_text, probability_text, report_text, tree_text}
use Rattle.path_sets.specs.Duals.{dual_of}
use Rattle.page_tokens.specs.Forms.{IsMalformed}
use Rattle.page_tokens.specs.Keys.{asked_digits}
use Rattle.page_tokens.specs.Starts.{IsStale, LacksStart as LacksBegin}
use Rattle.path_sets.specs.PathSets.{HasLargePaths}
use Rattle.system_answers.specs.inner.Ends.{EndsReports}
use Rattle.fta_run.specs.Compared.{compared_text}
use Rattle.fta_run.specs.Sets.{set_asked}
use Rattle.fta_run.specs.Due.{compared_in, confirmed_in, cuts_in, due, first_text, fmea_in, galileo_in, is_require, made_of_texts, made_root, made_target, make_text, model_of_texts, other_texts, output_for, output_with, report_in, require_in, required_in, sets_of_tree, sized_text, text_by, told_of_tree, texts_of, within_limits}
use Rattle.fta_run.specs.inner.Texts.{request_text, text_due, text_for}
use Rattle.fta_run.specs.Required.{Output, TellsLines, with_all_met}
use Rattle.fta_run.specs.Forms.{drawn_words, is_drawn, is_exchanged, is_merging, is_wide, picture_legend, profile_of, tree_form, tree_words}
use Rattle.fta_words.specs.declared.command.Options.{Options}
use Rattle.fta_run.specs.Later.{IsLater}
use Rattle.system_answers.specs.declared.form.TreeForm.{TreeForm}
use Rattle.system_answers.specs.Voices.{Voice, labels}
use Rattle.model_maker.specs.Text.{text_of as made_text}
use Rattle.cut_reports.specs.Places.{AtChosen}
use Rattle.fta_run.specs.Answers.{AllTold, AnswersWords, AskForSets, BeginsWithMemory, IsCaused, IsJustified, IsManyAnswer, IsOutput, IsSameStatus, MayCome, Took, is_by_lines}
use Rattle.fta_run.specs.inner.Held.{IsReadEnd}
use Rattle.fta_run.specs.inner.Steps.{AsksLines, IsExcused, Runs, ended}
use Rattle.fta_words.proofs.Requests.{file_words_are, one_request}
use Rattle.fta_outside.specs.Outside.{Rose, Seen, TookPrefix}
use Rattle.fta_outside.specs.inner.Outside.{LacksMemory}
use Rattle.fta_outside.specs.declared.error.WriteError.{WriteError}
use Rattle.fta_outside.specs.declared.error.WriteError.TheVariants.{Failed, Memory as Lacks}
use Rattle.phases.specs.inner.Meets.{IsMemory, MeetsBut}
use Rattle.phases.specs.inner.Stopped.{status_of_write}
use Rattle.phases.proofs.Steps.{◌passes◌, ◌beyond◌, ends}
use Rattle.fta_run.specs.declared.ready.Answer.{Answer}
use Rattle.fta_run.specs.declared.ready.Held.{Held}
use Rattle.fta_run.specs.declared.ready.Ready.{Ready}
use Rattle.fta_run.specs.declared.ready.Ready.TheVariants as made
use Rattle.fta_run.specs.inner.Ready.{IsByLines, answer_output, held_text, ready_text}
use Rattle.fta_run.proofs.OneDue.{due_stop, due_text, one_end, same_met, text_or_not}
use Rattle.fta_run.proofs.RequiredLaws.{required-stops}

-- ---- how the phases stop

refusal_is : (Cause : Refusal → Type 0) (s : Status) → IsRefusal Cause s → IsARefusal s
refusal_is Cause s is = (is.0, is.2)

-- The status is a refusal, or that a target is constant, or a token stale, or an event without a rate.
abbrev IsAnEnd : Status → Type 0
IsAnEnd status =
    IsARefusal status
    ⊎ (((always : Bool) × (status ≡ Constant always))
    ⊎ (((token : List ℕ) × (input : List ℕ) × (status ≡ StaleToken token input)) ⊎ ((event : List ℕ) × (status ≡ Unrated event))))

-- what stops with refusals alone does so with these
refusals : {A : Type 0} (phase : Phase A) → StopsOnly IsARefusal phase → StopsOnly IsAnEnd phase
refusals (yields x) only = tt
refusals (tells Is Ends) only = λ status ends. inl (only status ends)
refusals (chains {A = A} first later) only = (refusals first only.0, λ x passed. refusals (later x) (only.1 x passed))

stale_is : (key : List ℕ) (digits : Option (List ℕ)) (s : Status) → IsStale key digits s → (token : List ℕ) × (input : List ℕ) × (s ≡ StaleToken token input)
stale_is key None s stale = absurd stale
stale_is key (Some digits) s stale = (digits, key, stale.1)

begin_stop : (key : List ℕ) (after : Option (List ℕ)) (system : System) → StopsOnly IsAnEnd (begin_of key after system)
begin_stop key None system = tt
begin_stop key (Some text) system = (
  (λ s is. inl (refusal_is (IsMalformed text) s is)),
  λ said says. ((λ s stale. inr (inr (inl (stale_is key said.digits s stale)))), λ _ fresh. (λ s is. inl (refusal_is (LacksBegin system said) s is))),
)

cuts_stop : (target : List ℕ) (paging : Paging) (tokens : Bool) (key : List ℕ) (system : System) → StopsOnly IsAnEnd (cuts_text target paging tokens key system)
cuts_stop target paging tokens key system = (
  (λ s is. inl (refusal_is (IsFirst (LacksTarget system target)) s is)),
  λ number named. (begin_stop key paging.after system, λ start begins. ((λ s is. inl (refusal_is (HasLargeSlice system number) s is)), λ slice served. ((λ s none. absurd none), λ sets are. tt))),
)

report_stop : (target chosen : List ℕ) (max_order : Option ℕ) (voices : List Voice) (system : System) → StopsOnly IsARefusal (report_text target chosen max_order voices system)
report_stop target chosen max_order voices system = (
  refusal_is (IsFirst (LacksTarget system target)),
  λ number named. (refusal_is (HasLargeSlice system number), λ slice served. ((λ s none. absurd none), λ sets are. tt)),
)

probability_stop : (target : List ℕ) (hours : Option (List ℕ)) (asked : Bool) (max_order : Option ℕ) (system : System) (rates : List Rate) → StopsOnly IsARefusal (probability_text target hours asked max_order system rates)
probability_stop target hours asked max_order system rates = (
  refusal_is (IsFirst (LacksTarget system target)),
  λ number named. (refusal_is (HasLargeSlice system number), λ slice served status none. absurd none),
)

galileo_stop : (wide : Bool) (limit max_order : Option ℕ) (text : List ℕ) → StopsOnly IsARefusal (galileo_text wide limit max_order text)
galileo_stop wide limit max_order text = (
  refusal_is (LacksNamedTree wide text),
  λ tree read. (refusal_is (HasLargeSlice (system_of tree) (top_of_tree tree tree.top)), λ slice served. ((λ s none. absurd none), λ sets are. tt)),
)

galileo_paths_stop : (wide : Bool) (limit max_order : Option ℕ) (text : List ℕ) → StopsOnly IsARefusal (galileo_paths_text wide limit max_order text)
galileo_paths_stop wide limit max_order text = (
  refusal_is (LacksNamedTree wide text),
  λ tree read. (
    refusal_is (HasLargeSlice (system_of tree) (top_of_tree tree tree.top)),
    λ slice served. (refusal_is (HasLargeSlice (dual_of (system_of tree)) (top_of_tree tree tree.top)), λ dual clear. ((λ s none. absurd none), λ sets are. tt)),
  ),
)

probable_stop : (wide : Bool) (hours : Option (List ℕ)) (asked : Bool) (max_order : Option ℕ) (text : List ℕ) → StopsOnly IsARefusal (galileo_probability_text wide hours asked max_order text)
probable_stop wide hours asked max_order text = (
  refusal_is (LacksNamedTree wide text),
  λ tree read. (refusal_is (HasLargeSlice (system_of tree) (top_of_tree tree tree.top)), λ slice served status none. absurd none),
)

sized_stop : (model : FlatModel) → StopsOnly IsARefusal (sized_text model)
sized_stop model = (
  refusal_is (IsFirst (LacksTarget model.system made_target)),
  λ number named. (refusal_is (HasLargeSlice model.system number), λ slice served. ((λ s none. absurd none), λ sets are. tt)),
)

paths_stop : (target : List ℕ) (paging : Paging) (system : System) → StopsOnly IsARefusal (paths_text target paging system)
paths_stop target paging system = (
  refusal_is (IsFirst (LacksTarget system target)),
  λ number named. (
    refusal_is (LacksStart system paging.after),
    λ start begins. (refusal_is (HasLargeSlice system number), λ slice served. (refusal_is (IsFirst (HasLargePaths system number)), λ _ clear. ((λ s none. absurd none), λ sets are. tt))),
  ),
)

formed_stop : (number : ℕ) (form : TreeForm) (system : System) (rates : List Rate) → StopsOnly IsAnEnd (formed_tree number form system rates)
formed_stop number form system rates = (
  (λ s lacks. elim lacks [ inl constant ↦ inr (inl (constant.0, constant.2)) | inr large ↦ inl (large.0, large.2) ]),
  λ tree is. ((λ s lacks. inr (inr (inr (event_name system lacks.0, lacks.2)))), λ _ rated. (λ s none. absurd none)),
)

tree_stop : (target : List ℕ) (form : TreeForm) (system : System) (rates : List Rate) → StopsOnly IsAnEnd (tree_text target form system rates)
tree_stop target form system rates = (
  (λ s is. inl (refusal_is (IsFirst (LacksTarget system target)) s is)),
  λ number named. ((λ s is. inl (refusal_is (HasLargeSlice system number) s is)), λ slice served. formed_stop number form system rates),
)

tree_sets_stop : (paths wide : Bool) (limit max_order : Option ℕ) (text : List ℕ) → StopsOnly IsARefusal (sets_of_tree paths wide limit max_order text)
tree_sets_stop true wide limit max_order text = galileo_paths_stop wide limit max_order text
tree_sets_stop false wide limit max_order text = galileo_stop wide limit max_order text

told_stop : (told : Bool) (options : Options) (text : List ℕ) → StopsOnly IsARefusal (told_of_tree told options text)
told_stop true options text = probable_stop (is_wide options.form) options.hours (is_set options (codes "events")) options.paging.max_order text
told_stop false options text = tree_sets_stop (is_set options (codes "paths")) (is_wide options.form) options.paging.limit options.paging.max_order text

galileo_in_stop : (drawn : Bool) (options : Options) (files texts : List (List ℕ)) → StopsOnly IsAnEnd (galileo_in drawn options files texts)
galileo_in_stop true options files texts = (
  (λ s is. inl (refusal_is (LacksNamedTree (is_wide options.form) (first_text texts)) s is)),
  λ tree read. (
    (λ s is. inl (refusal_is (HasLargeSlice (system_of tree) (top_of_tree tree tree.top)) s is)),
    λ slice served. formed_stop (top_of_tree tree tree.top) (drawn_form (is_exchanged options.form) (is_merging options.form) (picture_legend (drawn_words (is_merging options.form)) files texts)) (system_of tree) (drawn_rates (is_exchanged options.form) tree),
  ),
)
galileo_in_stop false options files texts =
    refusals (told_of_tree (is_set options (codes "probability")) options (first_text texts)) (told_stop (is_set options (codes "probability")) options (first_text texts))

why_stop : (target set : List ℕ) (system : System) → StopsOnly IsARefusal (why_text target set system)
why_stop target set system = (
  refusal_is (IsFirst (LacksTarget system target)),
  λ number named. (refusal_is (LacksStart system (Some set)), λ events has. (refusal_is (LacksWhy system (set_of events) number), λ steps why. tt)),
)

confirm_stop : (target set bytes : List ℕ) (system : System) → StopsOnly IsARefusal (confirm_text target set bytes system)
confirm_stop target set bytes system = (
  refusal_is (IsFirst (LacksTarget system target)),
  λ number named. (
    refusal_is (LacksStart system (Some set)),
    λ events has. (refusal_is (LacksSteps system (set_of events) bytes), λ steps read. (refusal_is (IsNotGood system number (set_of events) steps), λ _ good. tt)),
  ),
)

confirmed_stop : (profile : Profile) (root : Root) (target set : List ℕ) (texts : List (List ℕ)) → StopsOnly IsARefusal (confirmed_in profile root target set texts)
confirmed_stop profile root target set texts = (refusal_is (IsLater 1 (model_of_texts profile root (other_texts texts))), λ model at. confirm_stop target (set_asked profile set model.system) (first_text texts) model.system)

limits_stop : (texts : List (List ℕ)) → StopsOnly IsARefusal (within_limits texts)
limits_stop texts = (refusal_is (IsFirst (HasTooLong texts)), λ _ short. (refusal_is (IsFirst (HasTooMuch texts)), λ _ little. tt))

texts_stop : (contents : List ℕ → Option (List ℕ)) (files : List (List ℕ)) → StopsOnly IsARefusal (texts_of contents files)
texts_stop contents files = (refusal_is (IsFirst (NamesTooMany files)), λ _ few. ((λ s none. absurd none), λ texts are. limits_stop texts))

made_stops : {A : Type 0} (next : Assembly → Phase A) (profile : Profile) → ((packages : List PackageUnit) (id : ClassifierId) → StopsOnly IsARefusal (assembled next profile packages id)) → (root : Root) (texts : List (List ℕ)) → StopsOnly IsARefusal (made_of_texts next profile root texts)
made_stops next profile last root texts = (
  (refusal_is (IsFirst (LacksTokens texts)), λ tokens are. refusal_is (LacksUnits texts tokens)),
  λ files have. (
    refusal_is (IsFirst (HasDuplicate files)),
    λ _ clear. (refusal_is (λ refusal. root_named files root ≡ Err refusal), λ id named. last (packages_of files) id),
  ),
)

texts_model_stops : (profile : Profile) (root : Root) (texts : List (List ℕ)) → StopsOnly IsARefusal (model_of_texts profile root texts)
texts_model_stops profile = made_stops flat_phase profile (model_stops profile)

make_stop : (number : ℕ) (text : Bool) → StopsOnly IsARefusal (make_text number text)
make_stop number true = tt
make_stop number false = (limits_stop (made_text number ∷ []), λ texts short. (texts_model_stops First made_root texts, λ model at. sized_stop model))

cuts_in_stop : (profile : Profile) (root : Root) (target : List ℕ) (paging : Paging) (tokens : Bool) (texts : List (List ℕ)) → StopsOnly IsAnEnd (cuts_in profile root target paging tokens texts)
cuts_in_stop profile root target paging tokens texts =
    (refusals (model_of_texts profile root texts) (texts_model_stops profile root texts), λ model at. cuts_stop target paging tokens (asked_digits tokens paging.after profile root target paging.max_order texts) model.system)

require_stop : (profile : Profile) (root : Root) (tap : Bool) (texts : List (List ℕ)) → StopsOnly IsARefusal (require_in profile root tap texts)
require_stop profile root tap texts = (refusal_is (IsLater 1 (model_of_texts profile root (other_texts texts))), λ model at. required-stops model.system (TellsLines tap model.system model.rates) (first_text texts))

compared_text_stop : (target : List ℕ) (max_order : Option ℕ) (older newer : System) → StopsOnly IsARefusal (compared_text target max_order older newer)
compared_text_stop target max_order older newer = (
  refusal_is (IsFirst (LacksTarget older target)),
  λ before named. (
    refusal_is (IsFirst (LacksTarget newer target)),
    λ after named_too. (refusal_is (HasLargeSlice older before), λ slice served. (refusal_is (HasLargeSlice newer after), λ other served_too. (λ status none. absurd none))),
  ),
)

compared_stop : (profile : Profile) (root : Root) (target : List ℕ) (count : ℕ) (max_order : Option ℕ) (texts : List (List ℕ)) → StopsOnly IsARefusal (compared_in profile root target count max_order texts)
compared_stop profile root target count max_order texts = (
  texts_model_stops profile root (take count texts),
  λ older at. (refusal_is (IsLater count (model_of_texts profile root (drop count texts))), λ newer behind. compared_text_stop target max_order older.system newer.system),
)

sheet_stop : (profile : Profile) (packages : List PackageUnit) (root : ClassifierId) → StopsOnly IsARefusal (assembled sheet_phase profile packages root)
sheet_stop = assembled_stops sheet_phase (λ assembly. ((λ s none. absurd none, λ model at. tt), λ model at. tt))

fmea_stop : (sheet : Bool) (profile : Profile) (root : Root) (all : Bool) (files texts : List (List ℕ)) → StopsOnly IsAnEnd (fmea_in sheet profile root all files texts)
fmea_stop true profile root all files texts = (refusals (made_of_texts sheet_phase profile root texts) (made_stops sheet_phase profile (sheet_stop profile) root texts), λ model at. tt)
fmea_stop false profile root all files texts = (refusals (model_of_texts profile root texts) (texts_model_stops profile root texts), λ model at. tt)

text_stops : (profile : Profile) (asked_kind : Kind) (voices : List Voice) (asked : Request) (texts : List (List ℕ)) → StopsOnly IsAnEnd (text_by profile asked_kind voices asked texts)
text_stops profile kind.Check voices asked texts = (refusals (model_of_texts profile asked.root texts) (texts_model_stops profile asked.root texts), λ model at. tt)
text_stops profile kind.Cuts voices asked texts = cuts_in_stop profile asked.root asked.target asked.options.paging (is_set asked.options (codes "tokens")) texts
text_stops profile kind.Tree voices asked texts = (refusals (model_of_texts profile asked.root texts) (texts_model_stops profile asked.root texts), λ model at. tree_stop asked.target (tree_form asked.options.form (tree_words profile asked.root asked.target) asked.files texts) model.system model.rates)
text_stops profile kind.Fmea voices asked texts = fmea_stop (is_set asked.options (codes "sheet")) profile asked.root (is_set asked.options (codes "all")) asked.files texts
text_stops profile kind.Report voices asked texts = (
  refusals (model_of_texts profile asked.root texts) (texts_model_stops profile asked.root texts),
  λ model at.
      refusals (report_text asked.target asked.options.chosen asked.options.paging.max_order voices model.system) (report_stop asked.target asked.options.chosen asked.options.paging.max_order voices model.system),
)
text_stops profile kind.Make voices asked texts = refusals (make_text asked.number (is_set asked.options (codes "text"))) (make_stop asked.number (is_set asked.options (codes "text")))
text_stops profile kind.Galileo voices asked texts = galileo_in_stop (is_drawn asked.options.form) asked.options asked.files texts
text_stops profile kind.Paths voices asked texts =
    (refusals (model_of_texts profile asked.root texts) (texts_model_stops profile asked.root texts), λ model at. refusals (paths_text asked.target asked.options.paging model.system) (paths_stop asked.target asked.options.paging model.system))
text_stops profile kind.Why voices asked texts =
    (refusals (model_of_texts profile asked.root texts) (texts_model_stops profile asked.root texts), λ model at. refusals (why_text asked.target (set_asked profile asked.options.set model.system) model.system) (why_stop asked.target (set_asked profile asked.options.set model.system) model.system))
text_stops profile kind.Confirm voices asked texts = refusals (confirmed_in profile asked.root asked.target asked.options.set texts) (confirmed_stop profile asked.root asked.target asked.options.set texts)
text_stops profile kind.Targets voices asked texts = (refusals (model_of_texts profile asked.root texts) (texts_model_stops profile asked.root texts), λ model at status none. absurd none)
text_stops profile kind.Events voices asked texts = (refusals (made_of_texts origins_phase profile asked.root texts) (made_stops origins_phase profile (origins_stop profile) asked.root texts), λ model at. tt)
text_stops profile kind.Review voices asked texts = (refusals (made_of_texts review_phase profile asked.root texts) (made_stops review_phase profile (review_stop profile) asked.root texts), λ model at. tt)
text_stops profile kind.Place voices asked texts = tt
text_stops profile kind.Manifest voices asked texts = (refusals (model_of_texts profile asked.root texts) (texts_model_stops profile asked.root texts), λ model at. tt)
text_stops profile kind.Refusals voices asked texts = λ status none. absurd none
text_stops profile kind.Probability voices asked texts = (
  refusals (model_of_texts profile asked.root texts) (texts_model_stops profile asked.root texts),
  λ model at.
      refusals (probability_text asked.target asked.options.hours (is_set asked.options (codes "events")) asked.options.paging.max_order model.system model.rates)
      (probability_stop asked.target asked.options.hours (is_set asked.options (codes "events")) asked.options.paging.max_order model.system model.rates),
)
text_stops profile kind.Require voices asked texts = refusals (require_in profile asked.root (is_set asked.options (codes "tap")) texts) (require_stop profile asked.root (is_set asked.options (codes "tap")) texts)
text_stops profile kind.Compare voices asked texts =
    refusals (compared_in profile asked.root asked.target asked.number asked.options.paging.max_order texts) (compared_stop profile asked.root asked.target asked.number asked.options.paging.max_order texts)
text_stops profile kind.Help voices asked texts = tt
text_stops profile kind.Explain voices asked texts = tt
text_stops profile kind.Version voices asked texts = tt

request_stops : (contents : List ℕ → Option (List ℕ)) (voices : List Voice) (asked : Request) → StopsOnly IsAnEnd (request_text contents voices asked)
request_stops contents voices asked = (refusals (texts_of contents asked.files) (texts_stop contents asked.files), λ texts read. text_stops (profile_of asked.options.form) asked.kind voices asked texts)

-- Usage without a request; or there is one, and a refusal, a constant target, a stale token or an event without a rate
abbrev EndsSo : List (List ℕ) → List (List ℕ) → Status → Type 0
EndsSo names words status = ((status ≡ Usage) × GiveNoRequest names words) ⊎ (GiveRequest names words × IsAnEnd status)

kind_of : (words : List (List ℕ)) (contents : List ℕ → Option (List ℕ)) (voices : List Voice) (s : Status) → Stops (due words contents voices) s → EndsSo (labels voices) words s
kind_of words contents voices s stops =
    let its = due_stop words contents voices s stops in
    elim its.stopped [
      | inl none ↦ inl none
      | inr there ↦ inr ((there.0, there.1), stops_only IsAnEnd (request_text contents voices there.0) (request_stops contents voices there.0) s there.2)
    ]

-- ---- the words

words_of_kind : (names words : List (List ℕ)) (s : Status) → EndsSo names words s → AnswersWords s names words
words_of_kind names words s kind =
    elim kind [
      | inl none ↦ subst (λ x. AnswersWords x names words) (sym none.0) none.1
      | inr some ↦ elim some.1 [
        | inl refusal ↦ subst (λ x. AnswersWords x names words) (sym refusal.1) some.0
        | inr other ↦ elim other [
          | inl constant ↦ subst (λ x. AnswersWords x names words) (sym constant.1) some.0
          | inr last ↦ elim last [
            | inl stale ↦ subst (λ x. AnswersWords x names words) (sym stale.2) some.0
            | inr unrated ↦ subst (λ x. AnswersWords x names words) (sym unrated.1) some.0
          ]
        ]
      ]
    ]

-- how a run ended that wrote no text
abbrev Ended : List (List ℕ) → (List ℕ → Option (List ℕ)) → List Voice → Status → Type 0
Ended words contents voices s =
    Stops (due words contents voices) s
    ⊎ ((s ≡ Memory)
    ⊎ (((file : ℕ) × (s ≡ ReadFault file) × GiveRequest (labels voices) words)
    ⊎ (((s ≡ WriteFault) ⊎ ((place : ℕ) × (s ≡ ReportFault place))) × ((text : List ℕ) × Passes (text_due words contents voices) text))))

module _ (words : List (List ℕ)) (contents : List ℕ → Option (List ℕ)) (voices : List Voice) (read_before read_after : List ℕ → ℕ) (RoseThere : ℕ → Type 0) (t u : Seen) where
  how_ended : (s : Status) → Runs words contents voices read_before read_after RoseThere (Err s) t u → Ended words contents voices s
  how_ended s end =
      elim end [
        | inl quiet ↦ elim quiet.0 [
          | inl stops ↦ inl stops
          | inr excused ↦ elim excused [
            | inl memory ↦ inr (inl memory)
            | inr more ↦ elim more [
              | inl read ↦ elim read.0 [ inl memory ↦ inr (inl memory) | inr fault ↦ inr (inr (inl (fault.0, fault.1, read.1))) ]
              | inr report ↦ inr (inr (inr (inr (report.0.2.0, report.0.2.1), report.1)))
            ]
          ]
        ]
        | inr front ↦ elim front.1 [ inl failed ↦ inr (inr (inr (inl failed.0, (front.0.0, due_text words contents voices (record { text = front.0.0; met = front.0.1.0 }) front.0.1.1)))) | inr memory ↦ inr (inl memory.0) ]
      ]

  words_ended : (s : Status) → Ended words contents voices s → AnswersWords s (labels voices) words
  words_ended s end =
      elim end [
        | inl stops ↦ words_of_kind (labels voices) words s (kind_of words contents voices s stops)
        | inr other ↦ elim other [
          | inl memory ↦ subst (λ x. AnswersWords x (labels voices) words) (sym memory) tt
          | inr more ↦ elim more [
            | inl read ↦ subst (λ x. AnswersWords x (labels voices) words) (sym read.1) read.2
            | inr failed ↦ elim failed.0 [
              | inl write ↦ subst (λ x. AnswersWords x (labels voices) words) (sym write) (failed.1.1.passed.0, failed.1.1.passed.1)
              | inr report ↦ subst (λ x. AnswersWords x (labels voices) words) (sym report.1) (failed.1.1.passed.0, failed.1.1.passed.1)
            ]
          ]
        ]
      ]

  pub ran_words : (result : Result Bool Status) → Runs words contents voices read_before read_after RoseThere result t u → AnswersWords (ended result) (labels voices) words
  ran_words (Ok true) took = (took.1.passed.0, took.1.passed.1)
  ran_words (Ok false) took = (took.1.passed.0, took.1.passed.1)
  ran_words (Err s) end = words_ended s (how_ended s end)

  -- ---- the verdict

  justified : (s : Status) → Stops (due words contents voices) s → IsJustified words contents voices s
  justified Done stops = tt
  justified Unmet stops = tt
  justified Usage stops = tt
  justified (Refused refusal) stops = stops
  justified (Constant always) stops = stops
  justified (StaleToken token input) stops = stops
  justified (Unrated event) stops = stops
  justified (ReadFault file) stops = tt
  justified WriteFault stops = tt
  justified (ReportFault place) stops = tt
  justified Memory stops = tt

  verdict_ended : (s : Status) → Ended words contents voices s → IsJustified words contents voices s
  verdict_ended s end =
      elim end [
        | inl stops ↦ justified s stops
        | inr other ↦ elim other [
          | inl memory ↦ subst (IsJustified words contents voices) (sym memory) tt
          | inr more ↦ elim more [
            | inl read ↦ subst (IsJustified words contents voices) (sym read.1) tt
            | inr failed ↦ elim failed.0 [
              | inl write ↦ subst (IsJustified words contents voices) (sym write) tt
              | inr report ↦ subst (IsJustified words contents voices) (sym report.1) tt
            ]
          ]
        ]
      ]

  pub ran_verdict : (result : Result Bool Status) → Runs words contents voices read_before read_after RoseThere result t u → IsJustified words contents voices (ended result)
  ran_verdict (Ok true) took = tt
  ran_verdict (Ok false) took = tt
  ran_verdict (Err s) end = verdict_ended s (how_ended s end)

  -- ---- what was taken, and what faults came of

  took_stopped : (s : Status) → EndsSo (labels voices) words s → u.taken ≡ t.taken → Took (IsOutput words contents voices) s t u
  took_stopped s kind same =
      elim kind [
        | inl none ↦ subst (λ x. Took (IsOutput words contents voices) x t u) (sym none.0) same
        | inr some ↦ elim some.1 [
          | inl refusal ↦ subst (λ x. Took (IsOutput words contents voices) x t u) (sym refusal.1) same
          | inr other ↦ elim other [
            | inl constant ↦ subst (λ x. Took (IsOutput words contents voices) x t u) (sym constant.1) same
            | inr last ↦ elim last [
              | inl stale ↦ subst (λ x. Took (IsOutput words contents voices) x t u) (sym stale.2) same
              | inr unrated ↦ subst (λ x. Took (IsOutput words contents voices) x t u) (sym unrated.1) same
            ]
          ]
        ]
      ]

  took_ended : (s : Status) → Runs words contents voices read_before read_after RoseThere (Err s) t u → Took (IsOutput words contents voices) s t u
  took_ended s end =
      elim end [
        | inl quiet ↦ elim quiet.0 [
          | inl stops ↦ took_stopped s (kind_of words contents voices s stops) quiet.1
          | inr excused ↦ elim excused [
            | inl memory ↦ subst (λ x. Took (IsOutput words contents voices) x t u) (sym memory) (inl quiet.1)
            | inr more ↦ elim more [
              | inl read ↦ elim read.0 [
                | inl memory ↦ subst (λ x. Took (IsOutput words contents voices) x t u) (sym memory) (inl quiet.1)
                | inr fault ↦ subst (λ x. Took (IsOutput words contents voices) x t u) (sym fault.1) quiet.1
              ]
              | inr report ↦ subst (λ x. Took (IsOutput words contents voices) x t u) (sym report.0.2.1) quiet.1
            ]
          ]
        ]
        | inr front ↦ elim front.1 [
          | inl failed ↦ subst (λ x. Took (IsOutput words contents voices) x t u) (sym failed.0) front.0
          | inr memory ↦ subst (λ x. Took (IsOutput words contents voices) x t u) (sym memory.0) (inr front.0)
        ]
      ]

  took_as : (result : Result Bool Status) → Runs words contents voices read_before read_after RoseThere result t u → Took (IsOutput words contents voices) (ended result) t u
  took_as (Ok true) took = took
  took_as (Ok false) took = took
  took_as (Err s) end = took_ended s end

  pub ran_output : (result : Result Bool Status) (status : Status) → status ≡ ended result → Runs words contents voices read_before read_after RoseThere result t u → Took (IsOutput words contents voices) status t u
  ran_output result status is end = subst (λ x. Took (IsOutput words contents voices) x t u) (sym is) (took_as result end)

  caused_by_kind : (s : Status) → EndsSo (labels voices) words s → IsCaused s (labels voices) words read_before read_after t u RoseThere
  caused_by_kind s kind =
      elim kind [
        | inl none ↦ subst (λ x. IsCaused x (labels voices) words read_before read_after t u RoseThere) (sym none.0) tt
        | inr some ↦ elim some.1 [
          | inl refusal ↦ subst (λ x. IsCaused x (labels voices) words read_before read_after t u RoseThere) (sym refusal.1) tt
          | inr other ↦ elim other [
            | inl constant ↦ subst (λ x. IsCaused x (labels voices) words read_before read_after t u RoseThere) (sym constant.1) tt
            | inr last ↦ elim last [
              | inl stale ↦ subst (λ x. IsCaused x (labels voices) words read_before read_after t u RoseThere) (sym stale.2) tt
              | inr unrated ↦ subst (λ x. IsCaused x (labels voices) words read_before read_after t u RoseThere) (sym unrated.1) tt
            ]
          ]
        ]
      ]

  caused_ended : (s : Status) → Runs words contents voices read_before read_after RoseThere (Err s) t u → IsCaused s (labels voices) words read_before read_after t u RoseThere
  caused_ended s end =
      elim end [
        | inl quiet ↦ elim quiet.0 [
          | inl stops ↦ caused_by_kind s (kind_of words contents voices s stops)
          | inr excused ↦ elim excused [
            | inl memory ↦ subst (λ x. IsCaused x (labels voices) words read_before read_after t u RoseThere) (sym memory) tt
            | inr more ↦ elim more [
              | inl read ↦ elim read.0 [
                | inl memory ↦ subst (λ x. IsCaused x (labels voices) words read_before read_after t u RoseThere) (sym memory) tt
                | inr fault ↦ subst (λ x. IsCaused x (labels voices) words read_before read_after t u RoseThere) (sym fault.1) (fault.2, fault.3, fault.4, fault.5)
              ]
              | inr report ↦ subst (λ x. IsCaused x (labels voices) words read_before read_after t u RoseThere) (sym report.0.2.1) (report.0.0, report.0.1, report.0.2.2, report.0.2.3)
            ]
          ]
        ]
        | inr front ↦ elim front.1 [
          | inl failed ↦ subst (λ x. IsCaused x (labels voices) words read_before read_after t u RoseThere) (sym failed.0) failed.1
          | inr memory ↦ subst (λ x. IsCaused x (labels voices) words read_before read_after t u RoseThere) (sym memory.0) tt
        ]
      ]

  caused_as : (result : Result Bool Status) → Runs words contents voices read_before read_after RoseThere result t u → IsCaused (ended result) (labels voices) words read_before read_after t u RoseThere
  caused_as (Ok true) took = tt
  caused_as (Ok false) took = tt
  caused_as (Err s) end = caused_ended s end

  pub ran_caused : (result : Result Bool Status) (status : Status) → status ≡ ended result → Runs words contents voices read_before read_after RoseThere result t u → IsCaused status (labels voices) words read_before read_after t u RoseThere
  ran_caused result status is end = subst (λ x. IsCaused x (labels voices) words read_before read_after t u RoseThere) (sym is) (caused_as result end)

-- ---- what is due

same_as : (a s : Status) → ((refusal : Refusal) → s ≡ Refused refusal → ⊥) → IsSameStatus a s → a ≡ s
same_as a s other same = elim same [ inl is ↦ is | inr both ↦ absurd (other _ both.4) ]

usage_is_due : (a : Result Output Status) → IsLikeEnd IsSameStatus a (Err Usage) → a ≡ Err Usage
usage_is_due (Ok x) same = absurd same
usage_is_due (Err a) same = ap (λ (s : Status). Err s) (same_as a Usage (λ refusal is. cc (is)) same)

constant_is_due : (a : Result Output Status) (always : Bool) → IsLikeEnd IsSameStatus a (Err (Constant always)) → a ≡ Err (Constant always)
constant_is_due (Ok x) always same = absurd same
constant_is_due (Err a) always same = ap (λ (s : Status). Err s) (same_as a (Constant always) (λ refusal is. cc (is)) same)

stale_is_due : (a : Result Output Status) (token input : List ℕ) → IsLikeEnd IsSameStatus a (Err (StaleToken token input)) → a ≡ Err (StaleToken token input)
stale_is_due (Ok x) token input same = absurd same
stale_is_due (Err a) token input same = ap (λ (s : Status). Err s) (same_as a (StaleToken token input) (λ refusal is. cc (is)) same)

unrated_is_due : (a : Result Output Status) (event : List ℕ) → IsLikeEnd IsSameStatus a (Err (Unrated event)) → a ≡ Err (Unrated event)
unrated_is_due (Ok x) event same = absurd same
unrated_is_due (Err a) event same = ap (λ (s : Status). Err s) (same_as a (Unrated event) (λ refusal is. cc (is)) same)

refusal_is_due : (a : Result Output Status) (refusal : Refusal) → IsLikeEnd IsSameStatus a (Err (Refused refusal)) → IsErrAnd a (λ status. IsSameStatus status (Refused refusal))
refusal_is_due (Ok x) refusal same = absurd same
refusal_is_due (Err a) refusal same = same

came_of_kind : (AreSingle : Type 0) (names words : List (List ℕ)) (a : Result Output Status) (s : Status) → EndsSo names words s → IsLikeEnd IsSameStatus a (Err s) → MayCome AreSingle a s
came_of_kind AreSingle names words a s kind same =
    elim kind [
      | inl none ↦ subst (MayCome AreSingle a) (sym none.0) (usage_is_due a (subst (λ x. IsLikeEnd IsSameStatus a (Err x)) none.0 same))
      | inr some ↦ elim some.1 [
        | inl refusal ↦ subst (MayCome AreSingle a) (sym refusal.1) (refusal_is_due a refusal.0 (subst (λ x. IsLikeEnd IsSameStatus a (Err x)) refusal.1 same))
        | inr other ↦ elim other [
          | inl constant ↦ subst (MayCome AreSingle a) (sym constant.1) (constant_is_due a constant.0 (subst (λ x. IsLikeEnd IsSameStatus a (Err x)) constant.1 same))
          | inr last ↦ elim last [
            | inl stale ↦ subst (MayCome AreSingle a) (sym stale.2) (stale_is_due a stale.0 stale.1 (subst (λ x. IsLikeEnd IsSameStatus a (Err x)) stale.2 same))
            | inr unrated ↦ subst (MayCome AreSingle a) (sym unrated.1) (unrated_is_due a unrated.0 (subst (λ x. IsLikeEnd IsSameStatus a (Err x)) unrated.1 same))
          ]
        ]
      ]
    ]

came_ended : (words : List (List ℕ)) (contents : List ℕ → Option (List ℕ)) (voices : List Voice) (s : Status) → Ended words contents voices s → AllTold words contents voices → (a : Result Output Status) → IsDue (due words contents voices) a → MayCome (AskForSets words contents voices) a s
came_ended words contents voices s end told a is_due =
    elim end [
      | inl stops ↦ came_of_kind (AskForSets words contents voices) (labels voices) words a s (kind_of words contents voices s stops) (one_end words contents voices told a (Err s) is_due stops)
      | inr other ↦ elim other [
        | inl memory ↦ subst (MayCome (AskForSets words contents voices) a) (sym memory) tt
        | inr more ↦ elim more [
          | inl read ↦ subst (MayCome (AskForSets words contents voices) a) (sym read.1) tt
          | inr failed ↦
              let text : IsOk a = text_or_not words contents voices told a failed.1.0 is_due failed.1.1 in
              elim failed.0 [ inl write ↦ subst (MayCome (AskForSets words contents voices) a) (sym write) text | inr report ↦ subst (MayCome (AskForSets words contents voices) a) (sym report.1) text ]
        ]
      ]
    ]

-- where the verdicts are single ones, what is due tells as much of requirements as what was written
met_due : (words : List (List ℕ)) (contents : List ℕ → Option (List ℕ)) (voices : List Voice) → AllTold words contents voices → (a : Result Output Status) (output : Output) → IsDue (due words contents voices) a → Passes (due words contents voices) output
    → IsOkAnd a (λ its. AskForSets words contents voices → its.met ≡ output.met)
met_due words contents voices told (Ok its) output is_due wrote = λ sets. same_met words contents voices told sets its output is_due wrote
met_due words contents voices told (Err s) output is_due wrote = absurd (one_end words contents voices told (Err s) (Ok output) is_due wrote)

pub ran_complete : (words : List (List ℕ)) (contents : List ℕ → Option (List ℕ)) (voices : List Voice) (read_before read_after : List ℕ → ℕ) (RoseThere : ℕ → Type 0) (t u : Seen) (result : Result Bool Status)
    → Runs words contents voices read_before read_after RoseThere result t u → AllTold words contents voices → (a : Result Output Status) → IsDue (due words contents voices) a → MayCome (AskForSets words contents voices) a (ended result)
ran_complete words contents voices read_before read_after RoseThere t u (Ok true) took told a is_due = met_due words contents voices told a (record { text = took.0; met = true }) is_due took.1
ran_complete words contents voices read_before read_after RoseThere t u (Ok false) took told a is_due = met_due words contents voices told a (record { text = took.0; met = false }) is_due took.1
ran_complete words contents voices read_before read_after RoseThere t u (Err s) end told a is_due =
    came_ended words contents voices s (how_ended words contents voices read_before read_after RoseThere t u s end) told a is_due

-- ---- the steps of an answer

-- an answer that is held is ready, whatever else is excused
pub ready_held : (Excuse : Status → Type 0) (phase : Phase (List ℕ)) (its : Result Held Status) (result : Result Ready Status) → MatchResult its (λ text. result ≡ Ok (made.Held text)) (λ status. result ≡ Err status)
    → ((s : Status) → IsMemory s → Excuse s) → MeetsBut IsMemory held_text phase its → MeetsBut Excuse ready_text phase result
ready_held Excuse phase (Ok text) result is wanting met = rw is met
ready_held Excuse phase (Err s) result is wanting end = rw is (elim end [ inl stops ↦ inl stops | inr memory ↦ inr (wanting s memory) ])

-- the same of a phase by whether a flag is given
pub ready_set : (Excuse : Status → Type 0) (phase : Bool → Phase (List ℕ)) (said so : Bool) (its : Result Held Status) (result : Result Ready Status) → said ≡ so
    → MatchResult its (λ text. result ≡ Ok (made.Held text)) (λ status. result ≡ Err status) → ((s : Status) → IsMemory s → Excuse s) → MeetsBut IsMemory held_text (phase said) its → MeetsBut Excuse ready_text (phase so) result
ready_set Excuse phase said so its result same ready wanting met =
    ready_held Excuse (phase so) its result ready wanting (subst (λ (flag : Bool). MeetsBut IsMemory held_text (phase flag) its) same met)

-- an answer may be made line by line where this is so
pub lines_where : (result : Result Ready Status) (so : Bool) → so ≡ true → IfOk result (λ ready. IsByLines ready → so ≡ true)
lines_where (Ok ready) so is = λ lines. is
lines_where (Err s) so is = tt

-- the same with the reports
pub ready_told : (Excuse : Status → Type 0) (phase : Phase (List ℕ)) (its : Result Held Status) (result : Result Ready Status) → MatchResult its (λ text. result ≡ Ok (made.Held text)) (λ status. result ≡ Err status)
    → MeetsBut Excuse held_text phase its → MeetsBut Excuse ready_text phase result
ready_told Excuse phase (Ok text) result is met = rw is met
ready_told Excuse phase (Err s) result is end = rw is end

-- what is held is not made line by line
pub held_is : (So : Type 0) (its : Result Held Status) (result : Result Ready Status) → MatchResult its (λ text. result ≡ Ok (made.Held text)) (λ status. result ≡ Err status) → IfOk result (λ ready. IsByLines ready → So)
held_is So (Ok text) result is = rw is (λ none. absurd none)
held_is So (Err s) result is = rw is tt

-- what reports say behind a first phase, and how they end
pub told_later : {A : Type 0} (chosen : List ℕ) (RoseThere : ℕ → Type 0) (first : Phase A) (later : A → Phase (List ℕ)) (x : A) (s : Status) → Passes first x → Stops (later x) s ⊎ EndsReports chosen RoseThere (later x) s
    → Stops (chains first later) s ⊎ EndsReports chosen RoseThere (chains first later) s
told_later chosen RoseThere first later x s before end =
    elim end [
      | inl stops ↦ before beyond inl stops
      | inr ended_so ↦ inr (elim ended_so [ inl memory ↦ inl memory | inr fault ↦ inr (fault.0, (fault.1.0, before passes fault.1.1)) ])
    ]

-- the chosen reports are the same
pub told_as : (RoseThere : ℕ → Type 0) (profile : Profile) (root : Root) (target : List ℕ) (max_order : Option ℕ) (voices : List Voice) (texts : List (List ℕ)) (result : Result Held Status) (a b : List ℕ) → a ≡ b
    → MeetsBut (EndsReports a RoseThere (report_in profile root target a max_order voices texts)) held_text (report_in profile root target a max_order voices texts) result
    → MeetsBut (EndsReports b RoseThere (report_in profile root target b max_order voices texts)) held_text (report_in profile root target b max_order voices texts) result
told_as RoseThere profile root target max_order voices texts result a b same met =
    subst (λ (chosen : List ℕ). MeetsBut (EndsReports chosen RoseThere (report_in profile root target chosen max_order voices texts)) held_text (report_in profile root target chosen max_order voices texts) result) same met

-- the profile is the same
pub by_profile : (Excuse : Phase (List ℕ) → Status → Type 0) (phase : Profile → Phase (List ℕ)) (result : Result Ready Status) (a b : Profile) → a ≡ b → MeetsBut (Excuse (phase a)) ready_text (phase a) result → MeetsBut (Excuse (phase b)) ready_text (phase b) result
by_profile Excuse phase result a b same met = subst (λ profile. MeetsBut (Excuse (phase profile)) ready_text (phase profile) result) same met

-- more is excused
pub meets_wider : {A B : Type 0} (Excuse Wider : Status → Type 0) (value : B → A) (phase : Phase A) (result : Result B Status) → ((s : Status) → Excuse s → Wider s) → MeetsBut Excuse value phase result → MeetsBut Wider value phase result
meets_wider Excuse Wider value phase (Ok x) wider met = met
meets_wider Excuse Wider value phase (Err s) wider end = elim end [ inl stops ↦ inl stops | inr excused ↦ inr (wider s excused) ]

-- ---- the steps of a run

-- an answer on a request tells of no requirement
pub all_met : (Excuse : Status → Type 0) (phase : Phase (List ℕ)) (its : Result Ready Status) (result : Result Answer Status) → MatchResult its (λ ready. result ≡ Ok (record { ready = ready; met = true })) (λ status. result ≡ Err status)
    → MeetsBut Excuse ready_text phase its → MeetsBut Excuse answer_output (with_all_met phase) result
all_met Excuse phase (Ok ready) result is met = rw is (record { passed = (ready_text ready, met.passed, refl) })
all_met Excuse phase (Err s) result is end = rw is (elim end [ inl stops ↦ inl (record { stopped = inl stops.stopped }) | inr excused ↦ inr excused ])

-- and it is made line by line where that is
pub lines_kept : (its : Result Ready Status) (result : Result Answer Status) (So : Type 0) → MatchResult its (λ ready. result ≡ Ok (record { ready = ready; met = true })) (λ status. result ≡ Err status)
    → IfOk its (λ ready. IsByLines ready → So) → IfOk result (λ answer. IsByLines answer.ready → So)
lines_kept (Ok ready) result So is lines = rw is lines
lines_kept (Err s) result So is lines = rw is tt

pub none_by_lines : (result : Result Answer Status) (So : Type 0) → IfOk result (λ answer. IsByLines answer.ready → ⊥) → IfOk result (λ answer. IsByLines answer.ready → So)
none_by_lines (Ok answer) So none = λ is. absurd (none is)
none_by_lines (Err s) So none = tt

-- what is answered to a request is its output, whether it tells of requirements or not
pub output_told : (Excuse : Status → Type 0) (voices : List Voice) (asked : Request) (texts : List (List ℕ)) (result : Result Answer Status) → is_require asked.kind ≡ true → ((s : Status) → IsMemory s → Excuse s)
    → MeetsBut IsMemory answer_output (required_in (profile_of asked.options.form) asked.root (is_set asked.options (codes "tap")) texts) result → MeetsBut Excuse answer_output (output_for asked.kind voices asked texts) result
output_told Excuse voices asked texts result is wanting met =
    subst (λ (tells : Bool). MeetsBut Excuse answer_output (output_with tells (profile_of asked.options.form) asked.kind voices asked texts) result) (sym is)
    (meets_wider IsMemory Excuse answer_output (required_in (profile_of asked.options.form) asked.root (is_set asked.options (codes "tap")) texts) result wanting met)

pub output_plain : (Excuse : Status → Type 0) (voices : List Voice) (asked : Request) (texts : List (List ℕ)) (result : Result Answer Status) → is_require asked.kind ≡ false
    → MeetsBut Excuse answer_output (with_all_met (text_for asked.kind voices asked texts)) result → MeetsBut Excuse answer_output (output_for asked.kind voices asked texts) result
output_plain Excuse voices asked texts result is met =
    subst (λ (tells : Bool). MeetsBut Excuse answer_output (output_with tells (profile_of asked.options.form) asked.kind voices asked texts) result) (sym is) met

-- the words give this request, and there is an answer on texts of its files, or none
pub answered : (words : List (List ℕ)) (contents : List ℕ → Option (List ℕ)) (voices : List Voice) (read_before read_after : List ℕ → ℕ) (RoseThere : ℕ → Type 0) (asked : Request) (texts : List (List ℕ)) (result : Result Answer Status)
    → Passes (finds (IsRequest (labels voices) words) Usage) asked → Passes (texts_of contents asked.files) texts
    → MeetsBut (EndsReports asked.options.chosen RoseThere (text_for asked.kind voices asked texts)) answer_output (output_for asked.kind voices asked texts) result
    → MeetsBut (IsExcused words contents voices read_before read_after RoseThere) answer_output (due words contents voices) result
answered words contents voices read_before read_after RoseThere asked texts (Ok answer) given read met = given passes read passes met
answered words contents voices read_before read_after RoseThere asked texts (Err s) given read end =
    elim end [
      | inl stops ↦ given beyond read beyond inl stops
      | inr excused ↦ elim excused [
        | inl memory ↦ inr (inl memory)
        | inr report ↦ inr (inr (inr ((asked, given.passed, report.0), (report.1.0, given passes read passes report.1.1))))
      ]
    ]

-- the words give this request, and its files were not read
pub unread : (words : List (List ℕ)) (contents : List ℕ → Option (List ℕ)) (voices : List Voice) (read_before read_after : List ℕ → ℕ) (RoseThere : ℕ → Type 0) (asked : Request) (s : Status)
    → Passes (finds (IsRequest (labels voices) words) Usage) asked → Stops (texts_of contents asked.files) s ⊎ IsReadEnd asked.files read_before read_after s
    → Stops (due words contents voices) s ⊎ IsExcused words contents voices read_before read_after RoseThere s
unread words contents voices read_before read_after RoseThere asked s given end =
    elim end [
      | inl stops ↦ given beyond ends (inl stops)
      | inr read ↦ inr (inr (inl (subst (λ files. IsReadEnd files read_before read_after s) (sym (file_words_are (labels voices) words asked given.passed)) read, (asked, given.passed))))
    ]

-- the words were not read as a request, before anything else was read
pub unasked : (words : List (List ℕ)) (contents : List ℕ → Option (List ℕ)) (voices : List Voice) (read_before read_after : List ℕ → ℕ) (RoseThere : ℕ → Type 0) (names : List (List ℕ)) (s : Status)
    → names ≡ labels voices → Stops (finds (IsRequest names words) Usage) s ⊎ (s ≡ Memory) → Stops (due words contents voices) s ⊎ IsExcused words contents voices read_before read_after RoseThere s
unasked words contents voices read_before read_after RoseThere names s same end =
    elim end [
      | inl stops ↦ ends (inl (subst (λ (its : List (List ℕ)). Stops (finds (IsRequest its words) Usage) s) same stops))
      | inr memory ↦ inr (inl memory)
    ]

-- an answer that is made line by line is one on a request for it
pub lines_asked : (words : List (List ℕ)) (voices : List Voice) (asked : Request) (result : Result Answer Status) → Passes (finds (IsRequest (labels voices) words) Usage) asked
    → IfOk result (λ answer. IsByLines answer.ready → is_by_lines asked ≡ true) → IfOk result (λ answer. IsByLines answer.ready → AsksLines words voices)
lines_asked words voices asked (Ok answer) given lines = λ is. (asked, given.passed, lines is)
lines_asked words voices asked (Err s) given lines = tt

-- an answer is no status
pub ok_not_err : {A E : Type 0} (a : A) (e : E) → Ok a ≡ Err e → ⊥
ok_not_err a e is = cc (is)

-- too many files of a request
pub many_named : (names words : List (List ℕ)) (asked : Request) → Passes (finds (IsRequest names words) Usage) asked → most_files < length (file_words words) → most_files < length asked.files
many_named names words asked given many = subst (λ files. most_files < length files) (file_words_are names words asked given.passed) many

pub many_answer : {T : Type 0} (result : Result T Status) (s : Status) → IsErrAnd result (λ its. its ≡ s) → s ≡ Refused (of_words TooManyFiles) → IsErrAnd result IsManyAnswer
many_answer result s is many =
    let p = err_from_is_err_and result is in
    rw (p.1, p.2, many) refl

-- ---- memory

by_lines_once : (names words : List (List ℕ)) (asked other : Request) → IsRequest names words asked → IsRequest names words other → is_by_lines other ≡ true → is_by_lines asked ≡ false → ⊥
by_lines_once names words asked other is also lines none = false≢true (sym none ∙ subst (λ (one : Request). is_by_lines one ≡ true) (one_request names words other asked also is) lines)

-- memory is wanting only before a text was begun, or for a line of it
pub ran_begins : (words : List (List ℕ)) (contents : List ℕ → Option (List ℕ)) (voices : List Voice) (read_before read_after : List ℕ → ℕ) (RoseThere : ℕ → Type 0) (t u : Seen) (result : Result Bool Status) (status : Status) → status ≡ ended result
    → Runs words contents voices read_before read_after RoseThere result t u → (asked : Request) → IsRequest (labels voices) words asked → BeginsWithMemory asked status t u
ran_begins words contents voices read_before read_after RoseThere t u (Ok true) status is took asked given none memory = absurd (cc (is, memory))
ran_begins words contents voices read_before read_after RoseThere t u (Ok false) status is took asked given none memory = absurd (cc (is, memory))
ran_begins words contents voices read_before read_after RoseThere t u (Err s) status is end asked given none memory =
    elim end [
      | inl quiet ↦ quiet.1
      | inr front ↦ elim front.1 [
        | inl failed ↦ absurd (cc (is, memory, failed.0))
        | inr lines ↦ absurd (by_lines_once (labels voices) words asked lines.1.0 given lines.1.1 lines.1.2 none)
      ]
    ]

-- the words give this request, and of the reports that it chooses
pub kept_as : {R : Type 0} (Kept : R → R → Type 0) (names words : List (List ℕ)) (given asked : Request) (x y : List R) → Passes (finds (IsRequest names words) Usage) given → AtChosen given.options.chosen Kept x y → IsRequest names words asked → AtChosen asked.options.chosen Kept x y
kept_as Kept names words given asked x y its kept is = subst (λ (one : Request). AtChosen one.options.chosen Kept x y) (one_request names words given asked its.passed is) kept

-- ---- the end of a run

-- there is no answer, and nothing was written
pub ran_quiet : (words : List (List ℕ)) (contents : List ℕ → Option (List ℕ)) (voices : List Voice) (read_before read_after : List ℕ → ℕ) (RoseThere : ℕ → Type 0) (t : Seen) (s : Status) (result : Result Bool Status) → IsErrAnd result (λ its. its ≡ s)
    → Stops (due words contents voices) s ⊎ IsExcused words contents voices read_before read_after RoseThere s → Runs words contents voices read_before read_after RoseThere result t t
ran_quiet words contents voices read_before read_after RoseThere t s result is end =
    let p = err_from_is_err_and result is in
    rw (p.1, p.2) (inl (end, refl))

-- an answer was not written whole
pub ran_cut : (words : List (List ℕ)) (contents : List ℕ → Option (List ℕ)) (voices : List Voice) (read_before read_after : List ℕ → ℕ) (RoseThere : ℕ → Type 0) (t u : Seen) (answer : Answer) (stop : WriteError) (result : Result Bool Status) → IsErrAnd result (λ its. its ≡ status_of_write stop)
    → Passes (due words contents voices) (answer_output answer) → (IsByLines answer.ready → AsksLines words voices)
    → TookPrefix (ready_text answer.ready) t u × (Rose t.faults u.faults ⊎ LacksMemory stop) → (stop ≡ Lacks → IsByLines answer.ready) → Runs words contents voices read_before read_after RoseThere result t u
ran_cut words contents voices read_before read_after RoseThere t u answer Failed result is due_is by_lines stopped wanting =
    let p = err_from_is_err_and result is in
    rw (p.1, p.2) (inr ((ready_text answer.ready, (answer.met, due_is), stopped.0), elim stopped.1 [ inl rose ↦ inl (refl, rose) | inr none ↦ absurd (cc (none)) ]))
ran_cut words contents voices read_before read_after RoseThere t u answer Lacks result is due_is by_lines stopped wanting =
    let p = err_from_is_err_and result is in
    rw (p.1, p.2) (inr ((ready_text answer.ready, (answer.met, due_is), stopped.0), inr (refl, by_lines (wanting refl))))
