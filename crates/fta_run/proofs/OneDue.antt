-- One end at most is due for the words and the contents, where these are told.
use Rattle.std.proofs.Common.{◌≡◌, ◌≤◌, ℕ, Bool, true, false, List, [], ◌∷◌, length, take, drop, Option, Some, None, IsSome, IfSome, Result, Ok, Err, refl, sym, subst, ap, ◌∙◌, inl, inr, codes}
use Rattle.std.specs.Prelude.{IsOk}
use Rattle.std.specs.List.{AllByRecursion}
use Rattle.std.proofs.lemmas.Bool.{false≢true}
use Rattle.plain_values.specs.declared.name.Root.{Root}
use Rattle.plain_values.specs.declared.refusal.Refusal.{Refusal}
use Rattle.package_index.specs.Lookup.{packages_of}
use Rattle.fault_system.specs.Systems.{IsSystem, System}
use Rattle.fta_words.specs.declared.command.Paging.{Paging}
use Rattle.model_phases.specs.Named.{IsPlainSystem}
use Rattle.model_phases.proofs.Decided.{assembled_decided, model_decided, origins_decided, review_decided}
use Rattle.profiles.specs.declared.profile.Profile.{Profile}
use Rattle.profiles.specs.declared.profile.Profile.TheVariants.{First}
use Rattle.model_phases.specs.Phases.{IsFlat, assembled, flat_phase, origins_phase, review_phase}
use Rattle.sheet_model.specs.Phase.{sheet_phase}
use Rattle.model_facts.specs.Assembly.{Assembly}
use Rattle.aadl_syntax.specs.declared.core_model.PackageUnit.{PackageUnit}
use Rattle.package_index.specs.declared.id.ClassifierId.{ClassifierId}
use Rattle.grammar_rules.specs.Texts.{syntax_error}
use Rattle.phases.specs.Phases.{IsDue, Passed, Passes, Phase, Stopped, Stops}
use Rattle.phases.specs.inner.Phases.{IsDecided, IsSameEnd}
use Rattle.phases.specs.declared.status.Status.{Status}
use Rattle.phases.specs.declared.status.Status.TheVariants.{Usage, Refused}
use Rattle.phases.proofs.Leaves.{decided_answers, decided_computes, decided_finds, decided_rejects, decided_accepts, decided_tests}
use Rattle.phases.proofs.Decided as decided
use Rattle.fta_words.specs.declared.kind.Kind.TheVariants as kind
use Rattle.fta_run.specs.Words.{IsRequest, Kind, Request, is_set}
use Rattle.system_answers.specs.Voices.{Voice, labels}
use Rattle.model_maker.specs.Text.{text_of as made_text}
use Rattle.model_phases.specs.declared.flat.FlatModel.{FlatModel}
use Rattle.fta_run.specs.Files.{AreTokens, AreUnits, HasTooLong, HasTooMuch, LacksTokens, LacksUnits, MayContain, NamesTooMany}
use Rattle.fta_run.specs.Model.{HasDuplicate, root_named}
use Rattle.system_answers.specs.Derivations.{why_text}
use Rattle.property_reader.specs.declared.rate.Rate.{Rate}
use Rattle.system_answers.specs.Texts.{cuts_text, drawn_form, drawn_rates, drawn_text, formed_tree, paths_text, tree_text}
use Rattle.system_answers.specs.declared.form.TreeForm.{TreeForm}
use Rattle.system_answers.proofs.Derived.{confirm_decided, why_decided}
use Rattle.system_answers.proofs.Decided.{cuts_decided, drawn_decided, galileo_paths_text_decided, galileo_text_decided, listing_decided, named_tree_decided, paths_decided, rated_decided, report_decided, slice_decided, target_decided, tree_decided, tree_for_decided}
use Rattle.page_tokens.specs.Keys.{asked_digits}
use Rattle.listing_changes.specs.Changes.{TellsChanges}
use Rattle.listing_changes.proofs.Texts.{text-once}
use Rattle.fta_run.specs.Compared.{compared_text}
use Rattle.fta_run.specs.Sets.{set_asked}
use Rattle.fta_run.specs.Due.{compared_in, confirmed_in, cuts_in, due, first_text, fmea_in, galileo_in, is_require, made_of_texts, made_root, made_target, make_text, model_of_texts, other_texts, output_for, output_with, require_in, required_in, sets_of_tree, sized_text, text_by, told_of_tree, texts_of, units_of, within_limits}
use Rattle.fta_run.specs.inner.Texts.{request_text, text_due}
use Rattle.fta_run.specs.Required.{Output, TellsLines}
use Rattle.fta_run.proofs.RequiredLaws.{lines-decided, output-decided, required-opened}
use Rattle.target_orders.specs.Text.{TellsOrders}
use Rattle.target_orders.proofs.Said.{one-text}
use Rattle.fta_run.specs.Effects.{asked_targets}
use Rattle.fta_run.specs.Forms.{drawn_words, is_drawn, is_exchanged, is_merging, is_wide, picture_legend, profile_of, tree_form, tree_words}
use Rattle.galileo_reader.specs.TreeSystems.{system_of, target_of as top_of_tree}
use Rattle.galileo_reader.proofs.SystemLaws.{tree-system}
use Rattle.galileo_reader.proofs.TreeTexts.{tree-named}
use Rattle.fta_words.specs.declared.command.Options.{Options}
use Rattle.fta_run.specs.inner.OneEnd.{AskForOneText, IsDecidedButLast, IsLikeEnd, KeepsGates}
use Rattle.fta_run.proofs.LikeEnds.{alike, opened}
use Rattle.fta_run.specs.Later.{IsLater, in_later_files, later_file, later_refusal}
use Rattle.fta_run.specs.Answers.{AllTold, AskForSets, HasNoProbability, HasSets, IsOutput, IsSameStatus}
use Rattle.fta_words.proofs.Requests.{one_request}
use Rattle.fta_run.proofs.Inputs.{first_short}
use Rattle.fta_run.proofs.Names.{event_line_names, fact_line_names, plain_model, plain_texts, token_names}
use Rattle.fta_run.proofs.Lacking.{clear_tokens, one_tokens}
use Rattle.fta_run.proofs.Grammars.{lacks_once, lacks_or_have, one_units}

itself : (status : Status) → IsSameStatus status status
itself status = inl refl

-- files that tell contain one list of texts
one_text : (told : Option (List ℕ)) (a b : List ℕ) → IsSome told → IfSome told (λ whole. a ≡ whole) → IfSome told (λ whole. b ≡ whole) → a ≡ b
one_text None a b some h k = absurd (false≢true some)
one_text (Some whole) a b some h k = h ∙ sym k

one_texts : (contents : List ℕ → Option (List ℕ)) (files a b : List (List ℕ)) → AllByRecursion (λ file. IsSome (contents file)) files → MayContain contents files a → MayContain contents files b → a ≡ b
one_texts contents [] [] [] told h k = refl
one_texts contents [] [] (text ∷ texts) told h k = absurd k
one_texts contents [] (text ∷ texts) b told h k = absurd h
one_texts contents (file ∷ files) [] b told h k = absurd h
one_texts contents (file ∷ files) (text ∷ texts) [] told h k = absurd k
one_texts contents (file ∷ files) (text ∷ texts) (other ∷ others) told h k =
    ap (λ t. t ∷ texts) (one_text (contents file) text other told.0 h.0 k.0) ∙ ap (λ ts. other ∷ ts) (one_texts contents files texts others told.1 h.1 k.1)

limits_decided : (texts : List (List ℕ)) → IsDecided IsSameStatus (within_limits texts)
limits_decided texts = (decided_tests IsSameStatus itself (HasTooLong texts), λ _ short. (decided_tests IsSameStatus itself (HasTooMuch texts), λ _ little. tt))

texts_decided : (contents : List ℕ → Option (List ℕ)) (files : List (List ℕ)) → AllByRecursion (λ file. IsSome (contents file)) files → IsDecided IsSameStatus (texts_of contents files)
texts_decided contents files told = (
  decided_tests IsSameStatus itself (NamesTooMany files),
  λ _ few. (decided_accepts IsSameStatus (MayContain contents files) (λ a b h k. one_texts contents files a b told h k), λ texts are. limits_decided texts),
)

units_decided : (texts : List (List ℕ)) → IsDecided IsSameStatus (units_of texts)
units_decided texts = (
  decided_answers IsSameStatus itself (AreTokens texts) (LacksTokens texts) (one_tokens texts) (λ tokens refusal are lacks. clear_tokens texts tokens are refusal lacks),
  λ tokens are. decided_rejects IsSameStatus (AreUnits tokens) (LacksUnits texts tokens) (one_units tokens) (λ files refusal have lacks. lacks_or_have texts tokens files refusal have lacks) (lacks_once texts tokens),
)

-- what is made of a model in files has one end at most, where what is made of one in packages has
made_decided : {A : Type 0} (next : Assembly → Phase A) (profile : Profile) → ((packages : List PackageUnit) (id : ClassifierId) → IsDecided IsSameStatus (assembled next profile packages id)) → (root : Root) (texts : List (List ℕ)) → IsDecided IsSameStatus (made_of_texts next profile root texts)
made_decided next profile last root texts = (
  units_decided texts,
  λ files have. (
    decided_tests IsSameStatus itself (HasDuplicate files),
    λ _ clear. (decided_computes IsSameStatus itself (root_named files root), λ id named. last (packages_of files) id),
  ),
)

texts_model_decided : (profile : Profile) (root : Root) (texts : List (List ℕ)) → IsDecided IsSameStatus (model_of_texts profile root texts)
texts_model_decided profile = made_decided flat_phase profile (model_decided IsSameStatus itself profile)

plain_cuts_decided : (target : List ℕ) (paging : Paging) (tokens : Bool) (key : List ℕ) (system : System) → IsPlainSystem system → IsDecided IsSameStatus (cuts_text target paging tokens key system)
plain_cuts_decided target paging tokens key system plain = cuts_decided IsSameStatus itself target paging tokens key system plain.is_system (token_names system plain)

cuts_in_decided : (profile : Profile) (root : Root) (target : List ℕ) (paging : Paging) (tokens : Bool) (texts : List (List ℕ)) → IsDecided IsSameStatus (cuts_in profile root target paging tokens texts)
cuts_in_decided profile root target paging tokens texts = (
  texts_model_decided profile root texts,
  λ model at.
      let plain : IsPlainSystem model.system = (plain_texts profile root texts (Ok model) (record { passed = at })).system in
      plain_cuts_decided target paging tokens (asked_digits tokens paging.after profile root target paging.max_order texts) model.system plain,
)

plain_paths_decided : (target : List ℕ) (paging : Paging) (system : System) → IsPlainSystem system → IsDecided IsSameStatus (paths_text target paging system)
plain_paths_decided target paging system plain = paths_decided IsSameStatus itself target paging system plain.is_system (token_names system plain)

tree_sets_decided : (paths wide : Bool) (limit max_order : Option ℕ) (text : List ℕ) → IsDecided IsSameStatus (sets_of_tree paths wide limit max_order text)
tree_sets_decided true wide limit max_order text = galileo_paths_text_decided IsSameStatus itself wide limit max_order text
tree_sets_decided false wide limit max_order text = galileo_text_decided IsSameStatus itself wide limit max_order text

plain_why_decided : (target set : List ℕ) (system : System) → IsPlainSystem system → IsDecided IsSameStatus (why_text target set system)
plain_why_decided target set system plain = why_decided IsSameStatus itself target set system plain.is_system (token_names system plain)

-- the same refusals are the same in later files
same_later : (count : ℕ) (its other a b : Refusal) → IsSameStatus (Refused its) (Refused other) → a ≡ later_refusal count its → b ≡ later_refusal count other → IsSameStatus (Refused a) (Refused b)
same_later count its other a b same is also =
    elim same [
      | inl one ↦ let equal : its ≡ other = cc (one) in inl (ap Refused (is ∙ ap (later_refusal count) equal ∙ sym also))
      | inr both ↦
          let here : its ≡ syntax_error both.0 both.1 = cc (both.3) in
          let there : other ≡ syntax_error both.0 both.2 = cc (both.4) in
          inr (later_file count both.0, both.1, both.2, ap Refused (is ∙ ap (later_refusal count) here), ap Refused (also ∙ ap (later_refusal count) there))
    ]

later_decided : {A : Type 0} (count : ℕ) (phase : Phase A) → IsDecided IsSameStatus phase → IsDecided IsSameStatus (in_later_files count phase)
later_decided count phase is =
    decided_rejects IsSameStatus (Passes phase) (IsLater count phase)
    (λ a b h k. decided.one_value IsSameStatus phase is a b h k)
    (λ a refusal passes later. decided.not_both IsSameStatus phase is a (Refused later.0) passes later.1)
    (λ a b x y. same_later count x.0 y.0 a b (decided.one_stop IsSameStatus phase is (Refused x.0) (Refused y.0) x.1 y.1) x.2 y.2)

confirmed_decided : (profile : Profile) (root : Root) (target set : List ℕ) (texts : List (List ℕ)) → length (first_text texts) ≤ 4194304 → IsDecided IsSameStatus (confirmed_in profile root target set texts)
confirmed_decided profile root target set texts short = (
  later_decided 1 (model_of_texts profile root (other_texts texts)) (texts_model_decided profile root (other_texts texts)),
  λ model at.
      let plain : IsPlainSystem model.system = (plain_texts profile root (other_texts texts) (Ok model) at).system in
      confirm_decided IsSameStatus itself (first_text texts) model.system plain.is_system (fact_line_names model.system plain) (event_line_names model.system plain) short target (set_asked profile set model.system) (token_names model.system plain),
)

required_in_decided : (profile : Profile) (root : Root) (tap : Bool) (texts : List (List ℕ)) → HasNoProbability (first_text texts) → IsDecided IsSameStatus (required_in profile root tap texts)
required_in_decided profile root tap texts sets = (
  later_decided 1 (model_of_texts profile root (other_texts texts)) (texts_model_decided profile root (other_texts texts)),
  λ model at. output-decided IsSameStatus itself model.system model.rates tap (first_text texts) sets,
)

require_decided : (profile : Profile) (root : Root) (tap : Bool) (texts : List (List ℕ)) → HasNoProbability (first_text texts) → IsDecided IsSameStatus (require_in profile root tap texts)
require_decided profile root tap texts sets = (
  later_decided 1 (model_of_texts profile root (other_texts texts)) (texts_model_decided profile root (other_texts texts)),
  λ model at. lines-decided IsSameStatus itself model.system model.rates tap (first_text texts) sets,
)

require_opened : (profile : Profile) (root : Root) (tap : Bool) (texts : List (List ℕ)) → IsDecidedButLast IsSameStatus (require_in profile root tap texts)
require_opened profile root tap texts = (
  later_decided 1 (model_of_texts profile root (other_texts texts)) (texts_model_decided profile root (other_texts texts)),
  λ model at. required-opened IsSameStatus itself model.system (TellsLines tap model.system model.rates) (first_text texts),
)

compared_text_decided : (target : List ℕ) (max_order : Option ℕ) (older newer : System) → IsDecided IsSameStatus (compared_text target max_order older newer)
compared_text_decided target max_order older newer = (
  target_decided IsSameStatus itself target older,
  λ before named. (
    target_decided IsSameStatus itself target newer,
    λ after named_too. (
      slice_decided IsSameStatus itself before older,
      λ slice served. (
        slice_decided IsSameStatus itself after newer,
        λ other served_too. decided_accepts IsSameStatus (TellsChanges older before newer after max_order) (text-once older newer before after max_order),
      ),
    ),
  ),
)

compared_decided : (profile : Profile) (root : Root) (target : List ℕ) (count : ℕ) (max_order : Option ℕ) (texts : List (List ℕ)) → IsDecided IsSameStatus (compared_in profile root target count max_order texts)
compared_decided profile root target count max_order texts = (
  texts_model_decided profile root (take count texts),
  λ older at. (
    later_decided count (model_of_texts profile root (drop count texts)) (texts_model_decided profile root (drop count texts)),
    λ newer behind. compared_text_decided target max_order older.system newer.system,
  ),
)

sized_decided : (model : FlatModel) → IsDecided IsSameStatus (sized_text model)
sized_decided model =
    (target_decided IsSameStatus itself made_target model.system, λ number named. (slice_decided IsSameStatus itself number model.system, λ slice served. (listing_decided IsSameStatus itself number None model.system, λ sets are. tt)))

make_decided : (number : ℕ) (text : Bool) → IsDecided IsSameStatus (make_text number text)
make_decided number true = tt
make_decided number false = (limits_decided (made_text number ∷ []), λ texts short. (texts_model_decided First made_root texts, λ model at. sized_decided model))

-- ---- the text of a tree

-- the form of a tree for which a request asks
abbrev form_asked : Profile → Request → List (List ℕ) → TreeForm
form_asked profile asked texts = tree_form asked.options.form (tree_words profile asked.root asked.target) asked.files texts

-- a tree with merged gates may have more texts than one, and all else is decided
formed_opened : (number : ℕ) (form : TreeForm) (system : System) (rates : List Rate) → IsSystem system → IsDecidedButLast IsSameStatus (formed_tree number form system rates)
formed_opened number form system rates is = (
  tree_for_decided IsSameStatus itself system number is,
  λ tree tree_is. (rated_decided IsSameStatus itself form.rated system rates tree, λ _ rated. ((λ a status it none. none), λ a b none other. absurd none)),
)

tree_opened : (target : List ℕ) (form : TreeForm) (system : System) (rates : List Rate) → IsSystem system → IsDecidedButLast IsSameStatus (tree_text target form system rates)
tree_opened target form system rates is = (
  target_decided IsSameStatus itself target system,
  λ number named. (slice_decided IsSameStatus itself number system, λ slice served. formed_opened number form system rates is),
)

decided_opened : {A : Type 0} (phase : Phase A) → IsDecided IsSameStatus phase → IsDecidedButLast IsSameStatus phase
decided_opened = opened IsSameStatus

-- what is told of a tree that is read from a file
told_decided : (told : Bool) (options : Options) (text : List ℕ) → told ≡ false → IsDecided IsSameStatus (told_of_tree told options text)
told_decided true options text sets = absurd (false≢true (sym sets))
told_decided false options text sets = tree_sets_decided (is_set options (codes "paths")) (is_wide options.form) options.paging.limit options.paging.max_order text

told_opened : (told : Bool) (options : Options) (text : List ℕ) → IsDecidedButLast IsSameStatus (told_of_tree told options text)
told_opened true options text = (
  named_tree_decided IsSameStatus itself (is_wide options.form) text,
  λ tree read. (slice_decided IsSameStatus itself (top_of_tree tree tree.top) (system_of tree), λ slice served. ((λ its status tells none. none), λ a b none other. absurd none)),
)
told_opened false options text = decided_opened (told_of_tree false options text) (told_decided false options text refl)

-- what is asked of a tree that is read from a file
galileo_in_decided : (drawn : Bool) (options : Options) (files texts : List (List ℕ)) → (is_merging options.form ≡ false) × (is_set options (codes "probability") ≡ false) → IsDecided IsSameStatus (galileo_in drawn options files texts)
galileo_in_decided true options files texts keeps =
    subst (λ merged. IsDecided IsSameStatus (drawn_text (is_wide options.form) (is_exchanged options.form) merged (picture_legend (drawn_words merged) files texts) (first_text texts))) (sym keeps.0)
    (drawn_decided IsSameStatus itself (is_wide options.form) (is_exchanged options.form) (picture_legend (drawn_words false) files texts) (first_text texts))
galileo_in_decided false options files texts keeps = told_decided (is_set options (codes "probability")) options (first_text texts) keeps.1

galileo_in_opened : (drawn : Bool) (options : Options) (files texts : List (List ℕ)) → IsDecidedButLast IsSameStatus (galileo_in drawn options files texts)
galileo_in_opened true options files texts = (
  named_tree_decided IsSameStatus itself (is_wide options.form) (first_text texts),
  λ tree read. (
    slice_decided IsSameStatus itself (top_of_tree tree tree.top) (system_of tree),
    λ slice served. formed_opened (top_of_tree tree tree.top) (drawn_form (is_exchanged options.form) (is_merging options.form) (picture_legend (drawn_words (is_merging options.form)) files texts)) (system_of tree) (drawn_rates (is_exchanged options.form) tree) (tree-system tree (tree-named read.0 tree read.2)),
  ),
)
galileo_in_opened false options files texts = told_opened (is_set options (codes "probability")) options (first_text texts)

-- ---- a table or a sheet

sheet_decided : (profile : Profile) (packages : List PackageUnit) (root : ClassifierId) → IsDecided IsSameStatus (assembled sheet_phase profile packages root)
sheet_decided = assembled_decided IsSameStatus itself sheet_phase (λ assembly. ((decided_accepts IsSameStatus (IsFlat assembly) (λ a b one other. one.model_is ∙ sym other.model_is), λ model at. tt), λ model at. tt))

fmea_decided : (sheet : Bool) (profile : Profile) (root : Root) (all : Bool) (files texts : List (List ℕ)) → IsDecided IsSameStatus (fmea_in sheet profile root all files texts)
fmea_decided true profile root all files texts = (made_decided sheet_phase profile (sheet_decided profile) root texts, λ model at. tt)
fmea_decided false profile root all files texts = (texts_model_decided profile root texts, λ model at. tt)

-- ---- what a request asks for

text_decided : (profile : Profile) (asked_kind : Kind) (voices : List Voice) (asked : Request) (texts : List (List ℕ)) → length (first_text texts) ≤ 4194304 → KeepsGates asked_kind asked → HasSets asked_kind texts → IsDecided IsSameStatus (text_by profile asked_kind voices asked texts)
text_decided profile kind.Check voices asked texts short keeps sets = (texts_model_decided profile asked.root texts, λ model at. tt)
text_decided profile kind.Cuts voices asked texts short keeps sets = cuts_in_decided profile asked.root asked.target asked.options.paging (is_set asked.options (codes "tokens")) texts
text_decided profile kind.Tree voices asked texts short keeps sets =
    (texts_model_decided profile asked.root texts, λ model at. tree_decided IsSameStatus itself asked.target (form_asked profile asked texts) model.system model.rates keeps (plain_model profile asked.root texts model at).system.is_system)
text_decided profile kind.Fmea voices asked texts short keeps sets = fmea_decided (is_set asked.options (codes "sheet")) profile asked.root (is_set asked.options (codes "all")) asked.files texts
text_decided profile kind.Report voices asked texts short keeps sets =
    (texts_model_decided profile asked.root texts, λ model at. report_decided IsSameStatus itself asked.target asked.options.chosen asked.options.paging.max_order voices model.system)
text_decided profile kind.Make voices asked texts short keeps sets = make_decided asked.number (is_set asked.options (codes "text"))
text_decided profile kind.Galileo voices asked texts short keeps sets = galileo_in_decided (is_drawn asked.options.form) asked.options asked.files texts keeps
text_decided profile kind.Paths voices asked texts short keeps sets =
    (texts_model_decided profile asked.root texts, λ model at. plain_paths_decided asked.target asked.options.paging model.system (plain_model profile asked.root texts model at).system)
text_decided profile kind.Why voices asked texts short keeps sets = (texts_model_decided profile asked.root texts, λ model at. plain_why_decided asked.target (set_asked profile asked.options.set model.system) model.system (plain_model profile asked.root texts model at).system)
text_decided profile kind.Confirm voices asked texts short keeps sets = confirmed_decided profile asked.root asked.target asked.options.set texts short
text_decided profile kind.Targets voices asked texts short keeps sets =
    (texts_model_decided profile asked.root texts, λ model at. decided_accepts IsSameStatus (TellsOrders model.system (asked_targets (is_set asked.options (codes "all")) model)) (one-text model.system (asked_targets (is_set asked.options (codes "all")) model)))
text_decided profile kind.Events voices asked texts short keeps sets = (made_decided origins_phase profile (origins_decided IsSameStatus itself profile) asked.root texts, λ model at. tt)
text_decided profile kind.Review voices asked texts short keeps sets = (made_decided review_phase profile (review_decided IsSameStatus itself profile) asked.root texts, λ reviewed at. tt)
text_decided profile kind.Place voices asked texts short keeps sets = tt
text_decided profile kind.Manifest voices asked texts short keeps sets = (texts_model_decided profile asked.root texts, λ model at. tt)
text_decided profile kind.Refusals voices asked texts short keeps sets = absurd keeps
text_decided profile kind.Probability voices asked texts short keeps sets = absurd keeps
text_decided profile kind.Require voices asked texts short keeps sets = require_decided profile asked.root (is_set asked.options (codes "tap")) texts sets
text_decided profile kind.Compare voices asked texts short keeps sets = compared_decided profile asked.root asked.target asked.number asked.options.paging.max_order texts
text_decided profile kind.Help voices asked texts short keeps sets = tt
text_decided profile kind.Explain voices asked texts short keeps sets = tt
text_decided profile kind.Version voices asked texts short keeps sets = tt

-- the ends of what a request of a kind asks for are alike, also of a tree with merged gates
text_opened : (profile : Profile) (asked_kind : Kind) (voices : List Voice) (asked : Request) (texts : List (List ℕ)) → length (first_text texts) ≤ 4194304 → IsDecidedButLast IsSameStatus (text_by profile asked_kind voices asked texts)
text_opened profile kind.Check voices asked texts short = decided_opened (text_by profile kind.Check voices asked texts) (text_decided profile kind.Check voices asked texts short tt tt)
text_opened profile kind.Cuts voices asked texts short = decided_opened (text_by profile kind.Cuts voices asked texts) (text_decided profile kind.Cuts voices asked texts short tt tt)
text_opened profile kind.Tree voices asked texts short =
    (texts_model_decided profile asked.root texts, λ model at. tree_opened asked.target (form_asked profile asked texts) model.system model.rates (plain_model profile asked.root texts model at).system.is_system)
text_opened profile kind.Fmea voices asked texts short = decided_opened (text_by profile kind.Fmea voices asked texts) (text_decided profile kind.Fmea voices asked texts short tt tt)
text_opened profile kind.Report voices asked texts short = decided_opened (text_by profile kind.Report voices asked texts) (text_decided profile kind.Report voices asked texts short tt tt)
text_opened profile kind.Make voices asked texts short = decided_opened (text_by profile kind.Make voices asked texts) (text_decided profile kind.Make voices asked texts short tt tt)
text_opened profile kind.Galileo voices asked texts short = galileo_in_opened (is_drawn asked.options.form) asked.options asked.files texts
text_opened profile kind.Paths voices asked texts short = decided_opened (text_by profile kind.Paths voices asked texts) (text_decided profile kind.Paths voices asked texts short tt tt)
text_opened profile kind.Why voices asked texts short = decided_opened (text_by profile kind.Why voices asked texts) (text_decided profile kind.Why voices asked texts short tt tt)
text_opened profile kind.Confirm voices asked texts short = decided_opened (text_by profile kind.Confirm voices asked texts) (text_decided profile kind.Confirm voices asked texts short tt tt)
text_opened profile kind.Targets voices asked texts short = decided_opened (text_by profile kind.Targets voices asked texts) (text_decided profile kind.Targets voices asked texts short tt tt)
text_opened profile kind.Events voices asked texts short = decided_opened (text_by profile kind.Events voices asked texts) (text_decided profile kind.Events voices asked texts short tt tt)
text_opened profile kind.Review voices asked texts short = decided_opened (text_by profile kind.Review voices asked texts) (text_decided profile kind.Review voices asked texts short tt tt)
text_opened profile kind.Place voices asked texts short = decided_opened (text_by profile kind.Place voices asked texts) (text_decided profile kind.Place voices asked texts short tt tt)
text_opened profile kind.Manifest voices asked texts short = decided_opened (text_by profile kind.Manifest voices asked texts) (text_decided profile kind.Manifest voices asked texts short tt tt)
text_opened profile kind.Refusals voices asked texts short = (λ text status tells none. none, λ a b none. absurd none)
text_opened profile kind.Probability voices asked texts short = (
  texts_model_decided profile asked.root texts,
  λ model at. (
    target_decided IsSameStatus itself asked.target model.system,
    λ number named. (slice_decided IsSameStatus itself number model.system, λ slice served. ((λ text status tells none. none), λ a b none other. absurd none)),
  ),
)
text_opened profile kind.Require voices asked texts short = require_opened profile asked.root (is_set asked.options (codes "tap")) texts
text_opened profile kind.Compare voices asked texts short = decided_opened (text_by profile kind.Compare voices asked texts) (text_decided profile kind.Compare voices asked texts short tt tt)
text_opened profile kind.Help voices asked texts short = decided_opened (text_by profile kind.Help voices asked texts) (text_decided profile kind.Help voices asked texts short tt tt)
text_opened profile kind.Explain voices asked texts short = decided_opened (text_by profile kind.Explain voices asked texts) (text_decided profile kind.Explain voices asked texts short tt tt)
text_opened profile kind.Version voices asked texts short = decided_opened (text_by profile kind.Version voices asked texts) (text_decided profile kind.Version voices asked texts short tt tt)

request_decided : (contents : List ℕ → Option (List ℕ)) (voices : List Voice) (asked : Request) → AllByRecursion (λ file. IsSome (contents file)) asked.files → KeepsGates asked.kind asked
    → ((texts : List (List ℕ)) → MayContain contents asked.files texts → HasSets asked.kind texts) → IsDecided IsSameStatus (request_text contents voices asked)
request_decided contents voices asked told keeps sets = (
  texts_decided contents asked.files told,
  λ texts are.
      let here : HasSets asked.kind texts = subst (HasSets asked.kind) (sym are.2.2.2.2) (sets are.2.0 are.2.1) in
      text_decided (profile_of asked.options.form) asked.kind voices asked texts (first_short contents asked.files texts are) keeps here,
)

text_due_decided : (words : List (List ℕ)) (contents : List ℕ → Option (List ℕ)) (voices : List Voice) → AllTold words contents voices → AskForOneText words contents voices → IsDecided IsSameStatus (text_due words contents voices)
text_due_decided words contents voices told one =
    (decided_finds IsSameStatus itself (IsRequest (labels voices) words) Usage (one_request (labels voices) words), λ asked is. request_decided contents voices asked (told asked is) (one.0 asked is) (one.1 asked is))

text_due_opened : (words : List (List ℕ)) (contents : List ℕ → Option (List ℕ)) (voices : List Voice) → AllTold words contents voices → IsDecidedButLast IsSameStatus (text_due words contents voices)
text_due_opened words contents voices told = (
  decided_finds IsSameStatus itself (IsRequest (labels voices) words) Usage (one_request (labels voices) words),
  λ asked is. (texts_decided contents asked.files (told asked is), λ texts are. text_opened (profile_of asked.options.form) asked.kind voices asked texts (first_short contents asked.files texts are)),
)

-- ---- from what is due to its text

require_is : (k : Kind) → is_require k ≡ true → k ≡ kind.Require
require_is kind.Check is = absurd (false≢true is)
require_is kind.Cuts is = absurd (false≢true is)
require_is kind.Tree is = absurd (false≢true is)
require_is kind.Fmea is = absurd (false≢true is)
require_is kind.Report is = absurd (false≢true is)
require_is kind.Make is = absurd (false≢true is)
require_is kind.Galileo is = absurd (false≢true is)
require_is kind.Paths is = absurd (false≢true is)
require_is kind.Why is = absurd (false≢true is)
require_is kind.Confirm is = absurd (false≢true is)
require_is kind.Targets is = absurd (false≢true is)
require_is kind.Events is = absurd (false≢true is)
require_is kind.Review is = absurd (false≢true is)
require_is kind.Place is = absurd (false≢true is)
require_is kind.Manifest is = absurd (false≢true is)
require_is kind.Refusals is = absurd (false≢true is)
require_is kind.Probability is = absurd (false≢true is)
require_is kind.Compare is = absurd (false≢true is)
require_is kind.Require is = refl
require_is kind.Explain is = absurd (false≢true is)
require_is kind.Help is = absurd (false≢true is)
require_is kind.Version is = absurd (false≢true is)

-- a text of requirements stops as what is told of it does
lines_stopped : (profile : Profile) (root : Root) (tap : Bool) (texts : List (List ℕ)) (status : Status) → Stopped (required_in profile root tap texts) status → Stopped (require_in profile root tap texts) status
lines_stopped profile root tap texts status stopped =
    elim stopped [
      | inl model ↦ inl model
      | inr at ↦ inr (
        at.0,
        at.1,
        elim at.2 [
          | inl unread ↦ inl unread
          | inr read ↦ inr (
            read.0,
            read.1,
            elim read.2 [
              | inl unnamed ↦ inl unnamed
              | inr named ↦ inr (named.0, named.1, elim named.2 [ inl large ↦ inl large | inr none ↦ absurd none.2 ])
            ],
          )
        ],
      )
    ]

module _ (profile : Profile) (voices : List Voice) (asked : Request) (texts : List (List ℕ)) where
  text_passes : (tells : Bool) (k : Kind) → is_require k ≡ tells → (output : Output) → Passed (output_with tells profile k voices asked texts) output → Passed (text_by profile k voices asked texts) output.text
  text_passes true k is output passed =
      let all = passed.2 in
      let named = all.2 in
      let slices = named.2 in
      let lines : Passed (text_by profile kind.Require voices asked texts) output.text = (passed.0, passed.1, (all.0, all.1, (named.0, named.1, (slices.0, slices.1, (output, slices.2, refl))))) in
      subst (λ (its : Kind). Passed (text_by profile its voices asked texts) output.text) (sym (require_is k is)) lines
  text_passes false k is output passed = subst (λ (text : List ℕ). Passed (text_by profile k voices asked texts) text) (sym (ap (λ (o : Output). o.text) passed.2)) passed.1

  text_stopped : (tells : Bool) (k : Kind) → is_require k ≡ tells → (status : Status) → Stopped (output_with tells profile k voices asked texts) status → Stopped (text_by profile k voices asked texts) status
  text_stopped true k is status stopped =
      subst (λ (its : Kind). Stopped (text_by profile its voices asked texts) status) (sym (require_is k is)) (lines_stopped profile asked.root (is_set asked.options (codes "tap")) texts status stopped)
  text_stopped false k is status stopped = elim stopped [ inl here ↦ here | inr none ↦ absurd none.2 ]

  -- whether a requirement is not met is decided, where none is on a probability
  met_once : (tells : Bool) (k : Kind) → is_require k ≡ tells → HasSets k texts → (a b : Output) → Passed (output_with tells profile k voices asked texts) a → Passed (output_with tells profile k voices asked texts) b → a.met ≡ b.met
  met_once true k is sets a b p q =
      let tap : Bool = is_set asked.options (codes "tap") in
      let none : HasNoProbability (first_text texts) = subst (λ (its : Kind). HasSets its texts) (require_is k is) sets in
      ap (λ (o : Output). o.met) (decided.one_value IsSameStatus (required_in profile asked.root tap texts) (required_in_decided profile asked.root tap texts none) a b (record { passed = p }) (record { passed = q }))
  met_once false k is sets a b p q = ap (λ (o : Output). o.met) p.2 ∙ sym (ap (λ (o : Output). o.met) q.2)

module _ (words : List (List ℕ)) (contents : List ℕ → Option (List ℕ)) (voices : List Voice) where
  pub due_text : (output : Output) → Passes (due words contents voices) output → Passes (text_due words contents voices) output.text
  due_text output due_is =
      let given = due_is.passed in
      let asked : Request = given.0 in
      let texts : List (List ℕ) = given.2.0 in
      record { passed = (asked, given.1, (texts, given.2.1, text_passes (profile_of asked.options.form) voices asked texts (is_require asked.kind) asked.kind refl output given.2.2)) }

  pub due_stop : (status : Status) → Stops (due words contents voices) status → Stops (text_due words contents voices) status
  due_stop status due_is =
      elim due_is.stopped [
        | inl none ↦ record { stopped = inl none }
        | inr there ↦ elim there.2 [
          | inl read ↦ record { stopped = inr (there.0, there.1, inl read) }
          | inr last ↦ record { stopped = inr (there.0, there.1, inr (last.0, last.1, text_stopped (profile_of there.0.options.form) voices there.0 last.0 (is_require there.0.kind) there.0.kind refl status last.2)) }
        ]
      ]

  pub same_met : AllTold words contents voices → AskForSets words contents voices → (a b : Output) → Passes (due words contents voices) a → Passes (due words contents voices) b → a.met ≡ b.met
  same_met told sets a b p q = go p.passed.0 q.passed.0 (one_request (labels voices) words p.passed.0 q.passed.0 p.passed.1 q.passed.1) p.passed.1 p.passed.2.0 q.passed.2.0 p.passed.2.1 q.passed.2.1 p.passed.2.2 q.passed.2.2
    where
      go : (asked other : Request) → asked ≡ other → IsRequest (labels voices) words asked → (texts others : List (List ℕ)) → Passed (texts_of contents asked.files) texts → Passed (texts_of contents other.files) others
          → Passed (output_for asked.kind voices asked texts) a → Passed (output_for other.kind voices other others) b → a.met ≡ b.met
      go asked other same is texts others read also x y =
          let read_too : Passed (texts_of contents asked.files) others = subst (λ (its : Request). Passed (texts_of contents its.files) others) (sym same) also in
          let equal : texts ≡ others = decided.one_value IsSameStatus (texts_of contents asked.files) (texts_decided contents asked.files (told asked is)) texts others (record { passed = read }) (record { passed = read_too }) in
          let its_too : Passed (output_for asked.kind voices asked others) b = subst (λ (its : Request). Passed (output_for its.kind voices its others) b) (sym same) y in
          let its : Passed (output_for asked.kind voices asked texts) b = subst (λ (these : List (List ℕ)). Passed (output_for asked.kind voices asked these) b) (sym equal) its_too in
          let here : HasSets asked.kind texts = subst (HasSets asked.kind) (sym read.2.2.2.2) (sets asked is read.2.0 read.2.1) in
          met_once (profile_of asked.options.form) voices asked texts (is_require asked.kind) asked.kind refl here a b x its

  -- ---- one end at most

  pub one_output : AllTold words contents voices → AskForOneText words contents voices → (a b : Output) → IsOutput words contents voices a → IsOutput words contents voices b → a ≡ b
  one_output told one a b p q =
      let text : a.text ≡ b.text = decided.one_value IsSameStatus (text_due words contents voices) (text_due_decided words contents voices told one) a.text b.text (due_text a p) (due_text b q) in
      let met : a.met ≡ b.met = same_met told one.1 a b p q in
      let same : ◌≡◌ {A = Output} (record { text = a.text; met = a.met }) (record { text = b.text; met = b.met }) = cc (text, met) in
      same

  pub one_due : AllTold words contents voices → AskForOneText words contents voices → (a b : Result Output Status) → IsDue (due words contents voices) a → IsDue (due words contents voices) b → IsSameEnd IsSameStatus a b
  one_due told one (Ok x) (Ok y) p q = one_output told one x y p q
  one_due told one (Ok x) (Err t) p q = decided.not_both IsSameStatus (text_due words contents voices) (text_due_decided words contents voices told one) x.text t (due_text x p) (due_stop t q)
  one_due told one (Err s) (Ok y) p q = decided.not_both IsSameStatus (text_due words contents voices) (text_due_decided words contents voices told one) y.text s (due_text y q) (due_stop s p)
  one_due told one (Err s) (Err t) p q = decided.one_stop IsSameStatus (text_due words contents voices) (text_due_decided words contents voices told one) s t (due_stop s p) (due_stop t q)

  -- ---- ends are alike

  text_alike : AllTold words contents voices → (a b : Result (List ℕ) Status) → IsDue (text_due words contents voices) a → IsDue (text_due words contents voices) b → IsLikeEnd IsSameStatus a b
  text_alike told = alike IsSameStatus (text_due words contents voices) (text_due_opened words contents voices told)

  pub one_end : AllTold words contents voices → (a b : Result Output Status) → IsDue (due words contents voices) a → IsDue (due words contents voices) b → IsLikeEnd IsSameStatus a b
  one_end told (Ok x) (Ok y) p q = tt
  one_end told (Ok x) (Err t) p q = text_alike told (Ok x.text) (Err t) (due_text x p) (due_stop t q)
  one_end told (Err s) (Ok y) p q = text_alike told (Err s) (Ok y.text) (due_stop s p) (due_text y q)
  one_end told (Err s) (Err t) p q = text_alike told (Err s) (Err t) (due_stop s p) (due_stop t q)

  -- where a text is due, there is an output
  pub text_or_not : AllTold words contents voices → (a : Result Output Status) (text : List ℕ) → IsDue (due words contents voices) a → Passes (text_due words contents voices) text → IsOk a
  text_or_not told (Ok x) text p q = refl
  text_or_not told (Err s) text p q = absurd (text_alike told (Err s) (Ok text) (due_stop s p) q)
