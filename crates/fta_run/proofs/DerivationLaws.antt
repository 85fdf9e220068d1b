-- What is written of a derivation in the files of a model, and what is accepted.
use Rattle.std.proofs.Common.{◌≡◌, ◌∷◌, ℕ, List, [], Option, ap, arith}
use Rattle.fta_words.specs.declared.kind.Kind.TheVariants.{Confirm, Why}
use Rattle.fault_system.specs.Truth.{set_of}
use Rattle.fault_system.specs.Systems.{Holds}
use Rattle.cutset_lister.specs.SetText.{IsSetOfText}
use Rattle.phases.specs.Phases.{Passed, Passes}
use Rattle.model_phases.specs.declared.flat.FlatModel.{FlatModel}
use Rattle.system_answers.specs.Derivations.{accepted_text}
use Rattle.system_answers.specs.Targets.{IsFactNamed}
use Rattle.system_answers.specs.Voices.{Voice}
use Rattle.system_answers.proofs.Derived.{accepted-holds, why-confirmed}
use Rattle.fta_run.specs.Forms.{profile_of}
use Rattle.fta_run.specs.Sets.{set_asked}
use Rattle.fta_run.specs.Due.{model_of_texts, other_texts, texts_of}
use Rattle.fta_run.specs.inner.Texts.{request_text}
use Rattle.fta_run.specs.Files.{too_long_from}
use Rattle.fta_run.specs.inner.Files.{StandsBefore, ask}
use Rattle.fta_run.specs.Words.{Request}
use Rattle.fta_run.proofs.Inputs.{clear_few, clear_short, from_short, no_refusals, short_of}
use Rattle.fta_run.proofs.Names.{plain_model}

-- the texts of files, and one more before them
more_texts : (contents : List ℕ → Option (List ℕ)) (files texts : List (List ℕ)) (file text : List ℕ) → Passed (texts_of contents files) texts → StandsBefore contents files file text → Passed (texts_of contents (file ∷ files)) (text ∷ texts)
more_texts contents files texts file text passed before =
    let read = passed.2.0 in
    let may = passed.2.1 in
    let none : too_long_from 0 read ≡ [] = no_refusals (too_long_from 0 read) passed.2.2.1 in
    let short : too_long_from 0 (text ∷ read) ≡ [] = from_short 0 (text ∷ read) (before.short, short_of 0 read none) in (
      tt,
      clear_few (file ∷ files) (omega (arith, before.few)),
      (
        text ∷ read,
        (before.contained, may),
        (
          tt,
          clear_short (text ∷ read) short,
          (
            tt,
            (λ refusal much. absurd (omega (arith, much.0, before.little read may))),
            ap (λ its. text ∷ its) passed.2.2.2.2,
          ),
        ),
      ),
    )

pub confirms-why : (contents : List ℕ → Option (List ℕ)) (voices : List Voice) (asked : Request) (files : List (List ℕ)) (file lines : List ℕ)
    → Passes (request_text contents voices (ask Why files asked)) lines → StandsBefore contents files file lines
    → (count : ℕ) × Passes (request_text contents voices (ask Confirm (file ∷ files) asked)) (accepted_text count)
confirms-why contents voices asked files file lines why before =
    let texts = why.passed.0 in
    let read = why.passed.1 in
    let model = why.passed.2.0 in
    let at = why.passed.2.1 in
    let its : Passes (model_of_texts (profile_of asked.options.form) asked.root texts) model = record { passed = at } in
    let plain = plain_model (profile_of asked.options.form) asked.root texts model at in
    let confirmed = why-confirmed model.system asked.target (set_asked (profile_of asked.options.form) asked.options.set model.system) lines plain.system.is_system (record { passed = why.passed.2.2 }) in
    (confirmed.0, record { passed = (lines ∷ texts, more_texts contents files texts file lines read before, (model, its, confirmed.1.passed)) })

pub holds-where-confirmed : (contents : List ℕ → Option (List ℕ)) (voices : List Voice) (asked : Request) (files : List (List ℕ)) (answer : List ℕ)
    → Passes (request_text contents voices (ask Confirm files asked)) answer
    → (texts : List (List ℕ)) × (model : FlatModel) × Passes (texts_of contents files) texts × Passes (model_of_texts (profile_of asked.options.form) asked.root (other_texts texts)) model
    × ((number : ℕ) × (events : List ℕ) × IsFactNamed model.system asked.target number × IsSetOfText model.system (set_asked (profile_of asked.options.form) asked.options.set model.system) events × Holds model.system (set_of events) number)
holds-where-confirmed contents voices asked files answer confirmed =
    let texts = confirmed.passed.0 in
    let model = confirmed.passed.2.0 in
    (texts, model, record { passed = confirmed.passed.1 }, confirmed.passed.2.1, accepted-holds model.system asked.target (set_asked (profile_of asked.options.form) asked.options.set model.system) _ answer (record { passed = confirmed.passed.2.2 }))
