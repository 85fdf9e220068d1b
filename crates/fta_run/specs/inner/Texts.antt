-- The text of a request alone, without what it tells of requirements.
use Rattle.std.specs.Prelude.{ℕ, List, Option}
use Rattle.phases.specs.Phases.{Phase, finds, ◌>>=◌}
use Rattle.phases.specs.declared.status.Status.TheVariants.{Usage}
use Rattle.system_answers.specs.Voices.{Voice, labels}
use Rattle.fta_run.specs.Due.{text_by, texts_of}
use Rattle.fta_run.specs.Forms.{profile_of}
use Rattle.fta_run.specs.Words.{IsRequest, Kind, Request}

-- the text of a command by the profile that the options say
abbrev pub text_for : Kind → List Voice → Request → List (List ℕ) → Phase (List ℕ)
text_for kind voices asked texts = text_by (profile_of asked.options.form) kind voices asked texts

-- the text of a request, where this is what the files contain, and these are the reports
abbrev pub request_text : (List ℕ → Option (List ℕ)) → List Voice → Request → Phase (List ℕ)
request_text contents voices asked = do
  texts ← texts_of contents asked.files
  text_for asked.kind voices asked texts

-- the text of the request that the words give
abbrev pub text_due : List (List ℕ) → (List ℕ → Option (List ℕ)) → List Voice → Phase (List ℕ)
text_due words contents voices = do
  asked ← finds (IsRequest (labels voices) words) Usage
  request_text contents voices asked
