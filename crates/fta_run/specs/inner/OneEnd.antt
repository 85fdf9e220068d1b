-- How far the end of a phase is decided, where the text of a tree with merged gates is the last of it.
use Rattle.std.specs.Prelude.{◌≡◌, false, List, ℕ, Option, Result, MatchResult, codes}
use Rattle.phases.specs.Phases.{Phase, Passed, yields, tells, chains}
use Rattle.phases.specs.inner.Phases.{IsDecided}
use Rattle.phases.specs.declared.status.Status.{Status}
use Rattle.fta_words.specs.declared.kind.Kind.TheVariants as kind
use Rattle.fta_run.specs.Answers.{AskForSets}
use Rattle.fta_run.specs.Forms.{is_merging}
use Rattle.fta_run.specs.Words.{IsRequest, Kind, Request, is_set}
use Rattle.system_answers.specs.Voices.{Voice, labels}

-- Two ends of a phase are alike: both are values, or the statuses are the same.
abbrev pub IsLikeEnd : {A : Type 0} → (Status → Status → Type 0) → Result A Status → Result A Status → Type 0
IsLikeEnd Same a b = MatchResult a (λ x. MatchResult b (λ y. Unit {0}) (λ t. ⊥)) (λ s. MatchResult b (λ y. ⊥) (λ t. Same s t))

-- A phase is decided, but that more than one value may pass the last of its parts.
abbrev pub IsDecidedButLast : {A : Type 0} → (Status → Status → Type 0) → Phase A → Type 0
IsDecidedButLast Same (yields x) = Unit {0}
IsDecidedButLast {A} Same (tells Is Ends) = ((a : A) (status : Status) → Is a → Ends status → ⊥) × ((a b : Status) → Ends a → Ends b → Same a b)
IsDecidedButLast Same (chains {A = A} first later) = IsDecided Same first × ((x : A) → Passed first x → IsDecidedButLast Same (later x))

-- A request of this kind asks for no tree with merged gates, of which more than one may be made; not for refusals, which tell the place
-- of a syntax error, of which only that it is dead is said; and not for a probability, of which more than one pair of bounds is right.
abbrev pub KeepsGates : Kind → Request → Type 0
KeepsGates kind.Tree asked = is_merging asked.options.form ≡ false
KeepsGates kind.Galileo asked = (is_merging asked.options.form ≡ false) × (is_set asked.options (codes "probability") ≡ false)
KeepsGates kind.Refusals asked = ⊥
KeepsGates kind.Probability asked = ⊥
KeepsGates _ asked = Unit {0}

-- The words ask for no tree with merged gates, for no requirement on a probability, and not for refusals or a probability.
abbrev pub AskForOneText : List (List ℕ) → (List ℕ → Option (List ℕ)) → List Voice → Type 0
AskForOneText words contents voices = ((asked : Request) → IsRequest (labels voices) words asked → KeepsGates asked.kind asked) × AskForSets words contents voices
