-- Words that ask for a call to be explained, and words that do not.
use Rattle.std.proofs.Common.{◌≡◌, ◌==◌, ℕ, Bool, true, false, List, [], ◌∷◌, length, Option, inl, inr, arith, refl, sym, ap, ◌∙◌}
use Rattle.std.proofs.lemmas.Bool.{false≢true}
use Rattle.std.proofs.lemmas.Bool.Decides.{nat_tests}
use Rattle.phases.specs.declared.status.Status.{Status}
use Rattle.fta_outside.specs.Outside.{Seen}
use Rattle.system_answers.specs.Voices.{Voice}
use Rattle.fta_run.specs.inner.Held.{IsReportCaused}
use Rattle.explained_calls.specs.inner.Calls.{ComesOf, EndsExplained, Explains, IsRun, call_or}
use Rattle.explained_calls.specs.inner.Texts.{or_text}

zero_is : (n : ℕ) → (n == 0) ≡ true → n ≡ 0
zero_is n is = grind (arith, nat_tests)

pub no_words : {A : Type 0} (call : List A) → (length call == 0) ≡ true → call ≡ []
no_words [] is = refl
no_words (word ∷ call) is = absurd (omega (arith, zero_is (length (word ∷ call)) is))

pub some_words : {A : Type 0} (call : List A) → (length call == 0) ≡ false → call ≡ [] → ⊥
some_words {A = A} call is none = false≢true (sym is ∙ ap (λ (l : List A). length l == 0) none)

-- a text that is not empty stands for itself, and an empty one for the other
pub first_text : (text other : List ℕ) → (text ≡ [] → ⊥) → text ≡ or_text text other
first_text [] other some = absurd (some refl)
first_text (byte ∷ text) other some = refl

pub other_text : (text other : List ℕ) → text ≡ [] → other ≡ or_text text other
other_text [] other none = refl
other_text (byte ∷ text) other none = absurd (cc (none))

pub words_run : (call words : List (List ℕ)) → call ≡ [] → call_or call words ≡ words
words_run [] words none = refl
words_run (name ∷ call) words none = absurd (cc (none))

pub words_explained : (call words : List (List ℕ)) → (call ≡ [] → ⊥) → call_or call words ≡ call
words_explained [] words some = absurd (some refl)
words_explained (name ∷ call) words some = refl

module _ (words : List (List ℕ)) (contents : List ℕ → Option (List ℕ)) (faults_before faults_after : List ℕ → ℕ) (voices : List Voice) (status : Status) (before after : Seen) where
  pub is_run : (call : List (List ℕ)) → call ≡ [] → IsRun words contents faults_before faults_after voices status before after → ComesOf call words contents faults_before faults_after voices status before after
  is_run [] none run = run
  is_run (name ∷ call) none run = absurd (cc (none))

  pub is_explained : (call : List (List ℕ)) → (call ≡ [] → ⊥) → Explains call contents faults_before faults_after voices status before after → ComesOf call words contents faults_before faults_after voices status before after
  is_explained [] some told = absurd (some refl)
  is_explained (name ∷ call) some told = told

-- a report with whose fault a call is explained failed where the call was run
pub report_failed : (names words : List (List ℕ)) (RoseThere : ℕ → Type 0) (its_end status : Status) (before after : Seen)
    → EndsExplained its_end status before after → IsReportCaused names words RoseThere its_end → IsReportCaused names words RoseThere status
report_failed names words RoseThere its_end status before after (inl done) caused = λ place is. absurd (cc (done, is))
report_failed names words RoseThere its_end status before after (inr (inl unwritten)) caused = λ place is. let fault = unwritten.0 in absurd (cc (fault, is))
report_failed names words RoseThere its_end status before after (inr (inr (inl memory))) caused = λ place is. absurd (cc (memory, is))
report_failed names words RoseThere its_end status before after (inr (inr (inr (other, fault, its)))) caused = λ place is. caused place (its ∙ sym fault ∙ is)
