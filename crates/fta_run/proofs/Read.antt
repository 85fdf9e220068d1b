-- A run on files that are held.
use Rattle.std.proofs.Common.{◌≡◌, ◌≤◌, ◌<◌, ◌==◌, ◌∙◌, ℕ, nat_lt, Bool, true, false, if◌then◌else◌, List, [], ◌∷◌, length, Option, Some, Result, refl, ap, sym, subst, arith, inl, inr}
use Rattle.std.specs.Prelude.{cond}
use Rattle.std.specs.Option.{IsSome}
use Rattle.std.specs.List.{AllByRecursion}
use Rattle.std.proofs.lemmas.Bool.{false≢true}
use Rattle.std.proofs.lemmas.Bool.Decides.{nat_tests}
use Rattle.std.proofs.lemmas.Slice.Eq.{bytes_eq-Decides}
use Rattle.plain_values.specs.Name.{is_same_text}
use Rattle.phases.specs.Phases.{IsDue}
use Rattle.phases.specs.declared.status.Status.{Status}
use Rattle.phases.specs.declared.status.Status.TheVariants.{ReadFault, WriteFault}
use Rattle.fta_outside.specs.Outside.{Rose, Seen}
use Rattle.system_answers.specs.Voices.{Voice, labels}
use Rattle.fta_run.specs.Answers.{AllTold, AnswersWords, AskForSets, IsCaused, IsJustified, IsOutput, MayCome, Took}
use Rattle.fta_run.specs.Due.{due}
use Rattle.fta_run.specs.Required.{Output}
use Rattle.fta_run.specs.Files.{most_files}
use Rattle.fta_run.specs.inner.Held.{AreFronts, IsReadEnd, IsReportCaused, IsToRead, RanOn, text_of}
use Rattle.fta_run.specs.Words.{GiveRequest, IsRequest, Request, file_words}
use Rattle.fta_words.proofs.Requests.{file_words_are}

found_or : (test : Bool) (text : List ℕ) (later : Option (List ℕ)) → IsSome later → IsSome (if test then Some text else later)
found_or true text later some = refl
found_or false text later some = some

found_here : (test : Bool) (text : List ℕ) (later : Option (List ℕ)) → test ≡ true → IsSome (if test then Some text else later)
found_here true text later is = refl
found_here false text later is = absurd (cc (is))

later_told : (file text : List ℕ) (files texts names : List (List ℕ)) → AllByRecursion (λ name. IsSome (text_of files texts name)) names → AllByRecursion (λ name. IsSome (text_of (file ∷ files) (text ∷ texts) name)) names
later_told file text files texts [] told = tt
later_told file text files texts (name ∷ names) told = (found_or (is_same_text file name) text (text_of files texts name) told.0, later_told file text files texts names told.1)

-- each of the files that were read has its text
each_told : (contents : List ℕ → Option (List ℕ)) (files texts : List (List ℕ)) → AreFronts contents files texts → AllByRecursion (λ name. IsSome (text_of files texts name)) files
each_told contents [] texts fronts = tt
each_told contents (file ∷ files) [] fronts = absurd fronts
each_told contents (file ∷ files) (text ∷ texts) fronts =
    (found_here (is_same_text file file) text (text_of files texts file) ((bytes_eq-Decides file file).1 refl), later_told file text files texts files (each_told contents files texts fronts.1))

-- where they are those of the request, all files tell what they contain
all_told : (contents : List ℕ → Option (List ℕ)) (words : List (List ℕ)) (voices : List Voice) (files texts : List (List ℕ)) → IsToRead (labels voices) words files → AreFronts contents files texts → length (file_words words) ≤ most_files → AllTold words (text_of files texts) voices
all_told contents words voices files texts (inl (none, inl unasked)) fronts few asked is = absurd (unasked asked is)
all_told contents words voices files texts (inl (none, inr many)) fronts few asked is = absurd (omega (arith, many, few))
all_told contents words voices files texts (inr (given, less, are)) fronts few asked is =
    subst (AllByRecursion (λ name. IsSome (text_of files texts name))) (file_words_are (labels voices) words asked is)
    (subst (AllByRecursion (λ name. IsSome (text_of files texts name))) are (each_told contents files texts fronts))

-- of files that are read there are not too many
pub few_read : (names words files : List (List ℕ)) → IsToRead names words files → length files ≤ most_files
few_read names words files (inl (none, why)) = subst (λ (l : List (List ℕ)). length l ≤ most_files) (sym none) (omega arith)
few_read names words files (inr (given, few, are)) = subst (λ (l : List (List ℕ)). length l ≤ most_files) (sym are) few

-- where some are read, they are those of a request
pub some_read : (names words files : List (List ℕ)) → IsToRead names words files → (files ≡ [] → ⊥) → GiveRequest names words × (length (file_words words) ≤ most_files) × (files ≡ file_words words)
some_read names words files (inl (none, why)) some = absurd (some none)
some_read names words files (inr asked) some = asked

over_is : (n : ℕ) → nat_lt most_files n ≡ true → most_files < n
over_is n is = grind (arith, nat_tests)

within_is : (n : ℕ) → nat_lt most_files n ≡ false → n ≤ most_files
within_is n is = grind (arith, nat_tests)

-- the files of a request, where they are not too many
pub asked_read : (names words : List (List ℕ)) (asked : Request) → IsRequest names words asked → IsToRead names words (cond (nat_lt most_files (length asked.files)) [] asked.files)
asked_read names words asked is = go (nat_lt most_files (length asked.files)) refl
  where
    its : asked.files ≡ file_words words
    its = sym (file_words_are names words asked is)

    go : (many : Bool) → nat_lt most_files (length asked.files) ≡ many → IsToRead names words (cond many [] asked.files)
    go true over = inl (refl, inr (subst (λ (l : List (List ℕ)). most_files < length l) its (over_is (length asked.files) over)))
    go false within = inr ((asked, is), subst (λ (l : List (List ℕ)). length l ≤ most_files) its (within_is (length asked.files) within), its)

-- files are none, or some
zero_is : (n : ℕ) → (n == 0) ≡ true → n ≡ 0
zero_is n is = grind (arith, nat_tests)

pub none_are : (files : List (List ℕ)) → (length files == 0) ≡ true → files ≡ []
none_are [] is = refl
none_are (file ∷ files) is = absurd (omega (arith, zero_is (length (file ∷ files)) is))

pub some_are : (files : List (List ℕ)) → (length files == 0) ≡ false → files ≡ [] → ⊥
some_are files is none = false≢true (sym is ∙ ap (λ (l : List (List ℕ)). length l == 0) none)

-- no read of a file that is held fails
no_cause : (names words : List (List ℕ)) (before after : Seen) (RoseThere : ℕ → Type 0) (status : Status) (file : ℕ) → IsCaused status names words (λ name. 0) (λ name. 0) before after RoseThere → status ≡ ReadFault file → ⊥
no_cause names words before after RoseThere status file caused is =
    let it = subst (λ (s : Status). IsCaused s names words (λ name. 0) (λ name. 0) before after RoseThere) is caused in
    elim it.3 [ inl more ↦ omega (arith, more) | inr last ↦ omega (arith, last) ]

-- a write failed only where the count rose, and a report where it is chosen and its count rose
write_cause : (names words : List (List ℕ)) (before after : Seen) (RoseThere : ℕ → Type 0) (status : Status) → IsCaused status names words (λ name. 0) (λ name. 0) before after RoseThere → status ≡ WriteFault → Rose before.faults after.faults
write_cause names words before after RoseThere status caused is = subst (λ (s : Status). IsCaused s names words (λ name. 0) (λ name. 0) before after RoseThere) is caused

pub report_cause : (names words : List (List ℕ)) (before after : Seen) (RoseThere : ℕ → Type 0) (status : Status) → IsCaused status names words (λ name. 0) (λ name. 0) before after RoseThere → IsReportCaused names words RoseThere status
report_cause names words before after RoseThere status caused = λ place is. subst (λ (s : Status). IsCaused s names words (λ name. 0) (λ name. 0) before after RoseThere) is caused

-- where a read failed, no report did
pub none_failed : (names words : List (List ℕ)) (RoseThere : ℕ → Type 0) (files : List (List ℕ)) (before after : List ℕ → ℕ) (status : Status) → IsReadEnd files before after status → IsReportCaused names words RoseThere status
none_failed names words RoseThere files before after status (inl memory) = λ place is. absurd (cc (memory, is))
none_failed names words RoseThere files before after status (inr fault) = λ place is. let here = fault.1 in absurd (cc (here, is))

-- a run on files that are held ended so
pub ran_on : (contents : List ℕ → Option (List ℕ)) (words : List (List ℕ)) (voices : List Voice) (names : List (List ℕ)) (files texts : List (List ℕ)) (status : Status) (before after : Seen) (RoseThere : ℕ → Type 0)
    → IsToRead (labels voices) words files → AreFronts contents files texts
    → IsJustified words (text_of files texts) voices status → Took (IsOutput words (text_of files texts) voices) status before after
    → (AllTold words (text_of files texts) voices → (its_due : Result Output Status) → IsDue (due words (text_of files texts) voices) its_due → MayCome (AskForSets words (text_of files texts) voices) its_due status)
    → IsCaused status names words (λ name. 0) (λ name. 0) before after RoseThere
    → RanOn words (text_of files texts) voices status before after
ran_on contents words voices names files texts status before after RoseThere named fronts verdict output complete caused =
    record {
      verdict = verdict;
      output = output;
      complete = λ few its_due is. complete (all_told contents words voices files texts named fronts few) its_due is;
      no_fault = λ file is. no_cause names words before after RoseThere status file caused is;
      write_fault = write_cause names words before after RoseThere status caused;
    }

-- a read ended so, of words that give a request
pub read_answers : (names words files : List (List ℕ)) (before after : List ℕ → ℕ) (status : Status) → IsReadEnd files before after status → GiveRequest names words → AnswersWords status names words
read_answers names words files before after status (inl memory) given = subst (λ (s : Status). AnswersWords s names words) (sym memory) tt
read_answers names words files before after status (inr fault) given = let here = fault.1 in subst (λ (s : Status). AnswersWords s names words) (sym here) given
