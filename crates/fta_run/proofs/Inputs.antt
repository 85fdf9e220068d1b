-- The texts of the files, and the first refusal of their number, their lengths and their tokens.
use Rattle.std.proofs.Common.{◌≡◌, ◌<◌, ◌≤◌, ◌+◌, ℕ, suc, Bool, true, false, if◌then◌else◌, nat_lt, min, List, [], ◌∷◌, ◌++◌, length, get_or, take, drop, sum_by, Option, Some, None, IfSome, Contains, MatchOption, refl, sym, ap, subst, ◌∙◌, inl, inr, arith, length-take, add-one, drop-cons}
use Rattle.std.specs.List.{AllByRecursion}
use Rattle.std.proofs.lemmas.Bool.{cases_lt}
use Rattle.std.proofs.lemmas.Bool.Decides.{nat_tests}
use Rattle.std.proofs.lemmas.List.{drop_all, take_all}
use borrow.Author.Tests.{le-ltb, lt-ltb}
use Rattle.plain_values.specs.declared.refusal.Code.TheVariants.{FileTooLong, TooManyFiles}
use Rattle.plain_values.specs.declared.refusal.Place.TheVariants.{Whole}
use Rattle.plain_values.specs.declared.refusal.Refusal.{Refusal}
use Rattle.plain_values.specs.Order.{IsClear, IsFirst, least, nearer}
use Rattle.plain_values.proofs.OrderLaws.{nearer-none, noted-more, least-first, first_alone}
use Rattle.plain_values.specs.Refusal.{refusal, of_words}
use Rattle.phases.specs.Phases.{Passed, Passes, Stops, tests}
use Rattle.phases.specs.declared.status.Status.TheVariants.{Refused}
use Rattle.fta_run.specs.Due.{first_text, texts_of}
use Rattle.fta_run.specs.Files.{HasTooLong, HasTooMuch, MayContain, NamesTooMany, most_bytes, most_files, most_text, too_long, too_long_from}
use Rattle.fta_run.specs.inner.Held.{AreFronts}
use Rattle.fta_run.specs.inner.Read.{few_texts}

-- ---- noting the files that are too long, one after the other

pub each_step : (first next : Option Refusal) (file : ℕ) (text : List ℕ) (texts : List (List ℕ)) (goal : Option Refusal) → file < length texts → text ≡ get_or texts file text → next ≡ nearer first (least (too_long file text)) → nearer first (least (too_long_from file (drop file texts))) ≡ goal → nearer next (least (too_long_from (file + 1) (drop (file + 1) texts))) ≡ goal
each_step first next file text texts goal within is noted before =
    let split : drop file texts ≡ text ∷ drop (suc file) texts = drop-cons texts file text within ∙ ap (λ t. t ∷ drop (suc file) texts) (sym is) in
    rw add-one (noted-more first next (too_long file text) (too_long_from (suc file) (drop (suc file) texts)) noted ∙ ap (λ left. nearer first (least (too_long_from file left))) (sym split) ∙ before)

-- what was noted of all files
pub each_end : (first : Option Refusal) (texts : List (List ℕ)) (file : ℕ) → length texts ≤ file → nearer first (least (too_long_from file (drop file texts))) ≡ least (too_long_from 0 texts) → MatchOption first (too_long_from 0 texts ≡ []) (λ refusal. IsFirst (HasTooLong texts) refusal)
each_end first texts file all noted =
    let none_left : drop file texts ≡ [] = drop_all file texts all in
    let is : first ≡ least (too_long_from 0 texts) = sym (nearer-none first) ∙ ap (λ left. nearer first (least (too_long_from file left))) (sym none_left) ∙ noted in
    subst (λ o. MatchOption o (too_long_from 0 texts ≡ []) (λ refusal. IsFirst (HasTooLong texts) refusal)) (sym is) (least-first (too_long_from 0 texts))

-- ---- texts that are not too long

append-none : (xs ys : List Refusal) → xs ++ ys ≡ [] → (xs ≡ []) × (ys ≡ [])
append-none [] ys none = (refl, none)
append-none (x ∷ xs) ys none = absurd (cc)

-- the refusal of a file that is too long, or not
abbrev refused_long : ℕ → Bool → List Refusal
refused_long file long = if long then refusal FileTooLong (Whole file) ∷ [] else []

not_above : (limit n : ℕ) → n ≤ limit → nat_lt limit n ≡ false
not_above limit n within = le-ltb limit n within

not_long : (limit file n : ℕ) (long : Bool) → nat_lt limit n ≡ long → refused_long file long ≡ [] → n ≤ limit
not_long limit file n true is none = absurd (cc)
not_long limit file n false is none = grind (arith, nat_tests)

not_too_long : (file : ℕ) (text : List ℕ) → too_long file text ≡ [] → length text ≤ most_bytes
not_too_long file text none = not_long most_bytes file (length text) (nat_lt most_bytes (length text)) refl none

pub short_of : (file : ℕ) (texts : List (List ℕ)) → too_long_from file texts ≡ [] → AllByRecursion (λ text. length text ≤ most_bytes) texts
short_of file [] none = tt
short_of file (text ∷ texts) none =
    let both = append-none (too_long file text) (too_long_from (suc file) texts) none in
    (not_too_long file text both.0, short_of (suc file) texts both.1)

pub from_short : (file : ℕ) (texts : List (List ℕ)) → AllByRecursion (λ text. length text ≤ most_bytes) texts → too_long_from file texts ≡ []
from_short file [] short = refl
from_short file (text ∷ texts) short =
    let fits : length text ≤ most_bytes = short.0 in
    let none : too_long file text ≡ [] = ap (refused_long file) (not_above most_bytes (length text) fits) in
    ap (λ one. one ++ too_long_from (suc file) texts) none ∙ from_short (suc file) texts short.1

-- ---- what was read of a file tells whether it is too long

capped_long : (limit n m : ℕ) → m ≡ min (limit + 1) n → nat_lt limit m ≡ nat_lt limit n
capped_long limit n m is =
    elim (cases_lt limit n) [
      | inl above ↦ let more : limit < m = omega arith in lt-ltb limit m more ∙ sym (lt-ltb limit n above)
      | inr within ↦ let same : m ≡ n = omega arith in ap (nat_lt limit) same
    ]

front_long : (text : List ℕ) → nat_lt most_bytes (length (take (suc most_bytes) text)) ≡ nat_lt most_bytes (length text)
front_long text = capped_long most_bytes (length text) (length (take (suc most_bytes) text)) (length-take (suc most_bytes) text)

too_long-front : (file : ℕ) (text : List ℕ) → too_long file (take (suc most_bytes) text) ≡ too_long file text
too_long-front file text = ap (refused_long file) (front_long text)

-- ---- texts that the files may contain, of which these are fronts

-- what a file contains, or else what was read of it
abbrev whole_of : Option (List ℕ) → List ℕ → List ℕ
whole_of None read = read
whole_of (Some whole) read = whole

abbrev wholes : (List ℕ → Option (List ℕ)) → List (List ℕ) → List (List ℕ) → List (List ℕ)
wholes contents [] read = []
wholes contents (file ∷ files) [] = []
wholes contents (file ∷ files) (text ∷ read) = whole_of (contents file) text ∷ wholes contents files read

may_be : (told : Option (List ℕ)) (text : List ℕ) → IfSome told (λ whole. whole_of told text ≡ whole)
may_be None text = tt
may_be (Some whole) text = refl

same_long : (file : ℕ) (told : Option (List ℕ)) (text : List ℕ) → IfSome told (λ whole. text ≡ take (suc most_bytes) whole) → too_long file text ≡ too_long file (whole_of told text)
same_long file None text front = refl
same_long file (Some whole) text front = ap (too_long file) front ∙ too_long-front file whole

-- a text that was read and is not too long is what the file may contain
same_text : (told : Option (List ℕ)) (text : List ℕ) → length text ≤ most_bytes → IfSome told (λ whole. text ≡ take (suc most_bytes) whole) → IfSome told (λ whole. text ≡ whole)
same_text None text short front = tt
same_text (Some whole) text short front =
    let count : length text ≡ min (suc most_bytes) (length whole) = ap length front ∙ length-take (suc most_bytes) whole in
    let fits : length whole ≤ suc most_bytes = omega (arith, count, short) in
    front ∙ take_all (suc most_bytes) whole fits

-- a file is too long
wholes_contained : (contents : List ℕ → Option (List ℕ)) (files read : List (List ℕ)) → AreFronts contents files read → MayContain contents files (wholes contents files read)
wholes_contained contents [] [] fronts = tt
wholes_contained contents [] (text ∷ read) fronts = absurd fronts
wholes_contained contents (file ∷ files) [] fronts = absurd fronts
wholes_contained contents (file ∷ files) (text ∷ read) fronts = (may_be (contents file) text, wholes_contained contents files read fronts.1)

wholes_long : (contents : List ℕ → Option (List ℕ)) (number : ℕ) (files read : List (List ℕ)) → AreFronts contents files read → too_long_from number read ≡ too_long_from number (wholes contents files read)
wholes_long contents number [] [] fronts = refl
wholes_long contents number [] (text ∷ read) fronts = absurd fronts
wholes_long contents number (file ∷ files) [] fronts = absurd fronts
wholes_long contents number (file ∷ files) (text ∷ read) fronts =
    ap (λ one. one ++ too_long_from (suc number) read) (same_long number (contents file) text fronts.0) ∙ ap (λ more. too_long number (whole_of (contents file) text) ++ more) (wholes_long contents (suc number) files read fronts.1)

-- no file is too long
pub contained : (contents : List ℕ → Option (List ℕ)) (files read : List (List ℕ)) → AllByRecursion (λ text. length text ≤ most_bytes) read → AreFronts contents files read → MayContain contents files read
contained contents [] [] short fronts = tt
contained contents [] (text ∷ read) short fronts = absurd fronts
contained contents (file ∷ files) [] short fronts = absurd fronts
contained contents (file ∷ files) (text ∷ read) short fronts = (same_text (contents file) text short.0 fronts.0, contained contents files read short.1 fronts.1)

-- ---- the answers of the reading

pub clear_few : (files : List (List ℕ)) → length files ≤ most_files → IsClear (NamesTooMany files)
clear_few files few = λ refusal many. absurd (omega (arith, many.0, few))

pub clear_short : (texts : List (List ℕ)) → too_long_from 0 texts ≡ [] → IsClear (HasTooLong texts)
clear_short texts none = λ refusal there. let in_none : Contains [] refusal = subst (λ group. Contains group refusal) none there in absurd (omega (arith, in_none.1))

-- too many files are named
pub many_refused : (contents : List ℕ → Option (List ℕ)) (files : List (List ℕ)) → most_files < length files → Stops (texts_of contents files) (Refused (of_words TooManyFiles))
many_refused contents files many =
    let first : IsFirst (NamesTooMany files) (of_words TooManyFiles) = first_alone (NamesTooMany files) (of_words TooManyFiles) (many, refl) (λ other also. also.1) in
    record { stopped = inl (of_words TooManyFiles, first, refl) }

-- the same of texts that were read
pub few_refused : (texts : List (List ℕ)) → most_files < length texts → Stops (few_texts texts) (Refused (of_words TooManyFiles))
few_refused texts many =
    let first : IsFirst (NamesTooMany texts) (of_words TooManyFiles) = first_alone (NamesTooMany texts) (of_words TooManyFiles) (many, refl) (λ other also. also.1) in
    record { stopped = inl (of_words TooManyFiles, first, refl) }

pub few_pass : (texts : List (List ℕ)) → length texts ≤ most_files → Passes (tests (NamesTooMany texts)) tt
few_pass texts few = record { passed = clear_few texts few }

-- a file is too long
pub long_refused : (contents : List ℕ → Option (List ℕ)) (files read : List (List ℕ)) (refusal : Refusal) → length files ≤ most_files → AreFronts contents files read → IsFirst (HasTooLong read) refusal → Stops (texts_of contents files) (Refused refusal)
long_refused contents files read refusal few fronts first =
    let texts = wholes contents files read in
    let its : IsFirst (HasTooLong texts) refusal = subst (λ group. IsFirst (Contains group) refusal) (wholes_long contents 0 files read fronts) first in
    record { stopped = inr (tt, clear_few files few, inr (texts, wholes_contained contents files read fronts, inl (refusal, its, refl))) }

-- all files are too long together
pub much_refused : (contents : List ℕ → Option (List ℕ)) (files read : List (List ℕ)) (refusal : Refusal) → length files ≤ most_files → AreFronts contents files read → too_long_from 0 read ≡ [] → HasTooMuch read refusal → Stops (texts_of contents files) (Refused refusal)
much_refused contents files read refusal few fronts none much =
    let first : IsFirst (HasTooMuch read) refusal = first_alone (HasTooMuch read) refusal much (λ other also. also.1 ∙ sym much.1) in
    record { stopped = inr (tt, clear_few files few, inr (read, contained contents files read (short_of 0 read none) fronts, inr (tt, clear_short read none, inl (refusal, first, refl)))) }

-- nothing is refused
pub texts_pass : (contents : List ℕ → Option (List ℕ)) (files read : List (List ℕ)) → length files ≤ most_files → AreFronts contents files read → too_long_from 0 read ≡ [] → sum_by length read ≤ most_text → Passes (texts_of contents files) read
texts_pass contents files read few fronts none little = record {
  passed = (tt, clear_few files few, (read, contained contents files read (short_of 0 read none) fronts, (tt, clear_short read none, (tt, (λ refusal much. absurd (omega (arith, much.0, little))), refl))));
}

-- ---- texts that passed

pub no_refusals : (refusals : List Refusal) → IsClear (Contains refusals) → refusals ≡ []
no_refusals [] clear = refl
no_refusals (refusal ∷ refusals) clear = absurd (clear refusal (0, omega arith, refl))

first_of : (texts : List (List ℕ)) → AllByRecursion (λ text. length text ≤ most_bytes) texts → length (first_text texts) ≤ most_bytes
first_of [] short = omega arith
first_of (text ∷ texts) short = short.0

-- the first of the texts is not too long
pub first_short : (contents : List ℕ → Option (List ℕ)) (files texts : List (List ℕ)) → Passed (texts_of contents files) texts → length (first_text texts) ≤ most_bytes
first_short contents files texts passed =
    let read = passed.2.0 in
    let none : too_long_from 0 read ≡ [] = no_refusals (too_long_from 0 read) passed.2.2.1 in
    subst (λ its. length (first_text its) ≤ most_bytes) (sym passed.2.2.2.2) (first_of read (short_of 0 read none))
