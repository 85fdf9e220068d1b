-- What is written is a token again.
use Rattle.std.proofs.Common.{ℕ, zero, suc, ◌+◌, ◌*◌, ◌^◌, ◌%◌, ◌≡◌, ◌≢◌, ◌<◌, ◌≤◌, Bool, true, false, cond, not, ◌&&◌, ◌==◌, List, [], ◌∷◌, ◌++◌, length, take, drop, codes, decimal, Option, Some, None, inl, inr, ⊎_elim, ap, ◌∙◌, sym, refl, arith, le-leb}
use Rattle.std.proofs.lemmas.Bool.{and_from, cases_lt, ne_eqb}
use Rattle.std.proofs.lemmas.Fmt.{decimal_by_steps, decimal_nonempty, length-decimal-le}
use Rattle.std.proofs.lemmas.List.{append_assoc, drop_at, length-append}
use Rattle.std.specs.List.{AllByRecursion, prefix_len}
use Rattle.std.specs.Option.{option_map}
use Rattle.aadl_syntax.specs.Form.{Digits, IsNumber, is_blank, is_digit}
use Rattle.aadl_lexer.specs.Scan.{begins, digits_len, number_len}
use Rattle.aadl_lexer.proofs.Numbers.{digits_most, digits_nil, number_most}
use Rattle.fault_system.proofs.Elements.{In}
use Rattle.galileo_writer.proofs.Bytes.{IsDigit, decimal-digits}
use Rattle.galileo_writer.proofs.OneText.{number-lacks}
use Rattle.property_reader.specs.declared.rate.RateKind.TheVariants.{Lambda, Prob}
use Rattle.galileo_reader.specs.declared.token.Front.{Front}
use Rattle.galileo_reader.specs.declared.token.Mark.{Mark}
use Rattle.galileo_reader.specs.declared.token.Token.{Token}
use Rattle.galileo_reader.specs.declared.token.Token.TheVariants as tokens
use Rattle.galileo_reader.specs.Marks.{mark_from}
use Rattle.galileo_reader.specs.Tokens.{blanks_len, closed_len, counts_len, figures_len, front_or, is_few, is_plain, name_len, plain_len, rate_at, rate_len, starts, token_at, word_at}
use Rattle.galileo_reader.specs.Statements.{digit_value, value_from}

prefix-more : (test : ℕ → Bool) (b : ℕ) (rest : List ℕ) (is : Bool) → test b ≡ is → prefix_len test (b ∷ rest) ≡ cond is (1 + prefix_len test rest) 0
prefix-more test b rest is e = ap (λ t. cond t (1 + prefix_len test rest) 0) e

pub prefix-again : (test : ℕ → Bool) (front : List ℕ) (stop : ℕ) (rest : List ℕ) → AllByRecursion (λ b. test b ≡ true) front → test stop ≡ false → prefix_len test (front ++ stop ∷ rest) ≡ length front
prefix-again test [] stop rest all e = prefix-more test stop rest false e
prefix-again test (b ∷ front) stop rest all e =
    let after : prefix_len test (front ++ stop ∷ rest) ≡ length front = prefix-again test front stop rest all.1 e in
    let more : 1 + prefix_len test (front ++ stop ∷ rest) ≡ length (b ∷ front) = omega (arith, after) in
    prefix-more test b (front ++ stop ∷ rest) true all.0 ∙ more

-- ---- a token behind blanks

-- the mark of a token
abbrev pub mark : Token → ℕ → ℕ → Mark
mark token at len = record { token = token; at = at; len = len }

pub mark-again : (front blanks : List ℕ) (b : ℕ) (rest : List ℕ) (t : Token) (len : ℕ) → AllByRecursion (λ b. is_blank b ≡ true) blanks → is_blank b ≡ false → token_at (b ∷ rest) ≡ Some (record { token = t; len = len })
    → mark_from false (front ++ (blanks ++ b ∷ rest)) (length front) ≡ Some (mark t (length front + length blanks) len)
unfolding mark_from
mark-again front blanks b rest t len all stop is =
    let text : List ℕ = front ++ (blanks ++ b ∷ rest) in
    let behind : drop (length front) (front ++ (blanks ++ b ∷ rest)) ≡ blanks ++ b ∷ rest = drop_at front (blanks ++ b ∷ rest) (length front) refl in
    let many : blanks_len (drop (length front) (front ++ (blanks ++ b ∷ rest))) ≡ length blanks = ap blanks_len behind ∙ prefix-again is_blank blanks b rest all stop in
    let there : drop (length front + length blanks) (front ++ (blanks ++ b ∷ rest)) ≡ b ∷ rest
    = ap (drop (length front + length blanks)) (sym (append_assoc front blanks (b ∷ rest))) ∙ drop_at (front ++ blanks) (b ∷ rest) (length front + length blanks) (length-append front blanks) in
    ap (λ n. option_map (λ (f : Front). mark f.token (length front + n) f.len) (token_at (drop (length front + n) (front ++ (blanks ++ b ∷ rest))))) many
    ∙ ap (option_map (λ (f : Front). mark f.token (length front + length blanks) f.len)) (ap token_at there ∙ is)

-- ---- names

closed : (n : ℕ) (rest : List ℕ) → n ≢ 0 → closed_len n (34 ∷ rest) ≡ n + 2
closed n rest some = ap (λ none. cond (not none && begins 34 (34 ∷ rest)) (n + 2) 0) (ne_eqb n 0 some)

pub name-again : (name rest : List ℕ) → name ≢ [] → AllByRecursion (λ b. is_plain b ≡ true) name → name_len (34 ∷ (name ++ 34 ∷ rest)) ≡ length name + 2
unfolding name_len
name-again name rest some all =
    let here : plain_len (name ++ 34 ∷ rest) ≡ length name = prefix-again is_plain name 34 rest all refl in
    ap (λ n. closed_len n (drop n (name ++ 34 ∷ rest))) here ∙ ap (closed_len (length name)) (drop_at name (34 ∷ rest) (length name) refl) ∙ closed (length name) rest (long name some)
  where
    long : (name : List ℕ) → name ≢ [] → length name ≢ 0
    long [] some e = some refl
    long (b ∷ name) some e = omega arith

named : (t : Token) (n m : ℕ) (other : Option Front) → n ≡ m + 2 → front_or t n other ≡ Some (record { token = t; len = m + 2 })
named t n m other e = ap (λ k. front_or t k other) e ∙ ap (λ none. cond none other (Some (record { token = t; len = m + 2 }))) (ne_eqb (m + 2) 0 (λ h. omega arith))

pub token-again : (name rest : List ℕ) → name ≢ [] → AllByRecursion (λ b. is_plain b ≡ true) name → token_at (34 ∷ (name ++ 34 ∷ rest)) ≡ Some (record { token = tokens.Name; len = length name + 2 })
unfolding token_at
token-again name rest some all = named tokens.Name (name_len (34 ∷ (name ++ 34 ∷ rest))) (length name) _ (name-again name rest some all)

-- ---- words

pub end-again : (rest : List ℕ) → token_at (59 ∷ rest) ≡ Some (record { token = tokens.End; len = 1 })
unfolding token_at
end-again rest = refl

pub top-again : (rest : List ℕ) → token_at (116 ∷ 111 ∷ 112 ∷ 108 ∷ 101 ∷ 118 ∷ 101 ∷ 108 ∷ rest) ≡ Some (record { token = tokens.Toplevel; len = 8 })
unfolding token_at name_len counts_len word_at
top-again rest = refl

pub and-again : (rest : List ℕ) → token_at (97 ∷ 110 ∷ 100 ∷ rest) ≡ Some (record { token = tokens.And; len = 3 })
unfolding token_at name_len counts_len word_at
and-again rest = refl

pub or-again : (rest : List ℕ) → token_at (111 ∷ 114 ∷ rest) ≡ Some (record { token = tokens.Or; len = 2 })
unfolding token_at name_len counts_len word_at
or-again rest = refl

-- ---- counts

digit-class : (b : ℕ) → IsDigit b → is_digit b ≡ true
digit-class b d = and_from _ _ (le-leb 48 b d.0) (le-leb b 57 d.1)

all-class : (xs : List ℕ) → AllByRecursion IsDigit xs → AllByRecursion (λ b. is_digit b ≡ true) xs
all-class [] all = tt
all-class (x ∷ xs) all = (digit-class x all.0, all-class xs all.1)

figures-again : (n stop : ℕ) (rest : List ℕ) → is_digit stop ≡ false → figures_len (decimal n ++ stop ∷ rest) ≡ length (decimal n)
figures-again n stop rest e = prefix-again is_digit (decimal n) stop rest (all-class (decimal n) (decimal-digits n)) e

few-digits : (n : ℕ) → n < 1000000000 → is_few (length (decimal n)) ≡ true
few-digits n small =
    let some : 0 < length (decimal n) = decimal_nonempty n (omega (arith, small)) in
    let most : length (decimal n) ≤ 9 = length-decimal-le 9 n (omega arith) (omega (arith, small)) (omega (arith, small)) in
    and_from _ _ (le-leb 1 (length (decimal n)) some) (le-leb (length (decimal n)) 9 most)

counted : (text : List ℕ) (least : ℕ) (m : ℕ) → figures_len text ≡ least → is_few least ≡ true → starts (drop least text) (codes "of") ≡ true → figures_len (drop (least + 2) text) ≡ m → is_few m ≡ true → counts_len text ≡ least + 2 + m
unfolding counts_len
counted text least m e few of also more =
    ap (λ n. cond (is_few n && (starts (drop n text) (codes "of") && is_few (figures_len (drop (n + 2) text)))) (n + 2 + figures_len (drop (n + 2) text)) 0) e
    ∙ ap (λ k. cond (is_few least && (starts (drop least text) (codes "of") && is_few k)) (least + 2 + k) 0) also
    ∙ ap (λ b. cond b (least + 2 + m) 0) (and_from _ _ few (and_from _ _ of more))

-- a text that begins with a digit begins with no `;` and no name
digit-first : (d : ℕ) (rest : List ℕ) (n : ℕ) → IsDigit d → counts_len (d ∷ rest) ≡ n + 2 → token_at (d ∷ rest) ≡ Some (record { token = tokens.Counts (figures_len (d ∷ rest)); len = n + 2 })
unfolding token_at name_len
digit-first d rest n digit e =
    ap (λ b. cond b (Some (record { token = tokens.End; len = 1 })) (front_or tokens.Name (cond (d == 34) (closed_len (plain_len rest) (drop (plain_len rest) rest)) 0) (front_or (tokens.Counts (figures_len (d ∷ rest))) (counts_len (d ∷ rest)) (word_at (d ∷ rest)))))
    (ne_eqb d 59 (λ h. omega (arith, digit.1, h)))
    ∙ ap (λ b. front_or tokens.Name (cond b (closed_len (plain_len rest) (drop (plain_len rest) rest)) 0) (front_or (tokens.Counts (figures_len (d ∷ rest))) (counts_len (d ∷ rest)) (word_at (d ∷ rest)))) (ne_eqb d 34 (λ h. omega (arith, digit.0, h)))
    ∙ named (tokens.Counts (figures_len (d ∷ rest))) (counts_len (d ∷ rest)) n _ e

-- digits begin with one
pub record FirstDigit (bytes : List ℕ) : Type 0 where
  pub first : ℕ
  pub more : List ℕ
  pub whole : bytes ≡ first ∷ more
  pub is : IsDigit first

first-digit : (bytes : List ℕ) → 0 < length bytes → AllByRecursion IsDigit bytes → FirstDigit bytes
first-digit [] some all = absurd (omega arith)
first-digit (b ∷ bytes) some all = record { first = b; more = bytes; whole = refl; is = all.0 }

pub decimal-first : (n : ℕ) → n < 1000000000 → FirstDigit (decimal n)
decimal-first n small = first-digit (decimal n) (decimal_nonempty n (omega (arith, small))) (decimal-digits n)

pub counts-again : (k n stop : ℕ) (rest : List ℕ) → k < 1000000000 → n < 1000000000 → is_digit stop ≡ false
    → token_at (decimal k ++ 111 ∷ 102 ∷ (decimal n ++ stop ∷ rest)) ≡ Some (record { token = tokens.Counts (length (decimal k)); len = length (decimal k) + length (decimal n) + 2 })
counts-again k n stop rest small also other =
    let tail : List ℕ = 111 ∷ 102 ∷ (decimal n ++ stop ∷ rest) in
    let least : figures_len (decimal k ++ 111 ∷ 102 ∷ (decimal n ++ stop ∷ rest)) ≡ length (decimal k) = figures-again k 111 (102 ∷ (decimal n ++ stop ∷ rest)) refl in
    let behind : drop (length (decimal k)) (decimal k ++ 111 ∷ 102 ∷ (decimal n ++ stop ∷ rest)) ≡ 111 ∷ 102 ∷ (decimal n ++ stop ∷ rest) = drop_at (decimal k) (111 ∷ 102 ∷ (decimal n ++ stop ∷ rest)) (length (decimal k)) refl in
    let after : drop (length (decimal k) + 2) (decimal k ++ 111 ∷ 102 ∷ (decimal n ++ stop ∷ rest)) ≡ decimal n ++ stop ∷ rest
    = ap (drop (length (decimal k) + 2)) (sym (append_assoc (decimal k) (111 ∷ 102 ∷ []) (decimal n ++ stop ∷ rest))) ∙ drop_at (decimal k ++ 111 ∷ 102 ∷ []) (decimal n ++ stop ∷ rest) (length (decimal k) + 2) (length-append (decimal k) (111 ∷ 102 ∷ [])) in
    let long : counts_len (decimal k ++ 111 ∷ 102 ∷ (decimal n ++ stop ∷ rest)) ≡ length (decimal k) + 2 + length (decimal n)
    = counted (decimal k ++ 111 ∷ 102 ∷ (decimal n ++ stop ∷ rest)) (length (decimal k)) (length (decimal n)) least (few-digits k small) (ap (λ t. starts t (codes "of")) behind) (ap figures_len after ∙ figures-again n stop rest other) (few-digits n also) in
    let sum : length (decimal k) + 2 + length (decimal n) ≡ length (decimal k) + length (decimal n) + 2 = omega arith in
    let d = decimal-first k small in
    let text : decimal k ++ 111 ∷ 102 ∷ (decimal n ++ stop ∷ rest) ≡ d.first ∷ (d.more ++ 111 ∷ 102 ∷ (decimal n ++ stop ∷ rest)) = ap (λ t. t ++ 111 ∷ 102 ∷ (decimal n ++ stop ∷ rest)) d.whole in
    ap token_at text
    ∙ digit-first d.first (d.more ++ 111 ∷ 102 ∷ (decimal n ++ stop ∷ rest)) (length (decimal k) + length (decimal n)) d.is (ap counts_len (sym text) ∙ long ∙ sum)
    ∙ ap (λ m. Some (record { token = tokens.Counts m; len = length (decimal k) + length (decimal n) + 2 })) (ap figures_len (sym text) ∙ least)

-- the number that decimal digits are
value-more : (xs : List ℕ) (value d : ℕ) → value_from value (xs ++ d ∷ []) ≡ value_from value xs * 10 + digit_value d
value-more [] value d = refl
value-more (x ∷ xs) value d = value-more xs (value * 10 + digit_value x) d

pub value-again : (n : ℕ) → n < 2 ^ 64 → value_from 0 (decimal n) ≡ n
value-again = decimal_by_steps (λ n digits. value_from 0 digits ≡ n)
    (λ n small. omega (arith, small))
    (λ n digits big so.
    let last : value_from 0 (digits ++ (48 + n % 10) ∷ []) ≡ value_from 0 digits * 10 + digit_value (48 + n % 10) = value-more digits 0 (48 + n % 10) in
    omega (arith, last, so))

-- ---- rates

in-taken : (xs : List ℕ) (y : ℕ) (rest : List ℕ) (n : ℕ) → length xs < n → In y (take n (xs ++ y ∷ rest))
in-taken [] y rest zero h = absurd (omega arith)
in-taken [] y rest (suc n) h = inl refl
in-taken (x ∷ xs) y rest zero h = absurd (omega arith)
in-taken (x ∷ xs) y rest (suc n) h = inr (in-taken xs y rest n (omega (arith, h)))

digits-some : (number rest : List ℕ) → IsNumber number → digits_len is_digit (number ++ 59 ∷ rest) ≡ 0 → ⊥
digits-some number rest is none =
    let most : length is.front ≤ digits_len is_digit (number ++ 59 ∷ rest)
    = (digits_most is_digit (number ++ 59 ∷ rest)).most is.front (is.back ++ 59 ∷ rest) (ap (λ t. t ++ 59 ∷ rest) is.whole ∙ append_assoc is.front is.back (59 ∷ rest)) is.first in
    empty is.front is.first (omega (arith, most, none))
  where
    empty : (front : List ℕ) → Digits is_digit front → length front ≤ 0 → ⊥
    empty [] first h = digits_nil is_digit first
    empty (b ∷ front) first h = omega arith

number-again : (number rest : List ℕ) → IsNumber number → number_len (number ++ 59 ∷ rest) ≡ length number
number-again number rest is =
    let longest = number_most (number ++ 59 ∷ rest) (digits-some number rest is) in
    let least : length number ≤ number_len (number ++ 59 ∷ rest) = longest.most number (59 ∷ rest) refl is in
    ⊎_elim
    (λ less. absurd (number-lacks _ (longest.form (λ z. omega (arith, z, less))) (in-taken number 59 rest (number_len (number ++ 59 ∷ rest)) less)))
    (λ most. omega (arith, least, most)) (cases_lt (length number) (number_len (number ++ 59 ∷ rest)))

rated : (word text : List ℕ) (len n : ℕ) → starts text word ≡ true → (digits_len is_digit (drop len text) ≡ 0 → ⊥) → number_len (drop len text) ≡ n → rate_len text word len ≡ len + n
unfolding rate_len
rated word text len n begins_so some e =
    ap (λ b. cond (b && not (digits_len is_digit (drop len text) == 0)) (len + number_len (drop len text)) 0) begins_so
    ∙ ap (λ b. cond (not b) (len + number_len (drop len text)) 0) (ne_eqb (digits_len is_digit (drop len text)) 0 some)
    ∙ ap (λ k. len + k) e

pub lambda-again : (number rest : List ℕ) → IsNumber number → token_at (108 ∷ 97 ∷ 109 ∷ 98 ∷ 100 ∷ 97 ∷ 61 ∷ (number ++ 59 ∷ rest)) ≡ Some (record { token = tokens.Rate Lambda; len = 5 + length number + 2 })
unfolding token_at name_len counts_len word_at rate_at
lambda-again number rest is =
    named (tokens.Rate Lambda) (rate_len (108 ∷ 97 ∷ 109 ∷ 98 ∷ 100 ∷ 97 ∷ 61 ∷ (number ++ 59 ∷ rest)) (codes "lambda=") 7) (5 + length number) _
    (rated (codes "lambda=") (108 ∷ 97 ∷ 109 ∷ 98 ∷ 100 ∷ 97 ∷ 61 ∷ (number ++ 59 ∷ rest)) 7 (length number) refl (digits-some number rest is) (number-again number rest is) ∙ sum (length number))
  where
    sum : (n : ℕ) → 7 + n ≡ 5 + n + 2
    sum n = omega arith

no-lambda : (rest : List ℕ) → rate_len (112 ∷ rest) (codes "lambda=") 7 ≡ 0
unfolding rate_len
no-lambda rest = refl

pub prob-again : (number rest : List ℕ) → IsNumber number → token_at (112 ∷ 114 ∷ 111 ∷ 98 ∷ 61 ∷ (number ++ 59 ∷ rest)) ≡ Some (record { token = tokens.Rate Prob; len = 3 + length number + 2 })
unfolding token_at name_len counts_len word_at rate_at
prob-again number rest is =
    ap (λ n. front_or (tokens.Rate Lambda) n (front_or (tokens.Rate Prob) (rate_len (112 ∷ 114 ∷ 111 ∷ 98 ∷ 61 ∷ (number ++ 59 ∷ rest)) (codes "prob=") 5) (front_or tokens.Dorm (rate_len (112 ∷ 114 ∷ 111 ∷ 98 ∷ 61 ∷ (number ++ 59 ∷ rest)) (codes "dorm=") 5) None))) (no-lambda (114 ∷ 111 ∷ 98 ∷ 61 ∷ (number ++ 59 ∷ rest)))
    ∙ named (tokens.Rate Prob) (rate_len (112 ∷ 114 ∷ 111 ∷ 98 ∷ 61 ∷ (number ++ 59 ∷ rest)) (codes "prob=") 5) (3 + length number) _
    (rated (codes "prob=") (112 ∷ 114 ∷ 111 ∷ 98 ∷ 61 ∷ (number ++ 59 ∷ rest)) 5 (length number) refl (digits-some number rest is) (number-again number rest is) ∙ sum (length number))
  where
    sum : (n : ℕ) → 5 + n ≡ 3 + n + 2
    sum n = omega arith
