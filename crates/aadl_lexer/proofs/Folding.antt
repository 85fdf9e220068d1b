-- The text of a token of each form: that of a word is an identifier.
use Rattle.std.proofs.Common.{◌≡◌, ℕ, ◌+◌, ◌≤◌, Bool, true, false, ◌&&◌, ◌||◌, eqb, List, [], ◌∷◌, ◌++◌, ◌⊎◌, map, Option, Some, None, inl, inr, refl, sym, ◌∙◌, ap, subst, arith}
use Rattle.std.specs.Prelude.{nat_le, if◌then◌else◌}
use Rattle.std.specs.List.{concat, AllByRecursion}
use Rattle.std.proofs.lemmas.List.{map-append}
use Rattle.std.proofs.lemmas.Bool.{leb-true, le-leb, eqb-true}
use Rattle.aadl_syntax.specs.declared.token.TokenKind.{TokenKind}
use Rattle.aadl_syntax.specs.declared.token.TokenKind.TheVariants.{Word, Number, Text, Sign, AnnexBegin, AnnexRaw, AnnexEnd}
use Rattle.aadl_syntax.specs.Form.{One, ◌followed_by◌, Repeated, Perhaps, IsWord, is_letter, is_digit, is_letter_or_digit}
use Rattle.plain_values.specs.Name.{lower, folded}
use Rattle.aadl_syntax.specs.Token.{text_of}
use Rattle.aadl_syntax.specs.inner.Token.{IsTokenText}
use Rattle.aadl_lexer.specs.Tokens.{IsForm}
use Rattle.aadl_lexer.specs.inner.Steps.{HasTokenText}

and_both : (a b : Bool) → (a && b) ≡ true → (a ≡ true) × (b ≡ true)
and_both true b e = (refl, e)
and_both false b e = absurd cc

or_second : (a b : Bool) → b ≡ true → (a || b) ≡ true
or_second true b e = refl
or_second false b e = e

or_either : (a b : Bool) → (a || b) ≡ true → (a ≡ true) ⊎ (b ≡ true)
or_either true b e = inl refl
or_either false b e = inr e

-- a letter in lower case
lower_cases : (P : ℕ → Type 0) (b : ℕ) → ((65 ≤ b) → (b ≤ 90) → P (b + 32)) → ((nat_le 65 b && nat_le b 90) ≡ false → P b) → P (lower b)
lower_cases P b upper other = either (nat_le 65 b && nat_le b 90) refl where
  either : (c : Bool) → (nat_le 65 b && nat_le b 90) ≡ c → P (if c then b + 32 else b)
  either true e = let h = and_both (nat_le 65 b) (nat_le b 90) e in upper (leb-true 65 b h.0) (leb-true b 90 h.1)
  either false e = other e

is_small : (n : ℕ) → 97 ≤ n → n ≤ 122 → is_letter n ≡ true
is_small n h k = or_second (nat_le 65 n && nat_le n 90) (nat_le 97 n && nat_le n 122) (ap (λ (c : Bool). c && nat_le n 122) (le-leb 97 n h) ∙ le-leb n 122 k)

letter_kept : (b : ℕ) → is_letter b ≡ true → is_letter (lower b) ≡ true
letter_kept b h = lower_cases (λ n. is_letter n ≡ true) b (λ low high. is_small (b + 32) (omega arith) (omega arith)) (λ _. h)

letter_or_digit_kept : (b : ℕ) → is_letter_or_digit b ≡ true → is_letter_or_digit (lower b) ≡ true
letter_or_digit_kept b h =
    lower_cases (λ n. is_letter_or_digit n ≡ true) b (λ low high. ap (λ (c : Bool). c || is_digit (b + 32)) (is_small (b + 32) (omega arith) (omega arith))) (λ _. h)

line_kept : (b : ℕ) → eqb b 95 ≡ true → eqb (lower b) 95 ≡ true
line_kept b h = subst (λ n. eqb (lower n) 95 ≡ true) (sym (eqb-true b 95 h)) refl

lower_twice : (b : ℕ) → lower (lower b) ≡ lower b
lower_twice b = lower_cases (λ n. lower n ≡ n) b (λ low high. lower_cases (λ n. n ≡ b + 32) (b + 32) (λ l h. absurd (omega arith)) (λ _. refl)) (λ e. ap (λ (c : Bool). if c then b + 32 else b) e)

folded_twice : (bytes : List ℕ) → folded (folded bytes) ≡ folded bytes
folded_twice [] = refl
folded_twice (b ∷ bytes) = ap (λ n. n ∷ folded (folded bytes)) (lower_twice b) ∙ ap (λ (rest : List ℕ). lower b ∷ rest) (folded_twice bytes)

-- forms that stay when letters are folded
abbrev Stays : (List ℕ → Type 0) → Type 0
Stays Form = (bytes : List ℕ) → Form bytes → Form (folded bytes)

one_stays : (class : ℕ → Bool) → ((b : ℕ) → class b ≡ true → class (lower b) ≡ true) → Stays (One class)
one_stays class kept [] h = absurd h
one_stays class kept (b ∷ []) h = kept b h
one_stays class kept (b ∷ c ∷ rest) h = absurd h

joined_stays : (First Second : List ℕ → Type 0) → Stays First → Stays Second → Stays (First followed_by Second)
joined_stays First Second s t bytes j = record {
  front = folded j.front;
  back = folded j.back;
  whole = ap folded j.whole ∙ map-append lower j.front j.back;
  first = s j.front j.first;
  second = t j.back j.second;
}

perhaps_stays : (Form : List ℕ → Type 0) → Stays Form → Stays (Perhaps Form)
perhaps_stays Form s bytes (inl e) = inl (ap folded e)
perhaps_stays Form s bytes (inr h) = inr (s bytes h)

repeated_stays : (Form : List ℕ → Type 0) → Stays Form → Stays (Repeated Form)
repeated_stays Form s bytes r = record { parts = map folded r.parts; whole = ap folded r.whole ∙ pieces r.parts; each = all r.parts r.each } where
  pieces : (parts : List (List ℕ)) → folded (concat parts) ≡ concat (map folded parts)
  pieces [] = refl
  pieces (part ∷ parts) = map-append lower part (concat parts) ∙ ap (λ (rest : List ℕ). folded part ++ rest) (pieces parts)

  all : (parts : List (List ℕ)) → AllByRecursion Form parts → AllByRecursion Form (map folded parts)
  all [] h = tt
  all (part ∷ parts) h = (s part h.0, all parts h.1)

word_stays : Stays IsWord
word_stays = joined_stays _ _ (one_stays is_letter letter_kept)
    (repeated_stays _ (joined_stays _ _ (perhaps_stays _ (one_stays (λ b. eqb b 95) line_kept)) (one_stays is_letter_or_digit letter_or_digit_kept)))

-- the bytes of a form have the text of a token
pub form_text : (annexes : Bool) (kind : TokenKind) (bytes : List ℕ) → IsForm annexes (Some kind) bytes → IsTokenText kind (text_of kind bytes)
form_text annexes Word bytes form = record { word = word_stays bytes form; lower_case = folded_twice bytes }
form_text annexes Number bytes form = form
form_text annexes Text bytes form = tt
form_text annexes Sign bytes form = tt
form_text annexes AnnexBegin bytes form = tt
form_text annexes AnnexRaw bytes form = tt
form_text annexes AnnexEnd bytes form = tt

pub front_text : (annexes : Bool) (kind : Option TokenKind) (bytes : List ℕ) → IsForm annexes kind bytes → HasTokenText kind bytes
front_text annexes None bytes form = tt
front_text annexes (Some kind) bytes form = form_text annexes kind bytes form
