-- Which form stands at the front of a text: the first byte says it.
use Rattle.std.proofs.Common.{◌≡◌, ℕ, zero, suc, ◌+◌, ◌<◌, ◌≤◌, Bool, true, false, eqb, leb, List, [], ◌∷◌, ◌++◌, length, take, drop, get_or, Option, Some, None, refl, sym, ap, subst, ◌∙◌, inl, inr, ◌⊎◌, arith}
use Rattle.std.specs.Prelude.{◌==◌, ◌||◌, ◌&&◌, not, codes}
use Rattle.std.specs.List.{list_all, list_any, prefix_len}
use Rattle.std.proofs.lemmas.Bool.{cases_eq, cond-true, false≢true, eqb-true, or_cases, or_left, or_right, and_parts, eq-eqb, leb-true, not-true}
use Rattle.std.proofs.Math.Numerals.{one-add}
use Rattle.std.proofs.lemmas.List.{length-take-le, take-append-drop}
use Rattle.aadl_syntax.specs.declared.token.TokenKind.{TokenKind}
use Rattle.aadl_syntax.specs.declared.token.TokenKind.TheVariants.{Word, Number, Text, Sign, AnnexBegin, AnnexRaw, AnnexEnd}
use Rattle.plain_values.specs.declared.refusal.Code.TheVariants.{BadByte, OpenString}
use Rattle.aadl_syntax.specs.Form.{One, Byte, ◌followed_by◌, Repeated, Digits, IsComment, IsWord, IsNumber, IsText, IsSign, is_blank, is_letter, is_digit, is_sign_byte}
use Rattle.aadl_lexer.specs.Tokens.{IsForm, NothingBegins, IsStuck, annex_begin}
use Rattle.aadl_lexer.specs.Scan.{digits_len, number_len}
use Rattle.aadl_lexer.specs.inner.Scan.{IsFront, IsOther, begins_comment, begins_annex, line_len, word_rest_len, text_rest_len, sign_len}
use Rattle.aadl_lexer.proofs.Runs.{one_byte}
use Rattle.aadl_lexer.proofs.Most.{IsMost, most_none, no_such, lead, lead_nil}
use Rattle.aadl_lexer.proofs.Numbers.{digits_nil, number_most}
use Rattle.aadl_lexer.proofs.Words.{word_most, text_scan, quoted_scan, IsTextScan, no_text, comment_most, sign_most, sign_from, is_whole_sign}

-- ---- classes of bytes that lie apart

listed_not : (class : ℕ → Bool) (xs : List ℕ) (b : ℕ) → list_any (λ s. b == s) xs ≡ true → list_all (λ s. not (class s)) xs ≡ true → class b ≡ true → ⊥
listed_not class [] b t u v = false≢true t
listed_not class (x ∷ xs) b t u v =
    let both = and_parts (not (class x)) (list_all (λ s. not (class s)) xs) u in
    elim (or_cases (eqb b x) (list_any (λ s. b == s) xs) t) [
      | inl h ↦ no_such class b x h (not-true (class x) both.0) v
      | inr h ↦ listed_not class xs b h both.1 v
    ]

abbrev blanks : List ℕ
blanks = 9 ∷ 10 ∷ 13 ∷ 32 ∷ []

abbrev signs : List ℕ
signs = codes ";:,.()[]{}-+*/=<>^@!&|"

blank_apart : (class : ℕ → Bool) → list_all (λ s. not (class s)) blanks ≡ true → (b : ℕ) → is_blank b ≡ true → class b ≡ true → ⊥
blank_apart class u b t v = listed_not class blanks b t u v

sign_apart : (class : ℕ → Bool) → list_all (λ s. not (class s)) signs ≡ true → (b : ℕ) → is_sign_byte b ≡ true → class b ≡ true → ⊥
sign_apart class u b t v = listed_not class signs b t u v

letter_digit : (b : ℕ) → is_letter b ≡ true → is_digit b ≡ true → ⊥
letter_digit b t u =
    let d = and_parts (leb 48 b) (leb b 57) u in
    elim (or_cases (leb 65 b && leb b 90) (leb 97 b && leb b 122) t) [
      | inl h ↦ absurd (omega (arith, leb-true 65 b (and_parts (leb 65 b) (leb b 90) h).0, leb-true b 57 d.1))
      | inr h ↦ absurd (omega (arith, leb-true 97 b (and_parts (leb 97 b) (leb b 122) h).0, leb-true b 57 d.1))
    ]

-- ---- the first byte of a form

abbrev pub first_of : Option TokenKind → ℕ → Bool
first_of None b = is_blank b || b == 45
first_of (Some Word) b = is_letter b
first_of (Some Number) b = is_digit b
first_of (Some Text) b = b == 34
first_of (Some Sign) b = is_sign_byte b
first_of (Some AnnexBegin) b = b == 123
first_of (Some AnnexRaw) b = false
first_of (Some AnnexEnd) b = false

number_first : (b : ℕ) (x : List ℕ) → IsNumber (b ∷ x) → is_digit b ≡ true
number_first b x j = from j.front j.whole j.first
  where
    from : (front : List ℕ) → b ∷ x ≡ front ++ j.back → Digits is_digit front → is_digit b ≡ true
    from [] e h = absurd (digits_nil is_digit h)
    from (a ∷ front) e h = let same : a ≡ b = cc in subst (λ (c : ℕ). is_digit c ≡ true) same (lead is_digit _ a front h).0

sign_at : (b n : ℕ) → is_sign_byte n ≡ true → eqb b n ≡ true → is_sign_byte b ≡ true
sign_at b n t e = subst (λ (c : ℕ). is_sign_byte c ≡ true) (sym (eqb-true b n e)) t

pair_at : (b c m n : ℕ) → is_sign_byte m ≡ true → (eqb b m && eqb c n) ≡ true → is_sign_byte b ≡ true
pair_at b c m n t e = sign_at b m t (and_parts (eqb b m) (eqb c n) e).0

triple_at : (b c d m n o : ℕ) → is_sign_byte m ≡ true → (eqb b m && eqb c n && eqb d o) ≡ true → is_sign_byte b ≡ true
triple_at b c d m n o t e = pair_at b c m n t (and_parts (eqb b m && eqb c n) (eqb d o) e).0

sign_first : (b : ℕ) (x : List ℕ) → is_whole_sign (b ∷ x) ≡ true → is_sign_byte b ≡ true
sign_first b [] t = t
sign_first b (c ∷ []) t = elim (or_cases (eqb b 58 && eqb c 58 || eqb b 45 && eqb c 62 || eqb b 61 && eqb c 62) (eqb b 46 && eqb c 46) t) [
  | inl u ↦ elim (or_cases (eqb b 58 && eqb c 58 || eqb b 45 && eqb c 62) (eqb b 61 && eqb c 62) u) [
    | inl v ↦ elim (or_cases (eqb b 58 && eqb c 58) (eqb b 45 && eqb c 62) v) [ inl w ↦ pair_at b c 58 58 refl w | inr w ↦ pair_at b c 45 62 refl w ]
    | inr v ↦ pair_at b c 61 62 refl v
  ]
  | inr u ↦ pair_at b c 46 46 refl u
]
sign_first b (c ∷ d ∷ []) t = elim (or_cases (eqb b 60 && eqb c 45 && eqb d 62) (eqb b 43 && eqb c 61 && eqb d 62) t) [
  | inl u ↦ triple_at b c d 60 45 62 refl u
  | inr u ↦ triple_at b c d 43 61 62 refl u
]
sign_first b (c ∷ d ∷ e ∷ x) t = absurd (false≢true t)

-- a form begins with a byte of its class
pub first_is : (annexes : Bool) (kind : Option TokenKind) (b : ℕ) (x : List ℕ) → IsForm annexes kind (b ∷ x) → first_of kind b ≡ true
first_is annexes None b x (inl h) = or_left _ _ (one_byte is_blank b x h).0
first_is annexes None b x (inr j) = or_right (is_blank b) _ (lead (λ c. c == 45) _ b x j).0
first_is annexes (Some Word) b x j = (lead is_letter _ b x j).0
first_is annexes (Some Number) b x j = number_first b x j
first_is annexes (Some Text) b x j = (lead (λ c. c == 34) _ b x j).0
first_is annexes (Some Sign) b x h = sign_first b x (sign_from (b ∷ x) h)
first_is annexes (Some AnnexBegin) b x h = let same : b ≡ 123 = cc h.1 in eq-eqb b 123 same
first_is annexes (Some AnnexRaw) b x h = absurd h
first_is annexes (Some AnnexEnd) b x h = absurd h

pub form_nil : (annexes : Bool) (kind : Option TokenKind) → IsForm annexes kind [] → ⊥
form_nil annexes None (inl h) = h
form_nil annexes None (inr j) = lead_nil _ _ j
form_nil annexes (Some Word) j = lead_nil _ _ j
form_nil annexes (Some Number) j = number_nil j.front j.whole j.first
  where
    number_nil : (front : List ℕ) → [] ≡ front ++ j.back → Digits is_digit front → ⊥
    number_nil [] e h = digits_nil is_digit h
    number_nil (a ∷ front) e h = absurd cc
form_nil annexes (Some Text) j = lead_nil _ _ j
form_nil annexes (Some Sign) h = false≢true (sign_from [] h)
form_nil annexes (Some AnnexBegin) h = absurd cc h.1
form_nil annexes (Some AnnexRaw) h = h
form_nil annexes (Some AnnexEnd) h = h

-- two kinds are the same or not
code_of : Option TokenKind → ℕ
code_of None = 0
code_of (Some Word) = 1
code_of (Some Number) = 2
code_of (Some Text) = 3
code_of (Some Sign) = 4
code_of (Some AnnexBegin) = 5
code_of (Some AnnexRaw) = 6
code_of (Some AnnexEnd) = 7

kind_at : ℕ → Option TokenKind
kind_at zero = None
kind_at (suc zero) = Some Word
kind_at (suc (suc zero)) = Some Number
kind_at (suc (suc (suc zero))) = Some Text
kind_at (suc (suc (suc (suc zero)))) = Some Sign
kind_at (suc (suc (suc (suc (suc zero))))) = Some AnnexBegin
kind_at (suc (suc (suc (suc (suc (suc zero)))))) = Some AnnexRaw
kind_at (suc (suc (suc (suc (suc (suc (suc n))))))) = Some AnnexEnd

kind_back : (k : Option TokenKind) → kind_at (code_of k) ≡ k
unfolding code_of kind_at
kind_back None = refl
kind_back (Some Word) = refl
kind_back (Some Number) = refl
kind_back (Some Text) = refl
kind_back (Some Sign) = refl
kind_back (Some AnnexBegin) = refl
kind_back (Some AnnexRaw) = refl
kind_back (Some AnnexEnd) = refl

pub same_kind : (k l : Option TokenKind) → (k ≡ l) ⊎ (k ≡ l → ⊥)
same_kind k l = elim (cases_eq (code_of k) (code_of l)) [
  | inl e ↦ inl (sym (kind_back k) ∙ ap kind_at e ∙ kind_back l)
  | inr ne ↦ inr (λ e. ne (ap code_of e))
]

-- ---- what can begin at a byte of a class

-- the class of a kind's first byte, apart from a test that no such byte passes
abbrev Clear : (ℕ → Bool) → Option TokenKind → Type 0
Clear class kind = (b : ℕ) → class b ≡ true → first_of kind b ≡ true → ⊥

both_false : (b : ℕ) (class : ℕ → Bool) → (is_blank b ≡ true → class b ≡ true → ⊥) → (eqb b 45 ≡ true → class b ≡ true → ⊥) → class b ≡ true → (is_blank b || eqb b 45) ≡ true → ⊥
both_false b class f g t u = elim (or_cases _ _ u) [ inl h ↦ f h t | inr h ↦ g h t ]

letter_only : (kind : Option TokenKind) → (kind ≡ Some Word → ⊥) → Clear is_letter kind
letter_only None ne b t u = both_false b is_letter (blank_apart is_letter refl b) (λ e. no_such is_letter b 45 e refl) t u
letter_only (Some Word) ne b t u = ne refl
letter_only (Some Number) ne b t u = letter_digit b t u
letter_only (Some Text) ne b t u = no_such is_letter b 34 u refl t
letter_only (Some Sign) ne b t u = sign_apart is_letter refl b u t
letter_only (Some AnnexBegin) ne b t u = no_such is_letter b 123 u refl t
letter_only (Some AnnexRaw) ne b t u = false≢true u
letter_only (Some AnnexEnd) ne b t u = false≢true u

digit_only : (kind : Option TokenKind) → (kind ≡ Some Number → ⊥) → Clear is_digit kind
digit_only None ne b t u = both_false b is_digit (blank_apart is_digit refl b) (λ e. no_such is_digit b 45 e refl) t u
digit_only (Some Word) ne b t u = letter_digit b u t
digit_only (Some Number) ne b t u = ne refl
digit_only (Some Text) ne b t u = no_such is_digit b 34 u refl t
digit_only (Some Sign) ne b t u = sign_apart is_digit refl b u t
digit_only (Some AnnexBegin) ne b t u = no_such is_digit b 123 u refl t
digit_only (Some AnnexRaw) ne b t u = false≢true u
digit_only (Some AnnexEnd) ne b t u = false≢true u

abbrev is_quote : ℕ → Bool
is_quote b = b == 34

quote_only : (kind : Option TokenKind) → (kind ≡ Some Text → ⊥) → Clear is_quote kind
quote_only kind ne b t u = at kind ne (subst (λ (c : ℕ). first_of kind c ≡ true) (eqb-true b 34 t) u)
  where
    at : (kind : Option TokenKind) → (kind ≡ Some Text → ⊥) → first_of kind 34 ≡ true → ⊥
    at None ne u = false≢true u
    at (Some Word) ne u = false≢true u
    at (Some Number) ne u = false≢true u
    at (Some Text) ne u = ne refl
    at (Some Sign) ne u = false≢true u
    at (Some AnnexBegin) ne u = false≢true u
    at (Some AnnexRaw) ne u = false≢true u
    at (Some AnnexEnd) ne u = false≢true u

blank_only : (kind : Option TokenKind) → (kind ≡ None → ⊥) → Clear is_blank kind
blank_only None ne b t u = ne refl
blank_only (Some Word) ne b t u = blank_apart is_letter refl b t u
blank_only (Some Number) ne b t u = blank_apart is_digit refl b t u
blank_only (Some Text) ne b t u = blank_apart is_quote refl b t u
blank_only (Some Sign) ne b t u = blank_apart is_sign_byte refl b t u
blank_only (Some AnnexBegin) ne b t u = blank_apart (λ c. c == 123) refl b t u
blank_only (Some AnnexRaw) ne b t u = false≢true u
blank_only (Some AnnexEnd) ne b t u = false≢true u

-- ---- the longest form at each class of byte

-- a form whose fronts are the only ones
front_of : (annexes : Bool) (kind : Option TokenKind) (text : List ℕ) (n : ℕ) → 0 < n → n ≤ length text → IsForm annexes kind (take n text)
    → ((other : Option TokenKind) (front back : List ℕ) → text ≡ front ++ back → IsForm annexes other front → length front ≤ n)
    → IsFront annexes text (record { kind = kind; len = n })
front_of annexes kind text n some within form most = record {
  some = some;
  within = within;
  longest = record {
    form = form;
    longest = λ other front back e h. omega (arith, length-take-le n text within, most other front back (sym (take-append-drop n text) ∙ e) h);
  };
}

-- a kind that alone begins at bytes of a class
alone : (annexes : Bool) (kind : TokenKind) (class : ℕ → Bool) (Form : List ℕ → Type 0) (b : ℕ) (x : List ℕ) (n : ℕ)
    → ((other : Option TokenKind) → (other ≡ Some kind → ⊥) → Clear class other)
    → ((bytes : List ℕ) → Form bytes → IsForm annexes (Some kind) bytes) → ((bytes : List ℕ) → IsForm annexes (Some kind) bytes → Form bytes)
    → class b ≡ true → 0 < n → IsMost Form (b ∷ x) n → IsFront annexes (b ∷ x) (record { kind = Some kind; len = n })
alone annexes kind class Form b x n only there back t some m =
    front_of annexes (Some kind) (b ∷ x) n some m.within (there _ (m.form (λ z. absurd (omega (arith, z, some))))) most
  where
    most : (other : Option TokenKind) (front rest : List ℕ) → b ∷ x ≡ front ++ rest → IsForm annexes other front → length front ≤ n
    most other [] rest e h = omega arith
    most other (a ∷ front) rest e h = elim (same_kind other (Some kind)) [
      | inl is ↦ m.most (a ∷ front) rest e (back _ (subst (λ (k : Option TokenKind). IsForm annexes k (a ∷ front)) is h))
      | inr ne ↦ let same : a ≡ b = cc in absurd (only other ne b t (subst (λ (c : ℕ). first_of other c ≡ true) same (first_is annexes other a front h)))
    ]

pub front_word : (annexes : Bool) (text : List ℕ) → 0 < length text → is_letter (get_or text 0 0) ≡ true → IsFront annexes text (record { kind = Some Word; len = 1 + word_rest_len (drop 1 text) })
front_word annexes [] some t = absurd (omega arith)
front_word annexes (b ∷ x) some t =
    let P : ℕ → Type 0 = λ n. IsFront annexes (b ∷ x) (record { kind = Some Word; len = n }) in
    subst P (sym (one-add _)) (alone annexes Word is_letter IsWord b x _ letter_only (λ _ h. h) (λ _ h. h) t (omega arith) (word_most b x t))

digits_some : (b : ℕ) (x : List ℕ) → is_digit b ≡ true → digits_len is_digit (b ∷ x) ≡ 0 → ⊥
unfolding digits_len
digits_some b x t z = absurd (omega (arith, cond-true (is_digit b) (suc (prefix_len (λ c. is_digit c || c == 95) x)) 0 t, z))

number_some : (text : List ℕ) → (digits_len is_digit text ≡ 0 → ⊥) → 0 < number_len text
unfolding number_len
number_some text some = elim (cases_eq (digits_len is_digit text) 0) [ inl z ↦ absurd (some z) | inr ne ↦ omega arith ]

pub front_number : (annexes : Bool) (text : List ℕ) → 0 < length text → is_digit (get_or text 0 0) ≡ true → IsFront annexes text (record { kind = Some Number; len = number_len text })
front_number annexes [] some t = absurd (omega arith)
front_number annexes (b ∷ x) some t =
    alone annexes Number is_digit IsNumber b x _ digit_only (λ _ h. h) (λ _ h. h) t (number_some (b ∷ x) (digits_some b x t)) (number_most (b ∷ x) (digits_some b x t))

pub front_text : (annexes : Bool) (text : List ℕ) (n : ℕ) → 0 < length text → get_or text 0 0 ≡ 34 → text_rest_len (drop 1 text) ≡ Some n → IsFront annexes text (record { kind = Some Text; len = 1 + n })
unfolding IsTextScan
front_text annexes [] n some q e = absurd (omega arith)
front_text annexes (b ∷ x) n some q e =
    let P : ℕ → Type 0 = λ n. IsFront annexes (b ∷ x) (record { kind = Some Text; len = n }) in
    let scan : IsTextScan (b ∷ x) (Some n) = subst (IsTextScan (b ∷ x)) e (quoted_scan b x _ (eq-eqb b 34 q) (text_scan x)) in
    subst P (sym (one-add _)) (alone annexes Text is_quote IsText b x _ quote_only (λ _ h. h) (λ _ h. h) (eq-eqb b 34 q) (omega arith) scan)

pub stuck_text : (annexes : Bool) (text : List ℕ) → 0 < length text → get_or text 0 0 ≡ 34 → text_rest_len (drop 1 text) ≡ None → IsStuck annexes OpenString text
stuck_text annexes [] some q e = absurd (omega arith)
stuck_text annexes (b ∷ x) some q e = inr (inl (refl, record { rest = x; whole = ap (λ (c : ℕ). c ∷ x) q; nothing = none }))
  where
    scan : IsTextScan (b ∷ x) None
    scan = subst (IsTextScan (b ∷ x)) e (quoted_scan b x _ (eq-eqb b 34 q) (text_scan x))

    none : NothingBegins annexes (b ∷ x)
    none kind [] back w h = form_nil annexes kind h
    none kind (a ∷ front) back w h = elim (same_kind kind (Some Text)) [
      | inl is ↦ no_text (b ∷ x) scan (a ∷ front) back w (subst (λ (k : Option TokenKind). IsForm annexes k (a ∷ front)) is h)
      | inr ne ↦ let same : a ≡ b = cc in quote_only kind ne b (eq-eqb b 34 q) (subst (λ (c : ℕ). first_of kind c ≡ true) same (first_is annexes kind a front h))
    ]

-- a blank is one byte, and no comment begins at it
pub front_blank : (annexes : Bool) (text : List ℕ) → 0 < length text → is_blank (get_or text 0 0) ≡ true → IsFront annexes text (record { kind = None; len = 1 })
front_blank annexes [] some t = absurd (omega arith)
front_blank annexes (b ∷ x) some t = front_of annexes None (b ∷ x) 1 (omega arith) (omega arith) (inl t) most
  where
    blank : (a : ℕ) (front : List ℕ) → a ≡ b → IsForm annexes None (a ∷ front) → length (a ∷ front) ≤ 1
    blank a front same (inl h) = omega (arith, ap length (one_byte is_blank a front h).1)
    blank a front same (inr j) = absurd (blank_apart (λ c. c == 45) refl b t (subst (λ (c : ℕ). eqb c 45 ≡ true) same (lead (λ c. c == 45) _ a front j).0))

    most : (other : Option TokenKind) (front rest : List ℕ) → b ∷ x ≡ front ++ rest → IsForm annexes other front → length front ≤ 1
    most other [] rest e h = omega arith
    most other (a ∷ front) rest e h = elim (same_kind other None) [
      | inl is ↦ blank a front (cc) (subst (λ (k : Option TokenKind). IsForm annexes k (a ∷ front)) is h)
      | inr ne ↦ let same : a ≡ b = cc in absurd (blank_only other ne b t (subst (λ (c : ℕ). first_of other c ≡ true) same (first_is annexes other a front h)))
    ]

-- ---- comments, `{**` and signs

-- a sign has at most three bytes
sign_short : (front : List ℕ) → IsSign front → length front ≤ 3
sign_short [] h = omega arith
sign_short (a ∷ []) h = omega arith
sign_short (a ∷ b ∷ []) h = omega arith
sign_short (a ∷ b ∷ c ∷ []) h = omega arith
sign_short (a ∷ b ∷ c ∷ d ∷ front) h = absurd (false≢true (sign_from (a ∷ b ∷ c ∷ d ∷ front) h))

-- no sign begins with `--`, nor with `{**`
sign_dash : (front : List ℕ) → IsSign (45 ∷ 45 ∷ front) → ⊥
sign_dash [] h = false≢true (sign_from (45 ∷ 45 ∷ []) h)
sign_dash (c ∷ []) h = false≢true (sign_from (45 ∷ 45 ∷ c ∷ []) h)
sign_dash (c ∷ d ∷ front) h = false≢true (sign_from (45 ∷ 45 ∷ c ∷ d ∷ front) h)

comment_at : (text : List ℕ) → begins_comment text ≡ true → (x : List ℕ) × (text ≡ 45 ∷ 45 ∷ x)
comment_at [] t = absurd (false≢true t)
comment_at (a ∷ []) t = absurd (false≢true t)
comment_at (a ∷ b ∷ x) t =
    let both = and_parts (eqb a 45) (eqb b 45) t in
    let p = eqb-true a 45 both.0 in let q = eqb-true b 45 both.1 in (x, cc)

annex_at : (text : List ℕ) → begins_annex text ≡ true → (x : List ℕ) × (text ≡ 123 ∷ 42 ∷ 42 ∷ x)
annex_at [] t = absurd (false≢true t)
annex_at (a ∷ []) t = absurd (false≢true t)
annex_at (a ∷ b ∷ []) t = absurd (false≢true t)
annex_at (a ∷ b ∷ c ∷ x) t =
    let both = and_parts (eqb a 123 && eqb b 42) (eqb c 42) t in
    let two = and_parts (eqb a 123) (eqb b 42) both.0 in
    let p = eqb-true a 123 two.0 in let q = eqb-true b 42 two.1 in let r = eqb-true c 42 both.1 in (x, cc)

comment_front : (annexes : Bool) (x : List ℕ) → IsFront annexes (45 ∷ 45 ∷ x) (record { kind = None; len = suc (suc (line_len x)) })
comment_front annexes x = front_of annexes None (45 ∷ 45 ∷ x) _ (omega arith) m.within (inr (m.form (λ z. absurd (omega arith)))) most
  where
    m : IsMost IsComment (45 ∷ 45 ∷ x) (suc (suc (line_len x)))
    m = comment_most x

    none : (other : Option TokenKind) (front rest : List ℕ) → 45 ∷ 45 ∷ x ≡ (45 ∷ front) ++ rest → IsForm annexes other (45 ∷ front) → length (45 ∷ front) ≤ suc (suc (line_len x))
    none None front rest e (inl h) = absurd (false≢true (one_byte is_blank 45 front h).0)
    none None front rest e (inr j) = m.most (45 ∷ front) rest e j
    none (Some Word) front rest e h = absurd (false≢true (first_is annexes (Some Word) 45 front h))
    none (Some Number) front rest e h = absurd (false≢true (first_is annexes (Some Number) 45 front h))
    none (Some Text) front rest e h = absurd (false≢true (first_is annexes (Some Text) 45 front h))
    none (Some Sign) [] rest e h = omega arith
    none (Some Sign) (a ∷ front) rest e h = let same : a ≡ 45 = cc in absurd (sign_dash front (subst (λ (c : ℕ). IsSign (45 ∷ c ∷ front)) same h))
    none (Some AnnexBegin) front rest e h = absurd (false≢true (first_is annexes (Some AnnexBegin) 45 front h))
    none (Some AnnexRaw) front rest e h = absurd h
    none (Some AnnexEnd) front rest e h = absurd h

    most : (other : Option TokenKind) (front rest : List ℕ) → 45 ∷ 45 ∷ x ≡ front ++ rest → IsForm annexes other front → length front ≤ suc (suc (line_len x))
    most other [] rest e h = omega arith
    most other (a ∷ front) rest e h =
        let same : a ≡ 45 = cc in
        none other front rest (e ∙ ap (λ (c : ℕ). (c ∷ front) ++ rest) same) (subst (λ (c : ℕ). IsForm annexes other (c ∷ front)) same h)

pub front_comment : (annexes : Bool) (text : List ℕ) → begins_comment text ≡ true → IsFront annexes text (record { kind = None; len = 2 + line_len (drop 2 text) })
front_comment annexes text t =
    let at = comment_at text t in
    let P : List ℕ → Type 0 = λ x. IsFront annexes x (record { kind = None; len = 2 + line_len (drop 2 x) }) in
    let Q : ℕ → Type 0 = λ n. IsFront annexes (45 ∷ 45 ∷ at.0) (record { kind = None; len = n }) in
    subst P (sym at.1) (subst Q (omega arith) (comment_front annexes at.0))

pub annex_front : (x : List ℕ) → IsFront true (123 ∷ 42 ∷ 42 ∷ x) (record { kind = Some AnnexBegin; len = 3 })
annex_front x = front_of true (Some AnnexBegin) (123 ∷ 42 ∷ 42 ∷ x) 3 (omega arith) (omega arith) (refl, refl) most
  where
    none : (other : Option TokenKind) (front : List ℕ) → IsForm true other (123 ∷ front) → length (123 ∷ front) ≤ 3
    none None front h = absurd (false≢true (first_is true None 123 front h))
    none (Some Word) front h = absurd (false≢true (first_is true (Some Word) 123 front h))
    none (Some Number) front h = absurd (false≢true (first_is true (Some Number) 123 front h))
    none (Some Text) front h = absurd (false≢true (first_is true (Some Text) 123 front h))
    none (Some Sign) front h = sign_short (123 ∷ front) h
    none (Some AnnexBegin) front h = omega (arith, ap length h.1)
    none (Some AnnexRaw) front h = absurd h
    none (Some AnnexEnd) front h = absurd h

    most : (other : Option TokenKind) (front rest : List ℕ) → 123 ∷ 42 ∷ 42 ∷ x ≡ front ++ rest → IsForm true other front → length front ≤ 3
    most other [] rest e h = omega arith
    most other (a ∷ front) rest e h = let same : a ≡ 123 = cc in none other front (subst (λ (c : ℕ). IsForm true other (c ∷ front)) same h)

pub front_annex : (annexes : Bool) (text : List ℕ) → annexes ≡ true → begins_annex text ≡ true → IsFront annexes text (record { kind = Some AnnexBegin; len = 3 })
front_annex annexes text on t =
    let at = annex_at text t in
    let P : List ℕ → Type 0 = λ x. IsFront true x (record { kind = Some AnnexBegin; len = 3 }) in
    let Q : Bool → Type 0 = λ on. IsFront on text (record { kind = Some AnnexBegin; len = 3 }) in
    subst Q (sym on) (subst P (sym at.1) (annex_front at.0))

-- at another byte, where no comment and no annex begins, a front that is a form is a sign
other_form : (annexes : Bool) (b : ℕ) (x : List ℕ) → IsOther b → begins_comment (b ∷ x) ≡ false → (annexes ≡ true → begins_annex (b ∷ x) ≡ false)
    → (kind : Option TokenKind) (front back : List ℕ) → b ∷ x ≡ front ++ back → IsForm annexes kind front → (kind ≡ Some Sign) × IsSign front
other_form annexes b x o no_comment no_annex kind [] back e h = absurd (form_nil annexes kind h)
other_form annexes b x o no_comment no_annex kind (a ∷ front) back e h = from kind h (subst (λ (c : ℕ). first_of kind c ≡ true) same (first_is annexes kind a front h))
  where
    same : a ≡ b
    same = cc

    dashes : (y : List ℕ) → front ≡ 45 ∷ y → a ≡ 45 → ⊥
    dashes y w d = false≢true (sym no_comment ∙ ap begins_comment (let p : b ≡ 45 = cc in let q : x ≡ 45 ∷ (y ++ back) = cc in let r : b ∷ x ≡ 45 ∷ 45 ∷ (y ++ back) = cc in r))

    comment : IsComment (a ∷ front) → ⊥
    comment j = second front refl (lead (λ c. c == 45) _ a front j).1
      where
        second : (f : List ℕ) → front ≡ f → (Byte 45 followed_by Repeated (One (λ c. not (c == 10)))) f → ⊥
        second [] w k = lead_nil _ _ k
        second (d ∷ y) w k = dashes y (w ∙ ap (λ (c : ℕ). c ∷ y) (eqb-true d 45 (lead (λ c. c == 45) _ d y k).0)) (eqb-true a 45 (lead (λ c. c == 45) _ a front j).0)

    from : (kind : Option TokenKind) → IsForm annexes kind (a ∷ front) → first_of kind b ≡ true → (kind ≡ Some Sign) × IsSign (a ∷ front)
    from None (inl k) t = absurd (false≢true (sym o.blank ∙ subst (λ (c : ℕ). is_blank c ≡ true) same (one_byte is_blank a front k).0))
    from None (inr j) t = absurd (comment j)
    from (Some Word) k t = absurd (false≢true (sym o.letter ∙ t))
    from (Some Number) k t = absurd (false≢true (sym o.digit ∙ t))
    from (Some Text) k t = absurd (o.quote (eqb-true b 34 t))
    from (Some Sign) k t = (refl, k)
    from (Some AnnexBegin) k t = absurd (false≢true (sym (no_annex k.0) ∙ ap begins_annex (let w : a ∷ front ≡ 123 ∷ 42 ∷ 42 ∷ [] = k.1 in let r : b ∷ x ≡ 123 ∷ 42 ∷ 42 ∷ back = cc in r)))
    from (Some AnnexRaw) k t = absurd k
    from (Some AnnexEnd) k t = absurd k

pub front_sign : (annexes : Bool) (text : List ℕ) → 0 < length text → IsOther (get_or text 0 0) → begins_comment text ≡ false → (annexes ≡ true → begins_annex text ≡ false) → (sign_len text ≡ 0 → ⊥) → IsFront annexes text (record { kind = Some Sign; len = sign_len text })
front_sign annexes [] some o c a s = absurd (omega arith)
front_sign annexes (b ∷ x) some o c a s =
    let m = sign_most (b ∷ x) in
    front_of annexes (Some Sign) (b ∷ x) _ (elim (cases_eq (sign_len (b ∷ x)) 0) [ inl z ↦ absurd (s z) | inr ne ↦ omega arith ]) m.within (m.form s)
    (λ other front back e h. m.most front back e (other_form annexes b x o c a other front back e h).1)

pub stuck_byte : (annexes : Bool) (text : List ℕ) → 0 < length text → IsOther (get_or text 0 0) → begins_comment text ≡ false → (annexes ≡ true → begins_annex text ≡ false) → sign_len text ≡ 0 → IsStuck annexes BadByte text
stuck_byte annexes [] some o c a z = absurd (omega arith)
stuck_byte annexes (b ∷ x) some o c a z =
    inl (refl, record { first = b; rest = x; whole = refl; no_quote = o.quote; nothing = λ kind front back e h. most_none IsSign (λ n. false≢true (sign_from [] n)) (b ∷ x) _ (sign_most (b ∷ x)) z front back e (other_form annexes b x o c a kind front back e h).1 })

-- ---- bytes are of one kind

-- a form at `-` other than a comment or a sign, and one at `{` other than a sign or `{**`, there is none
comment_kind : (annexes : Bool) (kind : Option TokenKind) (b : ℕ) (x : List ℕ) → IsComment (b ∷ x) → IsForm annexes kind (b ∷ x) → kind ≡ None
comment_kind annexes kind b x j h = from kind h (subst (λ (c : ℕ). first_of kind c ≡ true) (eqb-true b 45 dash) (first_is annexes kind b x h))
  where
    dash : eqb b 45 ≡ true
    dash = (lead (λ c. c == 45) _ b x j).0

    second : (y : List ℕ) → (Byte 45 followed_by Repeated (One (λ c. not (c == 10)))) y → IsSign (b ∷ y) → ⊥
    second [] k s = lead_nil _ _ k
    second (c ∷ y) k s =
        let p : b ≡ 45 = eqb-true b 45 dash in
        let q : c ≡ 45 = eqb-true c 45 (lead (λ d. d == 45) _ c y k).0 in
        sign_dash y (subst (λ (n : ℕ). IsSign (45 ∷ n ∷ y)) q (subst (λ (n : ℕ). IsSign (n ∷ c ∷ y)) p s))

    from : (kind : Option TokenKind) → IsForm annexes kind (b ∷ x) → first_of kind 45 ≡ true → kind ≡ None
    from None k t = refl
    from (Some Word) k t = absurd (false≢true t)
    from (Some Number) k t = absurd (false≢true t)
    from (Some Text) k t = absurd (false≢true t)
    from (Some Sign) k t = absurd (second x (lead (λ c. c == 45) _ b x j).1 k)
    from (Some AnnexBegin) k t = absurd (false≢true t)
    from (Some AnnexRaw) k t = absurd k
    from (Some AnnexEnd) k t = absurd k

begin_kind : (annexes : Bool) (kind : Option TokenKind) (bytes : List ℕ) → bytes ≡ annex_begin → IsForm annexes kind bytes → kind ≡ Some AnnexBegin
begin_kind annexes kind bytes e h = from kind (subst (IsForm annexes kind) e h)
  where
    from : (kind : Option TokenKind) → IsForm annexes kind annex_begin → kind ≡ Some AnnexBegin
    from None k = absurd (false≢true (first_is annexes None 123 _ k))
    from (Some Word) k = absurd (false≢true (first_is annexes (Some Word) 123 _ k))
    from (Some Number) k = absurd (false≢true (first_is annexes (Some Number) 123 _ k))
    from (Some Text) k = absurd (false≢true (first_is annexes (Some Text) 123 _ k))
    from (Some Sign) k = absurd (false≢true (sign_from annex_begin k))
    from (Some AnnexBegin) k = refl
    from (Some AnnexRaw) k = absurd k
    from (Some AnnexEnd) k = absurd k

only_kind : (annexes : Bool) (class : ℕ → Bool) (k l : Option TokenKind) (b : ℕ) (x : List ℕ) → ((other : Option TokenKind) → (other ≡ k → ⊥) → Clear class other) → class b ≡ true → IsForm annexes l (b ∷ x) → k ≡ l
only_kind annexes class k l b x only t h = elim (same_kind l k) [
  | inl e ↦ sym e
  | inr ne ↦ absurd (only l ne b t (first_is annexes l b x h))
]

pub one_kind : (annexes : Bool) (k l : Option TokenKind) (bytes : List ℕ) → IsForm annexes k bytes → IsForm annexes l bytes → k ≡ l
one_kind annexes k l [] h i = absurd (form_nil annexes k h)
one_kind annexes None l (b ∷ x) (inl h) i = only_kind annexes is_blank None l b x blank_only (one_byte is_blank b x h).0 i
one_kind annexes None l (b ∷ x) (inr j) i = sym (comment_kind annexes l b x j i)
one_kind annexes (Some Word) l (b ∷ x) h i = only_kind annexes is_letter (Some Word) l b x letter_only (first_is annexes (Some Word) b x h) i
one_kind annexes (Some Number) l (b ∷ x) h i = only_kind annexes is_digit (Some Number) l b x digit_only (first_is annexes (Some Number) b x h) i
one_kind annexes (Some Text) l (b ∷ x) h i = only_kind annexes is_quote (Some Text) l b x quote_only (first_is annexes (Some Text) b x h) i
one_kind annexes (Some AnnexBegin) l (b ∷ x) h i = sym (begin_kind annexes l (b ∷ x) h.1 i)
one_kind annexes (Some AnnexRaw) l (b ∷ x) h i = absurd h
one_kind annexes (Some AnnexEnd) l (b ∷ x) h i = absurd h
one_kind annexes (Some Sign) l (b ∷ x) h i = from l i
  where
    from : (l : Option TokenKind) → IsForm annexes l (b ∷ x) → Some Sign ≡ l
    from None (inl k) = absurd (blank_apart is_sign_byte refl b (one_byte is_blank b x k).0 (first_is annexes (Some Sign) b x h))
    from None (inr j) = comment_kind annexes (Some Sign) b x j h
    from (Some Word) k = absurd (letter_only (Some Sign) (λ e. absurd cc) b (first_is annexes (Some Word) b x k) (first_is annexes (Some Sign) b x h))
    from (Some Number) k = absurd (digit_only (Some Sign) (λ e. absurd cc) b (first_is annexes (Some Number) b x k) (first_is annexes (Some Sign) b x h))
    from (Some Text) k = absurd (quote_only (Some Sign) (λ e. absurd cc) b (first_is annexes (Some Text) b x k) (first_is annexes (Some Sign) b x h))
    from (Some Sign) k = refl
    from (Some AnnexBegin) k = begin_kind annexes (Some Sign) (b ∷ x) k.1 h
    from (Some AnnexRaw) k = absurd k
    from (Some AnnexEnd) k = absurd k
