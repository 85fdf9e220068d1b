-- The longest word, quoted text, comment and sign at the front of a text.
use Rattle.std.proofs.Common.{◌≡◌, ℕ, zero, suc, ◌+◌, ◌<◌, ◌≤◌, Bool, true, false, cond, eqb, List, [], ◌∷◌, ◌++◌, length, take, drop, get_or, Option, Some, None, refl, sym, ap, subst, ◌∙◌, inl, inr, ◌⊎◌, append_assoc, arith, lit<}
use Rattle.std.specs.Prelude.{◌==◌, ◌||◌, ◌&&◌, not, Contains, codes}
use Rattle.std.specs.List.{list_all}
use Rattle.std.specs.Option.{option_map}
use Rattle.std.proofs.lemmas.Bool.{cases_Bool, cases_lt, cond-true, cond-false, false≢true, eqb-true, eq-eqb, ne_eqb, or_cases, or_parts, or_from, and_parts, and_from, not-true, not_from_false, false_from_ne_true}
use Rattle.std.proofs.lemmas.List.{length-append, drop_more, drop_all, drop-drop}
use Rattle.std.proofs.lemmas.List.Sums.{prefix_len-le-length}
use Rattle.aadl_syntax.specs.Form.{One, Byte, ◌followed_by◌, Repeated, Perhaps, Either, IsWord, IsText, IsSign, IsComment, is_letter, is_letter_or_digit, is_sign_byte}
use Rattle.aadl_lexer.specs.inner.Scan.{line_len, word_rest_len, text_rest_len, is_pair, is_triple, sign_len}
use Rattle.aadl_lexer.proofs.Runs.{rep_none, rep_more, rep_first, FirstPart, one_byte, run_is, run_within}
use Rattle.aadl_lexer.proofs.Most.{IsMost, none_most, no_such, lead, lead_nil, led}

-- a byte, and then the longest front of a form that may be of no byte
pub led_most : (class : ℕ → Bool) (Form : List ℕ → Type 0) (b : ℕ) (x : List ℕ) (n : ℕ) → class b ≡ true → Form (take n x) → IsMost Form x n → IsMost (One class followed_by Form) (b ∷ x) (suc n)
led_most class Form b x n t h m = record { within = omega (arith, m.within); form = λ _. led class Form b _ t h; most = most }
  where
    most : (front back : List ℕ) → b ∷ x ≡ front ++ back → (One class followed_by Form) front → length front ≤ suc n
    most [] back e j = omega arith
    most (a ∷ front) back e j = omega (arith, m.most front back (cc) (lead class Form a front j).1)

-- ---- words

abbrev Unit_ : List ℕ → Type 0
Unit_ = Perhaps (Byte 95) followed_by One is_letter_or_digit

abbrev WordRest : List ℕ → Type 0
WordRest = Repeated Unit_

unit_cases : (bytes : List ℕ) → Unit_ bytes → One is_letter_or_digit bytes ⊎ (Byte 95 followed_by One is_letter_or_digit) bytes
unit_cases bytes j = from j.first
  where
    from : Perhaps (Byte 95) j.front → One is_letter_or_digit bytes ⊎ (Byte 95 followed_by One is_letter_or_digit) bytes
    from (inl e) = inl (subst (One is_letter_or_digit) (sym (j.whole ∙ ap (λ (x : List ℕ). x ++ j.back) e)) j.second)
    from (inr h) = inr (record { front = j.front; back = j.back; whole = j.whole; first = h; second = j.second })

unit_nil : Unit_ [] → ⊥
unit_nil h = elim (unit_cases [] h) [ inl o ↦ o | inr j ↦ lead_nil _ _ j ]

-- a letter or digit, or `_` and one, in front of what follows
data WordStep (b : ℕ) (x : List ℕ) : Type 0 where
  alone : is_letter_or_digit b ≡ true → WordRest x → WordStep b x
  lined : (c : ℕ) (y : List ℕ) → eqb b 95 ≡ true → x ≡ c ∷ y → is_letter_or_digit c ≡ true → WordRest y → WordStep b x

word_step : (b : ℕ) (x : List ℕ) → WordRest (b ∷ x) → WordStep b x
word_step b x r = from (rep_first Unit_ unit_nil b x r)
  where
    from : FirstPart Unit_ b x → WordStep b x
    from f = elim (unit_cases (b ∷ f.part) f.first) [
      | inl o ↦ let h = one_byte is_letter_or_digit b f.part o in alone h.0 (subst WordRest (sym (f.whole ∙ ap (λ (p : List ℕ). p ++ f.others) h.1)) f.more)
      | inr j ↦ let h = lead (λ c. c == 95) (One is_letter_or_digit) b f.part j in two h.0 f.part f.whole h.1
    ]
      where
        two : eqb b 95 ≡ true → (part : List ℕ) → x ≡ part ++ f.others → One is_letter_or_digit part → WordStep b x
        two t [] e h = absurd h
        two t (c ∷ p) e h = let k = one_byte is_letter_or_digit c p h in lined c f.others t (e ∙ ap (λ (q : List ℕ). (c ∷ q) ++ f.others) k.1) k.0 f.more

word_alone : (b : ℕ) (x : List ℕ) → is_letter_or_digit b ≡ true → WordRest x → WordRest (b ∷ x)
word_alone b x t r = rep_more Unit_ (b ∷ []) x (record { front = []; back = b ∷ []; whole = refl; first = inl refl; second = t }) r

word_lined : (b c : ℕ) (x : List ℕ) → eqb b 95 ≡ true → is_letter_or_digit c ≡ true → WordRest x → WordRest (b ∷ c ∷ x)
word_lined b c x t u r = rep_more Unit_ (b ∷ c ∷ []) x (record { front = b ∷ []; back = c ∷ []; whole = refl; first = inr t; second = u }) r

-- how `word_rest_len` goes
pub word_len_alone : (b : ℕ) (x : List ℕ) → is_letter_or_digit b ≡ true → word_rest_len (b ∷ x) ≡ suc (word_rest_len x)
unfolding word_rest_len
word_len_alone b [] t = cond-true (is_letter_or_digit b) 1 0 t
word_len_alone b (c ∷ x) t = cond-true (is_letter_or_digit b) _ _ t

pub word_len_lined : (b c : ℕ) (x : List ℕ) → is_letter_or_digit b ≡ false → eqb b 95 ≡ true → is_letter_or_digit c ≡ true → word_rest_len (b ∷ c ∷ x) ≡ suc (suc (word_rest_len x))
unfolding word_rest_len
word_len_lined b c x f t u = cond-false (is_letter_or_digit b) _ _ f ∙ cond-true (eqb b 95 && is_letter_or_digit c) _ _ (and_from _ _ t u)

pub word_len_end : (b : ℕ) → is_letter_or_digit b ≡ false → word_rest_len (b ∷ []) ≡ 0
unfolding word_rest_len
word_len_end b f = cond-false (is_letter_or_digit b) _ _ f

pub word_len_stop : (b c : ℕ) (x : List ℕ) → is_letter_or_digit b ≡ false → (eqb b 95 && is_letter_or_digit c) ≡ false → word_rest_len (b ∷ c ∷ x) ≡ 0
unfolding word_rest_len
word_len_stop b c x f g = cond-false (is_letter_or_digit b) _ _ f ∙ cond-false (eqb b 95 && is_letter_or_digit c) _ _ g

pub word_len_nil : word_rest_len [] ≡ 0
unfolding word_rest_len
word_len_nil = refl

-- `_` is no letter or digit
line_is_none : (b : ℕ) → eqb b 95 ≡ true → is_letter_or_digit b ≡ true → ⊥
line_is_none b t = no_such is_letter_or_digit b 95 t refl

-- a front is of the form as far as the length says
pub word_rest_is : (text : List ℕ) → (word_rest_len text ≤ length text) × WordRest (take (word_rest_len text) text)
word_rest_is [] = rw word_len_nil (omega arith, rep_none Unit_)
word_rest_is (b ∷ []) = elim (cases_Bool (is_letter_or_digit b)) [
  | inl t ↦ rw (word_len_alone b [] t, word_len_nil) (omega arith, word_alone b [] t (rep_none Unit_))
  | inr f ↦ rw (word_len_end b f) (omega arith, rep_none Unit_)
]
word_rest_is (b ∷ c ∷ text) = elim (cases_Bool (is_letter_or_digit b)) [
  | inl t ↦ let rest = word_rest_is (c ∷ text) in rw (word_len_alone b (c ∷ text) t) (omega (arith, rest.0), word_alone b _ t rest.1)
  | inr f ↦ elim (cases_Bool (eqb b 95 && is_letter_or_digit c)) [
    | inl t ↦
        let both = and_parts (eqb b 95) (is_letter_or_digit c) t in
        let rest = word_rest_is text in
        rw (word_len_lined b c text f both.0 both.1) (omega (arith, rest.0), word_lined b c _ both.0 both.1 rest.1)
    | inr g ↦ rw (word_len_stop b c text f g) (omega arith, rep_none Unit_)
  ]
]

-- and no front of the form is longer
pub word_rest_most : (text front back : List ℕ) → text ≡ front ++ back → WordRest front → length front ≤ word_rest_len text
word_rest_most text [] back e r = omega arith
word_rest_most [] (a ∷ front) back e r = absurd cc
word_rest_most (b ∷ text) (a ∷ []) back e r = from (word_step a [] r)
  where
    same : a ≡ b
    same = cc

    from : WordStep a [] → 1 ≤ word_rest_len (b ∷ text)
    from (alone t q) = omega (arith, word_len_alone b text (subst (λ (c : ℕ). is_letter_or_digit c ≡ true) same t))
    from (lined c y t none u q) = absurd cc
word_rest_most (b ∷ []) (a ∷ c ∷ front) back e r = absurd cc
word_rest_most (b ∷ d ∷ text) (a ∷ c ∷ front) back e r =
    from (λ f p q. word_rest_most (d ∷ text) f back p q) (λ f p q. word_rest_most text f back p q) (word_step a (c ∷ front) r)
  where
    same : a ≡ b
    same = cc

    from : ((f : List ℕ) → d ∷ text ≡ f ++ back → WordRest f → length f ≤ word_rest_len (d ∷ text)) → ((f : List ℕ) → text ≡ f ++ back → WordRest f → length f ≤ word_rest_len text) → WordStep a (c ∷ front) → suc (suc (length front)) ≤ word_rest_len (b ∷ d ∷ text)
    from one two (alone t q) = omega (arith, word_len_alone b (d ∷ text) (subst (λ (c : ℕ). is_letter_or_digit c ≡ true) same t), one (c ∷ front) (cc) q)
    from one two (lined k y t is u q) =
        let line : eqb b 95 ≡ true = subst (λ (n : ℕ). eqb n 95 ≡ true) same t in
        let next : k ≡ d = cc in
        let rest : y ≡ front = cc in
        omega (arith, word_len_lined b d text (false_from_ne_true (is_letter_or_digit b) (line_is_none b line)) line (subst (λ (n : ℕ). is_letter_or_digit n ≡ true) next u), two front (cc) (subst WordRest rest q))

pub word_most : (b : ℕ) (text : List ℕ) → is_letter b ≡ true → IsMost IsWord (b ∷ text) (suc (word_rest_len text))
word_most b text t = led_most is_letter WordRest b text (word_rest_len text) t (word_rest_is text).1 (record { within = (word_rest_is text).0; form = λ _. (word_rest_is text).1; most = word_rest_most text })

-- ---- quoted texts

abbrev pub is_plain : ℕ → Bool
is_plain b = not (b == 34 || b == 92)

abbrev pub any : ℕ → Bool
any _ = true

abbrev pub Letter : List ℕ → Type 0
Letter = Either (One is_plain) (Byte 92 followed_by One any)

-- a text after its opening quote
abbrev pub TextRest : List ℕ → Type 0
TextRest = Repeated Letter followed_by Byte 34

letter_nil : Letter [] → ⊥
letter_nil (inl h) = h
letter_nil (inr j) = lead_nil _ _ j

data TextStep (b : ℕ) (x : List ℕ) : Type 0 where
  closed : eqb b 34 ≡ true → x ≡ [] → TextStep b x
  plain : is_plain b ≡ true → TextRest x → TextStep b x
  escaped : (c : ℕ) (y : List ℕ) → eqb b 92 ≡ true → x ≡ c ∷ y → TextRest y → TextStep b x

text_nil : TextRest [] → ⊥
text_nil j = from j.front j.back j.whole j.second
  where
    from : (front back : List ℕ) → [] ≡ front ++ back → Byte 34 back → ⊥
    from [] [] e h = h
    from [] (a ∷ back) e h = absurd cc
    from (a ∷ front) back e h = absurd cc

text_step : (b : ℕ) (x : List ℕ) → TextRest (b ∷ x) → TextStep b x
text_step b x j = from j.front j.whole j.first j.second
  where
    next : (c : ℕ) (front : List ℕ) → b ∷ x ≡ (c ∷ front) ++ j.back → Byte 34 j.back → FirstPart Letter c front → TextStep b x
    next c front e k f = two f.first
      where
        same : c ≡ b
        same = cc

        rest : x ≡ f.part ++ (f.others ++ j.back)
        rest = let tail : x ≡ front ++ j.back = cc in tail ∙ ap (λ (p : List ℕ). p ++ j.back) f.whole ∙ append_assoc f.part f.others j.back

        more : TextRest (f.others ++ j.back)
        more = record { front = f.others; back = j.back; whole = refl; first = f.more; second = k }

        escape : eqb b 92 ≡ true → (part : List ℕ) → x ≡ part ++ (f.others ++ j.back) → One any part → TextStep b x
        escape t [] q h = absurd h
        escape t (d ∷ p) q h = escaped d (f.others ++ j.back) t (q ∙ ap (λ (z : List ℕ). (d ∷ z) ++ (f.others ++ j.back)) (one_byte any d p h).1) more

        two : Letter (c ∷ f.part) → TextStep b x
        two (inl o) = let h = one_byte is_plain c f.part o in plain (subst (λ (n : ℕ). is_plain n ≡ true) same h.0) (subst TextRest (sym (rest ∙ ap (λ (p : List ℕ). p ++ (f.others ++ j.back)) h.1)) more)
        two (inr l) = let h = lead (λ n. n == 92) (One any) c f.part l in escape (subst (λ (n : ℕ). eqb n 92 ≡ true) same h.0) f.part rest h.1

    from : (front : List ℕ) → b ∷ x ≡ front ++ j.back → Repeated Letter front → Byte 34 j.back → TextStep b x
    from [] e r k = let h = one_byte (λ n. n == 34) b x (subst (Byte 34) (sym e) k) in closed h.0 h.1
    from (c ∷ front) e r k = next c front e k (rep_first Letter letter_nil c front r)

text_plain : (b : ℕ) (x : List ℕ) → is_plain b ≡ true → TextRest x → TextRest (b ∷ x)
text_plain b x t j = record { front = b ∷ j.front; back = j.back; whole = ap (λ (p : List ℕ). b ∷ p) j.whole; first = rep_more Letter (b ∷ []) j.front (inl t) j.first; second = j.second }

text_escaped : (b c : ℕ) (x : List ℕ) → eqb b 92 ≡ true → TextRest x → TextRest (b ∷ c ∷ x)
text_escaped b c x t j = record { front = b ∷ c ∷ j.front; back = j.back; whole = ap (λ (p : List ℕ). b ∷ c ∷ p) j.whole; first = rep_more Letter (b ∷ c ∷ []) j.front (inr (record { front = b ∷ []; back = c ∷ []; whole = refl; first = t; second = refl })) j.first; second = j.second }

-- what a length says, or that there is none
unfoldable pub IsScan : List ℕ → Option ℕ → Type 0
IsScan text None = (front back : List ℕ) → text ≡ front ++ back → TextRest front → ⊥
IsScan text (Some n) = (0 < n) × IsMost TextRest text n

scan_nil : IsScan [] None
unfolding IsScan
scan_nil [] back e j = text_nil j
scan_nil (a ∷ front) back e j = absurd cc

plain_is : (b : ℕ) → eqb b 34 ≡ false → eqb b 92 ≡ false → is_plain b ≡ true
plain_is b f g = not_from_false _ (or_from _ _ f g)

quote_is_not_plain : (b : ℕ) → is_plain b ≡ true → (eqb b 34 ≡ false) × (eqb b 92 ≡ false)
quote_is_not_plain b t = or_parts _ _ (not-true _ t)

not_both : (b : ℕ) → eqb b 34 ≡ true → eqb b 92 ≡ true → ⊥
not_both b t u = no_such (λ c. c == 92) b 34 t refl u

scan_quote : (b : ℕ) (x : List ℕ) → eqb b 34 ≡ true → IsScan (b ∷ x) (Some 1)
unfolding IsScan
scan_quote b x t = (omega arith, record { within = omega arith; form = λ _. record { front = []; back = b ∷ []; whole = refl; first = rep_none Letter; second = t }; most = most })
  where
    most : (front back : List ℕ) → b ∷ x ≡ front ++ back → TextRest front → length front ≤ 1
    most [] back e j = omega arith
    most (a ∷ front) back e j = from (text_step a front j)
      where
        same : a ≡ b
        same = cc

        from : TextStep a front → suc (length front) ≤ 1
        from (closed h none) = omega (arith, ap length none)
        from (plain h r) = absurd (false≢true (sym (quote_is_not_plain a h).0 ∙ subst (λ (n : ℕ). eqb n 34 ≡ true) (sym same) t))
        from (escaped c y h is r) = absurd (not_both a (subst (λ (n : ℕ). eqb n 34 ≡ true) (sym same) t) h)

plain_none : (b : ℕ) (x : List ℕ) → eqb b 34 ≡ false → eqb b 92 ≡ false → ((front back : List ℕ) → x ≡ front ++ back → TextRest front → ⊥) → (front back : List ℕ) → b ∷ x ≡ front ++ back → TextRest front → ⊥
plain_none b x f g h [] back e j = text_nil j
plain_none b x f g h (a ∷ front) back e j = from (text_step a front j)
  where
    same : a ≡ b
    same = cc

    from : TextStep a front → ⊥
    from (closed t none) = false≢true (sym f ∙ subst (λ (n : ℕ). eqb n 34 ≡ true) same t)
    from (plain t r) = h front back (cc) r
    from (escaped c y t is r) = false≢true (sym g ∙ subst (λ (n : ℕ). eqb n 92 ≡ true) same t)

scan_plain : (b : ℕ) (x : List ℕ) (r : Option ℕ) → eqb b 34 ≡ false → eqb b 92 ≡ false → IsScan x r → IsScan (b ∷ x) (option_map suc r)
unfolding IsScan
scan_plain b x None f g h = plain_none b x f g h
scan_plain b x (Some n) f g h = (omega arith, record { within = omega (arith, h.1.within); form = λ _. text_plain b _ (plain_is b f g) (h.1.form (λ z. absurd (omega (arith, h.0)))); most = most })
  where
    most : (front back : List ℕ) → b ∷ x ≡ front ++ back → TextRest front → length front ≤ suc n
    most [] back e j = omega arith
    most (a ∷ front) back e j = from (text_step a front j)
      where
        same : a ≡ b
        same = cc

        from : TextStep a front → suc (length front) ≤ suc n
        from (closed t none) = absurd (false≢true (sym f ∙ subst (λ (k : ℕ). eqb k 34 ≡ true) same t))
        from (plain t r) = omega (arith, h.1.most front back (cc) r)
        from (escaped c y t is r) = absurd (false≢true (sym g ∙ subst (λ (k : ℕ). eqb k 92 ≡ true) same t))

escaped_none : (b c : ℕ) (x : List ℕ) → eqb b 92 ≡ true → ((front back : List ℕ) → x ≡ front ++ back → TextRest front → ⊥) → (front back : List ℕ) → b ∷ c ∷ x ≡ front ++ back → TextRest front → ⊥
escaped_none b c x t h [] back e j = text_nil j
escaped_none b c x t h (a ∷ front) back e j = from (text_step a front j)
  where
    same : a ≡ b
    same = cc

    from : TextStep a front → ⊥
    from (closed u none) = not_both b (subst (λ (n : ℕ). eqb n 34 ≡ true) same u) t
    from (plain u r) = false≢true (sym (quote_is_not_plain a u).1 ∙ subst (λ (n : ℕ). eqb n 92 ≡ true) (sym same) t)
    from (escaped d y u is r) = h y back (let tail : c ∷ x ≡ front ++ back = cc in let all : c ∷ x ≡ (d ∷ y) ++ back = tail ∙ ap (λ (p : List ℕ). p ++ back) is in cc) r

scan_escaped : (b c : ℕ) (x : List ℕ) (r : Option ℕ) → eqb b 92 ≡ true → IsScan x r → IsScan (b ∷ c ∷ x) (option_map (λ n. suc (suc n)) r)
unfolding IsScan
scan_escaped b c x None t h = escaped_none b c x t h
scan_escaped b c x (Some n) t h = (omega arith, record { within = omega (arith, h.1.within); form = λ _. text_escaped b c _ t (h.1.form (λ z. absurd (omega (arith, h.0)))); most = most })
  where
    most : (front back : List ℕ) → b ∷ c ∷ x ≡ front ++ back → TextRest front → length front ≤ suc (suc n)
    most [] back e j = omega arith
    most (a ∷ front) back e j = from (text_step a front j)
      where
        same : a ≡ b
        same = cc

        from : TextStep a front → suc (length front) ≤ suc (suc n)
        from (closed u none) = absurd (not_both b (subst (λ (k : ℕ). eqb k 34 ≡ true) same u) t)
        from (plain u r) = absurd (false≢true (sym (quote_is_not_plain a u).1 ∙ subst (λ (k : ℕ). eqb k 92 ≡ true) (sym same) t))
        from (escaped d y u is r) = omega (arith, ap length is, h.1.most y back (let tail : c ∷ x ≡ front ++ back = cc in let all : c ∷ x ≡ (d ∷ y) ++ back = tail ∙ ap (λ (p : List ℕ). p ++ back) is in cc) r)

-- a lone byte that is no quote
scan_end : (b : ℕ) → eqb b 34 ≡ false → IsScan (b ∷ []) None
unfolding IsScan
scan_end b f [] back e j = text_nil j
scan_end b f (a ∷ front) back e j = from (text_step a front j)
  where
    same : a ≡ b
    same = cc

    from : TextStep a front → ⊥
    from (closed t none) = false≢true (sym f ∙ subst (λ (n : ℕ). eqb n 34 ≡ true) same t)
    from (plain t r) = let none : front ≡ [] = front_nil front back (cc) in text_nil (subst TextRest none r)
      where
        front_nil : (p q : List ℕ) → [] ≡ p ++ q → p ≡ []
        front_nil [] q z = refl
        front_nil (k ∷ p) q z = absurd cc
    from (escaped c y t is r) = none front back (cc) is
      where
        none : (p q : List ℕ) → [] ≡ p ++ q → p ≡ c ∷ y → ⊥
        none [] q z w = absurd cc
        none (k ∷ p) q z w = absurd cc

-- how `text_rest_len` goes
pub text_len_nil : text_rest_len [] ≡ None
unfolding text_rest_len
text_len_nil = refl

pub text_len_quote : (b : ℕ) (x : List ℕ) → eqb b 34 ≡ true → text_rest_len (b ∷ x) ≡ Some 1
unfolding text_rest_len
text_len_quote b [] t = cond-true (eqb b 34) _ _ t
text_len_quote b (c ∷ x) t = cond-true (eqb b 34) _ _ t

pub text_len_end : (b : ℕ) → eqb b 34 ≡ false → text_rest_len (b ∷ []) ≡ None
unfolding text_rest_len
text_len_end b f = cond-false (eqb b 34) _ _ f

pub text_len_escaped : (b c : ℕ) (x : List ℕ) → eqb b 34 ≡ false → eqb b 92 ≡ true → text_rest_len (b ∷ c ∷ x) ≡ option_map (λ n. suc (suc n)) (text_rest_len x)
unfolding text_rest_len
text_len_escaped b c x f t = cond-false (eqb b 34) _ _ f ∙ cond-true (eqb b 92) _ _ t

pub text_len_plain : (b : ℕ) (x : List ℕ) → eqb b 34 ≡ false → eqb b 92 ≡ false → text_rest_len (b ∷ x) ≡ option_map suc (text_rest_len x)
unfolding text_rest_len
text_len_plain b [] f g = cond-false (eqb b 34) _ _ f
text_len_plain b (c ∷ x) f g = cond-false (eqb b 34) _ _ f ∙ cond-false (eqb b 92) _ _ g

pub text_scan : (text : List ℕ) → IsScan text (text_rest_len text)
text_scan [] = rw text_len_nil scan_nil
text_scan (b ∷ []) = elim (cases_Bool (eqb b 34)) [
  | inl t ↦ rw (text_len_quote b [] t) (scan_quote b [] t)
  | inr f ↦ rw (text_len_end b f) (scan_end b f)
]
text_scan (b ∷ c ∷ text) = elim (cases_Bool (eqb b 34)) [
  | inl t ↦ rw (text_len_quote b (c ∷ text) t) (scan_quote b (c ∷ text) t)
  | inr f ↦ elim (cases_Bool (eqb b 92)) [
    | inl t ↦ rw (text_len_escaped b c text f t) (scan_escaped b c text _ t (text_scan text))
    | inr g ↦ rw (text_len_plain b (c ∷ text) f g) (scan_plain b (c ∷ text) _ f g (text_scan (c ∷ text)))
  ]
]

-- what a whole quoted text is, by its length after the quote
unfoldable pub IsTextScan : List ℕ → Option ℕ → Type 0
IsTextScan text None = (front back : List ℕ) → text ≡ front ++ back → IsText front → ⊥
IsTextScan text (Some n) = IsMost IsText text (suc n)

pub quoted_scan : (b : ℕ) (x : List ℕ) (r : Option ℕ) → eqb b 34 ≡ true → IsScan x r → IsTextScan (b ∷ x) r
unfolding IsScan IsTextScan
quoted_scan b x None t h = absent b x h
  where
    absent : (b : ℕ) (x : List ℕ) → ((front back : List ℕ) → x ≡ front ++ back → TextRest front → ⊥) → (front back : List ℕ) → b ∷ x ≡ front ++ back → IsText front → ⊥
    absent b x h [] back e j = lead_nil _ _ j
    absent b x h (a ∷ front) back e j = h front back (cc) (lead (λ c. c == 34) TextRest a front j).1
quoted_scan b x (Some n) t h = led_most (λ c. c == 34) TextRest b x n t (h.1.form (λ z. absurd (omega (arith, h.0)))) h.1

pub no_text : (text : List ℕ) → IsTextScan text None → (front back : List ℕ) → text ≡ front ++ back → IsText front → ⊥
unfolding IsTextScan
no_text text h = h

-- ---- comments

abbrev is_no_line_feed : ℕ → Bool
is_no_line_feed b = not (b == 10)

pub comment_most : (text : List ℕ) → IsMost IsComment (45 ∷ 45 ∷ text) (suc (suc (line_len text)))
unfolding line_len
comment_most text =
    let line : IsMost (Repeated (One is_no_line_feed)) text (line_len text) = record {
      within = prefix_len-le-length is_no_line_feed text;
      form = λ _. run_is is_no_line_feed text;
      most = λ front back e r. (run_within is_no_line_feed text front back e r).most;
    } in
    let second = led_most (λ b. b == 45) (Repeated (One is_no_line_feed)) 45 text (line_len text) refl (run_is is_no_line_feed text) line in
    led_most (λ b. b == 45) (Byte 45 followed_by Repeated (One is_no_line_feed)) 45 (45 ∷ text) (suc (line_len text)) refl (second.form (λ z. absurd (omega arith))) second

-- ---- signs

-- whether the bytes are a sign
abbrev pub is_whole_sign : List ℕ → Bool
is_whole_sign [] = false
is_whole_sign (a ∷ []) = is_sign_byte a
is_whole_sign (a ∷ b ∷ []) = is_pair a b
is_whole_sign (a ∷ b ∷ c ∷ []) = is_triple a b c
is_whole_sign (a ∷ b ∷ c ∷ d ∷ rest) = false

abbrev long_signs : List (List ℕ)
long_signs = codes "::" ∷ codes "->" ∷ codes "<->" ∷ codes "=>" ∷ codes "+=>" ∷ codes ".." ∷ []

contains_more : (x : List ℕ) (xs : List (List ℕ)) (y : List ℕ) → Contains (x ∷ xs) y → (x ≡ y) ⊎ Contains xs y
contains_more x xs y (zero, lt, e) = inl e
contains_more x xs y (suc k, lt, e) = inr (k, omega arith, e)

-- each of the listed ones is a sign
listed_sign : (xs : List (List ℕ)) (y : List ℕ) → list_all is_whole_sign xs ≡ true → Contains xs y → is_whole_sign y ≡ true
listed_sign [] y t (k, lt, e) = absurd (omega arith)
listed_sign (x ∷ xs) y t h =
    let both = and_parts (is_whole_sign x) (list_all is_whole_sign xs) t in
    elim (contains_more x xs y h) [ inl e ↦ ap is_whole_sign (sym e) ∙ both.0 | inr k ↦ listed_sign xs y both.1 k ]

pub sign_from : (bytes : List ℕ) → IsSign bytes → is_whole_sign bytes ≡ true
sign_from [] (inl h) = absurd h
sign_from (a ∷ []) (inl h) = h
sign_from (a ∷ b ∷ rest) (inl h) = absurd h
sign_from bytes (inr h) = listed_sign long_signs bytes refl h

at_place : (k : ℕ) (bytes : List ℕ) → k < 6 → get_or long_signs k bytes ≡ bytes → IsSign bytes
at_place k bytes lt e = inr (k, lt, e)

same_two : (a b m n : ℕ) → (eqb a m && eqb b n) ≡ true → m ∷ n ∷ [] ≡ a ∷ b ∷ []
same_two a b m n t = let both = and_parts (eqb a m) (eqb b n) t in let p = eqb-true a m both.0 in let q = eqb-true b n both.1 in cc

same_three : (a b c m n o : ℕ) → (eqb a m && eqb b n && eqb c o) ≡ true → m ∷ n ∷ o ∷ [] ≡ a ∷ b ∷ c ∷ []
same_three a b c m n o t =
    let both = and_parts (eqb a m && eqb b n) (eqb c o) t in
    let two = and_parts (eqb a m) (eqb b n) both.0 in
    let p = eqb-true a m two.0 in let q = eqb-true b n two.1 in let r = eqb-true c o both.1 in cc

pub sign_is : (bytes : List ℕ) → is_whole_sign bytes ≡ true → IsSign bytes
sign_is [] t = absurd (false≢true t)
sign_is (a ∷ []) t = inl t
sign_is (a ∷ b ∷ []) t = elim (or_cases _ _ t) [
  | inl u ↦ elim (or_cases _ _ u) [
    | inl v ↦ elim (or_cases _ _ v) [
      | inl w ↦ at_place 0 _ (lit< tt) (same_two a b 58 58 w)
      | inr w ↦ at_place 1 _ (lit< tt) (same_two a b 45 62 w)
    ]
    | inr v ↦ at_place 3 _ (lit< tt) (same_two a b 61 62 v)
  ]
  | inr u ↦ at_place 5 _ (lit< tt) (same_two a b 46 46 u)
]
sign_is (a ∷ b ∷ c ∷ []) t = elim (or_cases _ _ t) [
  | inl u ↦ at_place 2 _ (lit< tt) (same_three a b c 60 45 62 u)
  | inr u ↦ at_place 4 _ (lit< tt) (same_three a b c 43 61 62 u)
]
sign_is (a ∷ b ∷ c ∷ d ∷ rest) t = absurd (false≢true t)

-- the test of the first three bytes
three_cases : (t u v : Bool) (P : ℕ → Type 0) → (t ≡ true → P 3) → (t ≡ false → u ≡ true → P 2) → (t ≡ false → u ≡ false → v ≡ true → P 1) → (t ≡ false → u ≡ false → v ≡ false → P 0) → P (cond t 3 (cond u 2 (cond v 1 0)))
three_cases true u v P a b c d = a refl
three_cases false true v P a b c d = b refl refl
three_cases false false true P a b c d = c refl refl refl
three_cases false false false P a b c d = d refl refl refl

two_cases : (u v : Bool) (P : ℕ → Type 0) → (u ≡ true → P 2) → (u ≡ false → v ≡ true → P 1) → (u ≡ false → v ≡ false → P 0) → P (cond u 2 (cond v 1 0))
two_cases true v P b c d = b refl
two_cases false true P b c d = c refl refl
two_cases false false P b c d = d refl refl

-- a front of the first bytes that is a sign
pub sign_most : (text : List ℕ) → IsMost IsSign text (sign_len text)
unfolding sign_len
sign_most [] = none_most IsSign [] absent
  where
    absent : (front back : List ℕ) → [] ≡ front ++ back → IsSign front → ⊥
    absent [] back e h = false≢true (sign_from [] h)
    absent (a ∷ front) back e h = absurd cc
sign_most (a ∷ []) = elim (cases_Bool (is_sign_byte a)) [
  | inl t ↦ rw (cond-true {A = ℕ} (is_sign_byte a) 1 0 t) (record { within = omega arith; form = λ _. inl t; most = one })
  | inr f ↦ rw (cond-false {A = ℕ} (is_sign_byte a) 1 0 f) (none_most IsSign _ (absent f))
]
  where
    one : (front back : List ℕ) → a ∷ [] ≡ front ++ back → IsSign front → length front ≤ 1
    one front back e h = omega (arith, ap length e, length-append front back)

    absent : is_sign_byte a ≡ false → (front back : List ℕ) → a ∷ [] ≡ front ++ back → IsSign front → ⊥
    absent f [] back e h = false≢true (sign_from [] h)
    absent f (k ∷ []) back e h = let same : k ≡ a = cc in false≢true (sym f ∙ subst (λ (n : ℕ). is_sign_byte n ≡ true) same (sign_from (k ∷ []) h))
    absent f (k ∷ l ∷ front) back e h = absurd cc
sign_most (a ∷ b ∷ []) = two_cases (is_pair a b) (is_sign_byte a) (IsMost IsSign (a ∷ b ∷ []))
    (λ t. record { within = omega arith; form = λ _. sign_is (a ∷ b ∷ []) t; most = λ front back e h. omega (arith, ap length e, length-append front back) })
    (λ f t. record { within = omega arith; form = λ _. inl t; most = most f })
    (λ f g. none_most IsSign _ (absent f g))
  where
    most : is_pair a b ≡ false → (front back : List ℕ) → a ∷ b ∷ [] ≡ front ++ back → IsSign front → length front ≤ 1
    most f [] back e h = omega arith
    most f (k ∷ []) back e h = omega arith
    most f (k ∷ l ∷ []) back e h = let p : k ≡ a = cc in let q : l ≡ b = cc in absurd (false≢true (sym f ∙ subst (λ (n : ℕ). is_pair a n ≡ true) q (subst (λ (n : ℕ). is_pair n l ≡ true) p (sign_from (k ∷ l ∷ []) h))))
    most f (k ∷ l ∷ m ∷ front) back e h = absurd cc

    absent : is_pair a b ≡ false → is_sign_byte a ≡ false → (front back : List ℕ) → a ∷ b ∷ [] ≡ front ++ back → IsSign front → ⊥
    absent f g [] back e h = false≢true (sign_from [] h)
    absent f g (k ∷ []) back e h = let p : k ≡ a = cc in false≢true (sym g ∙ subst (λ (n : ℕ). is_sign_byte n ≡ true) p (sign_from (k ∷ []) h))
    absent f g (k ∷ l ∷ front) back e h = absurd (omega (arith, most f (k ∷ l ∷ front) back e h))
sign_most (a ∷ b ∷ c ∷ rest) = three_cases (is_triple a b c) (is_pair a b) (is_sign_byte a) (IsMost IsSign (a ∷ b ∷ c ∷ rest))
    (λ t. record { within = omega arith; form = λ _. sign_is (a ∷ b ∷ c ∷ []) t; most = three })
    (λ f t. record { within = omega arith; form = λ _. sign_is (a ∷ b ∷ []) t; most = two f })
    (λ f g t. record { within = omega arith; form = λ _. inl t; most = one f g })
    (λ f g h. none_most IsSign _ (absent f g h))
  where
    three : (front back : List ℕ) → a ∷ b ∷ c ∷ rest ≡ front ++ back → IsSign front → length front ≤ 3
    three [] back e h = omega arith
    three (k ∷ []) back e h = omega arith
    three (k ∷ l ∷ []) back e h = omega arith
    three (k ∷ l ∷ m ∷ []) back e h = omega arith
    three (k ∷ l ∷ m ∷ n ∷ front) back e h = absurd (false≢true (sign_from (k ∷ l ∷ m ∷ n ∷ front) h))

    two : is_triple a b c ≡ false → (front back : List ℕ) → a ∷ b ∷ c ∷ rest ≡ front ++ back → IsSign front → length front ≤ 2
    two f [] back e h = omega arith
    two f (k ∷ []) back e h = omega arith
    two f (k ∷ l ∷ []) back e h = omega arith
    two f (k ∷ l ∷ m ∷ []) back e h =
        let p : k ≡ a = cc in let q : l ≡ b = cc in let r : m ≡ c = cc in
        absurd (false≢true (sym f ∙ subst (λ (n : ℕ). is_triple a b n ≡ true) r (subst (λ (n : ℕ). is_triple a n m ≡ true) q (subst (λ (n : ℕ). is_triple n l m ≡ true) p (sign_from (k ∷ l ∷ m ∷ []) h)))))
    two f (k ∷ l ∷ m ∷ n ∷ front) back e h = absurd (false≢true (sign_from (k ∷ l ∷ m ∷ n ∷ front) h))

    one : is_triple a b c ≡ false → is_pair a b ≡ false → (front back : List ℕ) → a ∷ b ∷ c ∷ rest ≡ front ++ back → IsSign front → length front ≤ 1
    one f g [] back e h = omega arith
    one f g (k ∷ []) back e h = omega arith
    one f g (k ∷ l ∷ []) back e h = let p : k ≡ a = cc in let q : l ≡ b = cc in absurd (false≢true (sym g ∙ subst (λ (n : ℕ). is_pair a n ≡ true) q (subst (λ (n : ℕ). is_pair n l ≡ true) p (sign_from (k ∷ l ∷ []) h))))
    one f g (k ∷ l ∷ m ∷ front) back e h = absurd (omega (arith, two f (k ∷ l ∷ m ∷ front) back e h))

    absent : is_triple a b c ≡ false → is_pair a b ≡ false → is_sign_byte a ≡ false → (front back : List ℕ) → a ∷ b ∷ c ∷ rest ≡ front ++ back → IsSign front → ⊥
    absent f g i [] back e h = false≢true (sign_from [] h)
    absent f g i (k ∷ []) back e h = let p : k ≡ a = cc in false≢true (sym i ∙ subst (λ (n : ℕ). is_sign_byte n ≡ true) p (sign_from (k ∷ []) h))
    absent f g i (k ∷ l ∷ front) back e h = absurd (omega (arith, one f g (k ∷ l ∷ front) back e h))

-- ---- the loops

pub word_at_alone : (text : List ℕ) (i total : ℕ) → i < length text → is_letter_or_digit (get_or text i 0) ≡ true → i + word_rest_len (drop i text) ≡ total → i + 1 + word_rest_len (drop (i + 1) text) ≡ total
word_at_alone text i total lt t e = omega (arith, e, ap word_rest_len (drop_more text i 0 lt) ∙ word_len_alone _ _ t)

pub word_at_lined : (text : List ℕ) (i total : ℕ) → i + 1 < length text → is_letter_or_digit (get_or text i 0) ≡ false → get_or text i 0 ≡ 95 → is_letter_or_digit (get_or text (i + 1) 0) ≡ true → i + word_rest_len (drop i text) ≡ total → i + 2 + word_rest_len (drop (i + 2) text) ≡ total
word_at_lined text i total lt f l t e =
    let two : drop i text ≡ get_or text i 0 ∷ (get_or text (i + 1) 0 ∷ drop (i + 1 + 1) text) = drop_more text i 0 (omega arith) ∙ ap (λ (x : List ℕ). get_or text i 0 ∷ x) (drop_more text (i + 1) 0 lt) in
    let counted : word_rest_len (drop i text) ≡ suc (suc (word_rest_len (drop (i + 1 + 1) text))) = ap word_rest_len two ∙ word_len_lined _ _ _ f (eq-eqb _ 95 l) t in
    let same : word_rest_len (drop (i + 1 + 1) text) ≡ word_rest_len (drop (i + 2) text) = ap (λ (n : ℕ). word_rest_len (drop n text)) (omega arith) in
    omega (arith, e, counted, same)

pub word_at_end : (text : List ℕ) (i total : ℕ) → length text ≤ i → i + word_rest_len (drop i text) ≡ total → i ≡ total
word_at_end text i total le e = omega (arith, e, ap word_rest_len (drop_all i text le) ∙ word_len_nil)

pub word_at_last : (text : List ℕ) (i total : ℕ) → i < length text → length text ≤ i + 1 → is_letter_or_digit (get_or text i 0) ≡ false → i + word_rest_len (drop i text) ≡ total → i ≡ total
word_at_last text i total lt le f e =
    let one : drop i text ≡ get_or text i 0 ∷ [] = drop_more text i 0 lt ∙ ap (λ (x : List ℕ). get_or text i 0 ∷ x) (drop_all (i + 1) text le) in
    omega (arith, e, ap word_rest_len one ∙ word_len_end _ f)

pub word_at_stop : (text : List ℕ) (i total : ℕ) → i < length text → is_letter_or_digit (get_or text i 0) ≡ false → (i + 1 < length text → (eqb (get_or text i 0) 95 && is_letter_or_digit (get_or text (i + 1) 0)) ≡ false) → i + word_rest_len (drop i text) ≡ total → i ≡ total
word_at_stop text i total lt f g e = elim (cases_lt (i + 1) (length text)) [
  | inl more ↦
      let two : drop i text ≡ get_or text i 0 ∷ (get_or text (i + 1) 0 ∷ drop (i + 1 + 1) text) = drop_more text i 0 lt ∙ ap (λ (x : List ℕ). get_or text i 0 ∷ x) (drop_more text (i + 1) 0 more) in
      omega (arith, e, ap word_rest_len two ∙ word_len_stop _ _ _ f (g more))
  | inr le ↦ word_at_last text i total lt le f e
]

shifted : (i k : ℕ) (r : Option ℕ) → option_map (λ n. i + n) (option_map (λ n. k + n) r) ≡ option_map (λ n. i + k + n) r
shifted i k None = refl
shifted i k (Some n) = ap (λ (m : ℕ). option_map (λ (x : ℕ). x) (Some m)) (omega arith)

pub text_at_quote : (text : List ℕ) (i : ℕ) (total : Option ℕ) → i < length text → get_or text i 0 ≡ 34 → option_map (λ n. i + n) (text_rest_len (drop i text)) ≡ total → Some (i + 1) ≡ total
text_at_quote text i total lt q e = sym (ap (option_map (λ n. i + n)) (ap text_rest_len (drop_more text i 0 lt) ∙ text_len_quote _ _ (eq-eqb _ 34 q))) ∙ e

map_suc : (r : Option ℕ) → option_map suc r ≡ option_map (λ n. 1 + n) r
map_suc None = refl
map_suc (Some n) = ap (λ (m : ℕ). option_map (λ (x : ℕ). x) (Some m)) (omega arith)

map_suc_suc : (r : Option ℕ) → option_map (λ n. suc (suc n)) r ≡ option_map (λ n. 2 + n) r
map_suc_suc None = refl
map_suc_suc (Some n) = ap (λ (m : ℕ). option_map (λ (x : ℕ). x) (Some m)) (omega arith)

pub text_at_plain : (text : List ℕ) (i : ℕ) (total : Option ℕ) → i < length text → (get_or text i 0 ≡ 34 → ⊥) → (get_or text i 0 ≡ 92 → ⊥) → option_map (λ n. i + n) (text_rest_len (drop i text)) ≡ total → option_map (λ n. i + 1 + n) (text_rest_len (drop (i + 1) text)) ≡ total
text_at_plain text i total lt q s e =
    let step = ap text_rest_len (drop_more text i 0 lt) ∙ text_len_plain _ _ (ne_eqb _ 34 q) (ne_eqb _ 92 s) ∙ map_suc _ in
    sym (ap (option_map (λ n. i + n)) step ∙ shifted i 1 _) ∙ e

text_len_after : (b : ℕ) (x : List ℕ) → eqb b 34 ≡ false → eqb b 92 ≡ true → text_rest_len (b ∷ x) ≡ option_map (λ n. 2 + n) (text_rest_len (drop 1 x))
text_len_after b [] f t = text_len_end b f ∙ ap (option_map (λ n. 2 + n)) (sym text_len_nil)
text_len_after b (c ∷ x) f t = text_len_escaped b c x f t ∙ map_suc_suc _

pub text_at_escape : (text : List ℕ) (i : ℕ) (total : Option ℕ) → i < length text → get_or text i 0 ≡ 92 → option_map (λ n. i + n) (text_rest_len (drop i text)) ≡ total → option_map (λ n. i + 2 + n) (text_rest_len (drop (i + 2) text)) ≡ total
text_at_escape text i total lt s e =
    let step = ap text_rest_len (drop_more text i 0 lt) ∙ text_len_after _ _ (ne_eqb _ 34 (λ q. absurd (omega (arith, q, s)))) (eq-eqb _ 92 s) in
    let rest : drop 1 (drop (i + 1) text) ≡ drop (i + 2) text = drop-drop 1 (i + 1) text ∙ ap (λ (n : ℕ). drop n text) (omega arith) in
    sym (ap (option_map (λ n. i + n)) (step ∙ ap (λ (x : List ℕ). option_map (λ n. 2 + n) (text_rest_len x)) rest) ∙ shifted i 2 _) ∙ e

pub text_at_end : (text : List ℕ) (i : ℕ) (total : Option ℕ) → length text ≤ i → option_map (λ n. i + n) (text_rest_len (drop i text)) ≡ total → None ≡ total
text_at_end text i total le e = sym (ap (option_map (λ n. i + n)) (ap text_rest_len (drop_all i text le) ∙ text_len_nil)) ∙ e
