-- The longest number at the front of a text.
use Rattle.std.proofs.Common.{◌≡◌, ℕ, suc, ◌<◌, ◌≤◌, Bool, true, false, cond, eqb, List, [], ◌∷◌, ◌++◌, length, take, drop, refl, sym, ap, subst, ◌∙◌, inl, inr, ◌⊎◌, append_assoc, arith}
use Rattle.std.specs.Prelude.{◌==◌, ◌||◌, ◌&&◌, not}
use Rattle.std.specs.List.{prefix_len}
use Rattle.std.proofs.lemmas.Bool.{cases_Bool, cases_lt, cond-true, cond-false, false≢true, eqb-true, eqb-false, ne_eqb, or_cases, and_parts, and_from, not-true, not_from_false}
use Rattle.std.proofs.lemmas.List.{length-append, length-drop, drop_at}
use Rattle.std.proofs.Math.Numerals.{add-one}
use Rattle.std.proofs.lemmas.List.Sums.{prefix_len-le-length}
use Rattle.aadl_syntax.specs.Form.{One, Byte, ◌followed_by◌, Perhaps, Either, Digits, IsFraction, IsExponent, IsBased, IsNumber, is_digit, is_hexadecimal}
use Rattle.aadl_lexer.specs.Scan.{after_one, digits_len, fraction_len, signed_len, exponent_len, decimals_len, begins, closed_len, based_len, tail_len, number_len}
use Rattle.aadl_lexer.proofs.Runs.{run_is, run_within}
use Rattle.aadl_lexer.proofs.Most.{IsMost, none_most, most_none, no_such, lead, lead_nil, led, lead_most, joined_most, joined_is, same_most, perhaps_is, perhaps_most}

-- nothing is a front of no text
no_front : (Form : List ℕ → Type 0) → (Form [] → ⊥) → (front back : List ℕ) → [] ≡ front ++ back → Form front → ⊥
no_front Form filled [] back e h = filled h
no_front Form filled (a ∷ front) back e h = absurd cc

pub nil_most : (Form : List ℕ → Type 0) → (Form [] → ⊥) → IsMost Form [] 0
nil_most Form filled = none_most Form [] (no_front Form filled)

-- ---- digits

module _ (class : ℕ → Bool) where
  goes_on : ℕ → Bool
  goes_on c = class c || c == 95

  pub digits_nil : Digits class [] → ⊥
  digits_nil h = lead_nil class _ h

  pub digits_most : (text : List ℕ) → IsMost (Digits class) text (digits_len class text)
  unfolding digits_len
  digits_most [] = nil_most _ digits_nil
  digits_most (b ∷ text) = elim (cases_Bool (class b)) [
    | inl t ↦ rw (cond-true (class b) (suc (prefix_len (λ c. class c || c == 95) text)) 0 t) (record {
      within = omega (arith, prefix_len-le-length (λ c. class c || c == 95) text);
      form = λ _. led class _ b _ t (run_is (λ c. class c || c == 95) text);
      most = most;
    })
    | inr f ↦ rw (cond-false (class b) (suc (prefix_len (λ c. class c || c == 95) text)) 0 f) (none_most _ _ (absent f))
  ]
    where
      most : (front back : List ℕ) → b ∷ text ≡ front ++ back → Digits class front → length front ≤ suc (prefix_len (λ c. class c || c == 95) text)
      most [] back e h = omega arith
      most (a ∷ front) back e h = omega (arith, (run_within (λ c. class c || c == 95) text front back (cc) (lead class _ a front h).1).most)

      absent : class b ≡ false → (front back : List ℕ) → b ∷ text ≡ front ++ back → Digits class front → ⊥
      absent f [] back e h = digits_nil h
      absent f (a ∷ front) back e h = let same : a ≡ b = cc in false≢true (sym f ∙ subst (λ (c : ℕ). class c ≡ true) same (lead class _ a front h).0)

  -- after fewer digits than there are a byte of them follows
  pub digits_next : (text front back : List ℕ) → text ≡ front ++ back → Digits class front → length front < digits_len class text → (c : ℕ) × (more : List ℕ) × (back ≡ c ∷ more) × ((class c || c == 95) ≡ true)
  unfolding digits_len
  digits_next [] front back e h lt = absurd (omega arith)
  digits_next (b ∷ text) [] back e h lt = absurd (digits_nil h)
  digits_next (b ∷ text) (a ∷ front) back e h lt =
      let parts = lead class _ a front h in
      let same : a ≡ b = cc in
      let counted = cond-true (class b) (suc (prefix_len (λ c. class c || c == 95) text)) 0 (subst (λ (c : ℕ). class c ≡ true) same parts.0) in
      (run_within (λ c. class c || c == 95) text front back (cc) parts.1).next (omega (arith, counted))

-- ---- fraction and exponent

pub fraction_most : (text : List ℕ) → IsMost IsFraction text (fraction_len text)
unfolding fraction_len
fraction_most [] = nil_most _ (lead_nil _ _)
fraction_most (b ∷ text) = lead_most (λ c. c == 46) (Digits is_digit) (digits_nil is_digit) b text _ (digits_most is_digit text)

abbrev is_plus_or_minus : ℕ → Bool
is_plus_or_minus b = b == 43 || b == 45

abbrev is_e : ℕ → Bool
is_e b = b == 101 || b == 69

abbrev Signed : List ℕ → Type 0
Signed = Perhaps (One is_plus_or_minus) followed_by Digits is_digit

signed_cases : (bytes : List ℕ) → Signed bytes → (One is_plus_or_minus followed_by Digits is_digit) bytes ⊎ Digits is_digit bytes
signed_cases bytes j = from j.first
  where
    from : Perhaps (One is_plus_or_minus) j.front → (One is_plus_or_minus followed_by Digits is_digit) bytes ⊎ Digits is_digit bytes
    from (inl e) = inr (subst (Digits is_digit) (sym (j.whole ∙ ap (λ (x : List ℕ). x ++ j.back) e)) j.second)
    from (inr h) = inl (record { front = j.front; back = j.back; whole = j.whole; first = h; second = j.second })

signed_nil : Signed [] → ⊥
signed_nil j = elim (signed_cases [] j) [ inl h ↦ lead_nil _ _ h | inr h ↦ digits_nil is_digit h ]

-- a byte of one class is none of the other, where the one is two bytes
neither : (class : ℕ → Bool) (b m n : ℕ) → (eqb b m || eqb b n) ≡ true → class m ≡ false → class n ≡ false → class b ≡ true → ⊥
neither class b m n e x y t = elim (or_cases (eqb b m) (eqb b n) e) [ inl h ↦ no_such class b m h x t | inr h ↦ no_such class b n h y t ]

signed_most : (text : List ℕ) → IsMost Signed text (signed_len text)
unfolding signed_len
signed_most [] = nil_most _ signed_nil
signed_most (b ∷ text) = elim (cases_Bool (is_plus_or_minus b)) [
  | inl t ↦
      let led = lead_most is_plus_or_minus (Digits is_digit) (digits_nil is_digit) b text _ (digits_most is_digit text) in
      rw (cond-true (is_plus_or_minus b) (after_one (digits_len is_digit text)) (digits_len is_digit (b ∷ text)) t)
      (same_most _ _ _ _ sign_first (back_sign t) (rw (cond-true (is_plus_or_minus b) (after_one (digits_len is_digit text)) 0 t) at led))
  | inr f ↦
      rw (cond-false (is_plus_or_minus b) (after_one (digits_len is_digit text)) (digits_len is_digit (b ∷ text)) f)
      (same_most _ _ _ _ no_sign (back_none f) (digits_most is_digit (b ∷ text)))
]
  where
    sign_first : (x : List ℕ) → (One is_plus_or_minus followed_by Digits is_digit) x → Signed x
    sign_first x j = record { front = j.front; back = j.back; whole = j.whole; first = inr j.first; second = j.second }

    no_sign : (x : List ℕ) → Digits is_digit x → Signed x
    no_sign x h = record { front = []; back = x; whole = refl; first = inl refl; second = h }

    back_sign : is_plus_or_minus b ≡ true → (front back : List ℕ) → b ∷ text ≡ front ++ back → Signed front → (One is_plus_or_minus followed_by Digits is_digit) front
    back_sign t [] back e j = absurd (signed_nil j)
    back_sign t (a ∷ front) back e j = elim (signed_cases (a ∷ front) j) [
      | inl h ↦ h
      | inr h ↦ let same : a ≡ b = cc in absurd (neither is_digit b 43 45 t refl refl (subst (λ (c : ℕ). is_digit c ≡ true) same (lead is_digit _ a front h).0))
    ]

    back_none : is_plus_or_minus b ≡ false → (front back : List ℕ) → b ∷ text ≡ front ++ back → Signed front → Digits is_digit front
    back_none f [] back e j = absurd (signed_nil j)
    back_none f (a ∷ front) back e j = elim (signed_cases (a ∷ front) j) [
      | inl h ↦ let same : a ≡ b = cc in absurd (false≢true (sym f ∙ subst (λ (c : ℕ). is_plus_or_minus c ≡ true) same (lead is_plus_or_minus _ a front h).0))
      | inr h ↦ h
    ]

pub exponent_most : (text : List ℕ) → IsMost IsExponent text (exponent_len text)
unfolding exponent_len
exponent_most [] = nil_most _ (lead_nil _ _)
exponent_most (b ∷ text) = lead_most is_e Signed signed_nil b text _ (signed_most text)

-- ---- what may follow the first digits

-- the first byte of a front
head_is : (text front back : List ℕ) (a : ℕ) → text ≡ (a ∷ front) ++ back → (rest : List ℕ) × (text ≡ a ∷ rest)
head_is text front back a e = (front ++ back, e)

-- a byte that begins an exponent is not among digits
e_goes_not_on : (b : ℕ) → is_e b ≡ true → (is_digit b || b == 95) ≡ true → ⊥
e_goes_not_on b t = neither (λ c. is_digit c || c == 95) b 101 69 t refl refl

abbrev Decimals : List ℕ → Type 0
Decimals = Perhaps IsFraction followed_by Perhaps IsExponent

-- no exponent follows less than the whole fraction
exponent_apart : (text front middle back : List ℕ) → text ≡ front ++ (middle ++ back) → Perhaps IsFraction front → Perhaps IsExponent middle → length front < fraction_len text → middle ≡ []
unfolding fraction_len
exponent_apart text front middle back e h (inl none) lt = none
exponent_apart text front [] back e h (inr x) lt = refl
exponent_apart [] front (a ∷ middle) back e h (inr x) lt = absurd (omega arith)
exponent_apart (b ∷ text) [] (a ∷ middle) back e h (inr x) lt =
    let same : b ≡ a = cc in
    let is_point : eqb b 46 ≡ true = elim (cases_Bool (eqb b 46)) [ inl t ↦ t | inr f ↦ absurd (omega (arith, cond-false (eqb b 46) (after_one (digits_len is_digit text)) 0 f)) ] in
    absurd (no_such is_e b 46 is_point refl (subst (λ (c : ℕ). is_e c ≡ true) (sym same) (lead is_e _ a middle x).0))
exponent_apart (b ∷ text) (c ∷ front) (a ∷ middle) back e (inl none) (inr x) lt = absurd cc
exponent_apart (b ∷ text) (c ∷ front) (a ∷ middle) back e (inr h) (inr x) lt =
    let parts = lead (λ d. d == 46) _ c front h in
    let few : cond (eqb b 46) (after_one (digits_len is_digit text)) 0 ≤ suc (digits_len is_digit text) = at_most (eqb b 46) (digits_len is_digit text) in
    let next = digits_next is_digit text front ((a ∷ middle) ++ back) (cc) parts.1 (omega (arith, few)) in
    let same : a ≡ next.0 = cc next.2 in
    absurd (e_goes_not_on a (lead is_e _ a middle x).0 (subst (λ (d : ℕ). (is_digit d || d == 95) ≡ true) (sym same) next.3))
  where
    at_most_one : (t : Bool) (n : ℕ) → cond t 0 (suc n) ≤ suc n
    at_most_one true n = omega arith
    at_most_one false n = omega arith

    at_most : (t : Bool) (n : ℕ) → cond t (after_one n) 0 ≤ suc n
    at_most true n = at_most_one (eqb n 0) n
    at_most false n = omega arith

decimals_front : (text front back : List ℕ) → text ≡ front ++ back → Decimals front → length front ≤ decimals_len text
unfolding decimals_len
decimals_front text =
    joined_most (Perhaps IsFraction) (Perhaps IsExponent) text _ _ (perhaps_most IsFraction text _ (fraction_most text))
    (perhaps_most IsExponent (drop (fraction_len text) text) _ (exponent_most (drop (fraction_len text) text)))
    (exponent_apart text)

decimals_is : (text : List ℕ) → Decimals (take (decimals_len text) text)
unfolding decimals_len
decimals_is text =
    joined_is (Perhaps IsFraction) (Perhaps IsExponent) text _ _ (perhaps_is IsFraction text _ (fraction_most text))
    (perhaps_is IsExponent (drop (fraction_len text) text) _ (exponent_most (drop (fraction_len text) text)))

decimals_within : (text : List ℕ) → decimals_len text ≤ length text
unfolding decimals_len
decimals_within text = omega (arith, (fraction_most text).within, (exponent_most (drop (fraction_len text) text)).within, length-drop (fraction_len text) text)

abbrev Closed : List ℕ → Type 0
Closed = Digits is_hexadecimal followed_by Byte 35

closed_nil : Closed [] → ⊥
closed_nil j = from j.front j.whole j.first
  where
    from : (front : List ℕ) → [] ≡ front ++ j.back → Digits is_hexadecimal front → ⊥
    from [] e h = digits_nil is_hexadecimal h
    from (a ∷ front) e h = absurd cc

begins_byte : (byte : ℕ) (text : List ℕ) → begins byte text ≡ true → (rest : List ℕ) × (text ≡ byte ∷ rest)
begins_byte byte [] e = absurd (false≢true e)
begins_byte byte (b ∷ rest) e = (rest, ap (λ (c : ℕ). c ∷ rest) (eqb-true b byte e))

-- The hexadecimal digits of a front that a `#` closes are all that there are, and the `#` follows them.
closed_parts : (text front back : List ℕ) → text ≡ front ++ back → Closed front → (length front ≡ suc (digits_len is_hexadecimal text)) × (begins 35 (drop (digits_len is_hexadecimal text) text) ≡ true)
closed_parts text front back e j = from j.back j.whole j.second
  where
    digits : List ℕ
    digits = j.front

    from : (last : List ℕ) → front ≡ digits ++ last → Byte 35 last → (length front ≡ suc (digits_len is_hexadecimal text)) × (begins 35 (drop (digits_len is_hexadecimal text) text) ≡ true)
    from [] w h = absurd h
    from (a ∷ []) w h =
        let parts : text ≡ digits ++ (a ∷ back) = e ∙ ap (λ (x : List ℕ). x ++ back) w ∙ append_assoc digits (a ∷ []) back in
        let short = (digits_most is_hexadecimal text).most digits (a ∷ back) parts j.first in
        let whole : length digits ≡ digits_len is_hexadecimal text = elim (cases_lt (length digits) (digits_len is_hexadecimal text)) [
          | inl lt ↦
              let next = digits_next is_hexadecimal text digits (a ∷ back) parts j.first lt in
              let same : a ≡ next.0 = cc next.2 in
              absurd (no_such (λ c. is_hexadecimal c || c == 95) a 35 h refl (subst (λ (d : ℕ). (is_hexadecimal d || d == 95) ≡ true) (sym same) next.3))
          | inr ge ↦ omega (arith, short)
        ] in
        let rest : drop (digits_len is_hexadecimal text) text ≡ a ∷ back = ap (λ (x : List ℕ). drop (digits_len is_hexadecimal text) x) parts ∙ drop_at digits (a ∷ back) _ whole in
        (omega (arith, ap length w, length-append digits (a ∷ []), whole), subst (λ (x : List ℕ). begins 35 x ≡ true) (sym rest) h)
    from (a ∷ c ∷ more) w h = absurd h

closed_most : (text : List ℕ) → IsMost Closed text (closed_len text)
unfolding closed_len
closed_most text = elim (cases_Bool (not (eqb n 0) && begins 35 (drop n text))) [
  | inl t ↦
      let both = and_parts (not (eqb n 0)) (begins 35 (drop n text)) t in
      let hash = begins_byte 35 (drop n text) both.1 in
      let some : n ≡ 0 → ⊥ = eqb-false n 0 (not-true (eqb n 0) both.0) in
      rw (cond-true (not (eqb n 0) && begins 35 (drop n text)) (suc n) 0 t) (record {
        within = omega (arith, length-drop n text, ap length hash.1);
        form = λ _. let P : List ℕ → Type 0 = λ x. Byte 35 (take 1 x) in subst (λ (k : ℕ). Closed (take k text)) (add-one n) (joined_is (Digits is_hexadecimal) (Byte 35) text n 1 ((digits_most is_hexadecimal text).form some) (subst P (sym hash.1) refl));
        most = λ front back e h. omega (arith, (closed_parts text front back e h).0);
      })
  | inr f ↦ rw (cond-false (not (eqb n 0) && begins 35 (drop n text)) (suc n) 0 f) (none_most _ _ (absent f))
]
  where
    n : ℕ
    n = digits_len is_hexadecimal text

    absent : (not (eqb n 0) && begins 35 (drop n text)) ≡ false → (front back : List ℕ) → text ≡ front ++ back → Closed front → ⊥
    absent f front back e h =
        let parts = closed_parts text front back e h in
        let some : n ≡ 0 → ⊥ = λ z. most_none (Digits is_hexadecimal) (digits_nil is_hexadecimal) text n (digits_most is_hexadecimal text) z h.front (h.back ++ back) (e ∙ ap (λ (x : List ℕ). x ++ back) h.whole ∙ append_assoc h.front h.back back) h.first in
        false≢true (sym f ∙ and_from (not (eqb n 0)) (begins 35 (drop n text)) (not_from_false (eqb n 0) (ne_eqb n 0 some)) parts.1)

pub based_most : (text : List ℕ) → IsMost IsBased text (based_len text)
unfolding based_len
based_most [] = nil_most _ (lead_nil _ _)
based_most (b ∷ text) = lead_most (λ c. c == 35) Closed closed_nil b text _ (closed_most text)

abbrev Tail : List ℕ → Type 0
Tail = Either Decimals IsBased

-- where a `#` begins there are no decimals
no_decimals : (text : List ℕ) → decimals_len (35 ∷ text) ≡ 0
unfolding decimals_len fraction_len exponent_len
no_decimals text = refl

hash_first : (text : List ℕ) → (based_len text ≡ 0 → ⊥) → (rest : List ℕ) × (text ≡ 35 ∷ rest)
unfolding based_len
hash_first [] some = absurd (some refl)
hash_first (b ∷ rest) some = elim (cases_Bool (eqb b 35)) [
  | inl t ↦ (rest, ap (λ (c : ℕ). c ∷ rest) (eqb-true b 35 t))
  | inr f ↦ absurd (some (cond-false (eqb b 35) (after_one (closed_len rest)) 0 f))
]

tail_front : (text front back : List ℕ) → text ≡ front ++ back → Tail front → length front ≤ tail_len text
unfolding tail_len
tail_front text front back e h = elim (cases_Bool (eqb (based_len text) 0)) [
  | inl t ↦ rw (cond-true (eqb (based_len text) 0) (decimals_len text) (based_len text) t) (none (eqb-true _ 0 t) h)
  | inr f ↦ rw (cond-false (eqb (based_len text) 0) (decimals_len text) (based_len text) f) (some (eqb-false _ 0 f) h)
]
  where
    none : based_len text ≡ 0 → Tail front → length front ≤ decimals_len text
    none z (inl d) = decimals_front text front back e d
    none z (inr b) = absurd (most_none IsBased (lead_nil _ _) text _ (based_most text) z front back e b)

    some : (based_len text ≡ 0 → ⊥) → Tail front → length front ≤ based_len text
    some s (inl d) = let hash = hash_first text s in omega (arith, decimals_front text front back e d, ap decimals_len hash.1 ∙ no_decimals hash.0)
    some s (inr b) = (based_most text).most front back e b

tail_is : (text : List ℕ) → Tail (take (tail_len text) text)
unfolding tail_len
tail_is text = elim (cases_Bool (eqb (based_len text) 0)) [
  | inl t ↦ rw (cond-true (eqb (based_len text) 0) (decimals_len text) (based_len text) t) (inl (decimals_is text))
  | inr f ↦ rw (cond-false (eqb (based_len text) 0) (decimals_len text) (based_len text) f) (inr ((based_most text).form (eqb-false _ 0 f)))
]

tail_within : (text : List ℕ) → tail_len text ≤ length text
unfolding tail_len
tail_within text = elim (cases_Bool (eqb (based_len text) 0)) [
  | inl t ↦ rw (cond-true (eqb (based_len text) 0) (decimals_len text) (based_len text) t) (decimals_within text)
  | inr f ↦ rw (cond-false (eqb (based_len text) 0) (decimals_len text) (based_len text) f) (based_most text).within
]

-- ---- numbers

fraction_first : (b : ℕ) (x : List ℕ) → IsFraction (b ∷ x) → eqb b 46 ≡ true
fraction_first b x h = (lead (λ c. c == 46) _ b x h).0

-- what follows the digits does not begin with a byte that goes on with them
tail_first : (b : ℕ) (x : List ℕ) → Tail (b ∷ x) → (is_digit b || b == 95) ≡ true → ⊥
tail_first b x (inr h) = no_such (λ c. is_digit c || c == 95) b 35 (lead (λ c. c == 35) _ b x h).0 refl
tail_first b x (inl j) = from j.front j.whole j.first j.second
  where
    from : (front : List ℕ) → b ∷ x ≡ front ++ j.back → Perhaps IsFraction front → Perhaps IsExponent j.back → (is_digit b || b == 95) ≡ true → ⊥
    from [] e h (inl none) = absurd (absurd_nil (e ∙ none))
      where
        absurd_nil : b ∷ x ≡ [] → ⊥
        absurd_nil q = absurd cc
    from [] e h (inr k) = e_goes_not_on b (lead is_e _ b x (subst IsExponent (sym e) k)).0
    from (a ∷ front) e (inl none) k = absurd cc
    from (a ∷ front) e (inr h) k = let same : a ≡ b = cc in no_such (λ c. is_digit c || c == 95) b 46 (subst (λ (c : ℕ). eqb c 46 ≡ true) same (fraction_first a front h)) refl

tail_apart : (text front middle back : List ℕ) → text ≡ front ++ (middle ++ back) → Digits is_digit front → Tail middle → length front < digits_len is_digit text → middle ≡ []
tail_apart text front [] back e h k lt = refl
tail_apart text front (a ∷ middle) back e h k lt =
    let next = digits_next is_digit text front ((a ∷ middle) ++ back) e h lt in
    let same : a ≡ next.0 = cc next.2 in
    absurd (tail_first a middle k (subst (λ (d : ℕ). (is_digit d || d == 95) ≡ true) (sym same) next.3))

-- the longest number at a digit
pub number_most : (text : List ℕ) → (digits_len is_digit text ≡ 0 → ⊥) → IsMost IsNumber text (number_len text)
unfolding number_len
number_most text some = record {
  within = omega (arith, (digits_most is_digit text).within, tail_within (drop n text), length-drop n text);
  form = λ _. joined_is (Digits is_digit) Tail text n (tail_len (drop n text)) ((digits_most is_digit text).form some) (tail_is (drop n text));
  most = joined_most (Digits is_digit) Tail text n (tail_len (drop n text)) (digits_most is_digit text).most (tail_front (drop n text)) (tail_apart text);
}
  where
    n : ℕ
    n = digits_len is_digit text
