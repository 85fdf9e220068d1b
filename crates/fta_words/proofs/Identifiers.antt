-- Identifiers, and names with `::` between them.
use Rattle.std.proofs.Common.{◌≡◌, ℕ, ◌+◌, ◌≤◌, arith, Bool, true, false, not, ◌==◌, ◌&&◌, cond, List, [], ◌∷◌, ◌++◌, length, take, drop, refl, sym, ap, subst, ◌∙◌, inl, inr, append_assoc, append-nil, eqb, drop-drop, ◌⊎◌}
use Rattle.std.specs.List.{AllByRecursion, concat, flat_map, starts_with}
use Rattle.std.specs.Cmp.{first_so, second_so}
use Rattle.std.specs.Cmp.Lexicographic.{same_text}
use Rattle.std.proofs.lemmas.Bool.{false≢true, eqb-true}
use Rattle.std.proofs.lemmas.List.{take-append-drop}
use Rattle.std.proofs.lemmas.Slice.Eq.{starts_is}
use Rattle.std.proofs.lemmas.Bool.Decides.{Decides-eqb}
use Rattle.std.proofs.Math.Seq.{drop-append_seam}
use Rattle.std.proofs.Math.Nat.{eq-or-lt_of_le}
use Rattle.aadl_syntax.specs.Form.{Repeated, Perhaps, Byte, One, ◌followed_by◌, IsWord, is_letter, is_letter_or_digit}
use Rattle.fta_words.specs.Words.{with_colons}
use Rattle.fta_words.specs.inner.Reading.{follows_well}

-- a letter or digit, perhaps after one `_`
abbrev IsPart : List ℕ → Type 0
IsPart = Perhaps (Byte 95) followed_by One is_letter_or_digit

one_part : (b : ℕ) → is_letter_or_digit b ≡ true → IsPart (b ∷ [])
one_part b h = record { front = []; back = b ∷ []; whole = refl; first = inl refl; second = h }

two_part : (a b : ℕ) → (a == 95) ≡ true → is_letter_or_digit b ≡ true → IsPart (a ∷ b ∷ [])
two_part a b e h = record { front = a ∷ []; back = b ∷ []; whole = refl; first = inr e; second = h }

more_parts : (part rest : List ℕ) → IsPart part → Repeated IsPart rest → Repeated IsPart (part ++ rest)
more_parts part rest p r = record { parts = part ∷ r.parts; whole = ap (λ l. part ++ l) r.whole; each = (p, r.each) }

-- after a `_` a letter or digit comes at once
after_low : (t : Bool) (c : ℕ) (cs : List ℕ) → is_letter_or_digit c ≡ t → cond t (follows_well false cs) (c == 95 && false) ≡ true → (is_letter_or_digit c ≡ true) × (follows_well false cs ≡ true)
after_low true c cs e h = (e, h)
after_low false c cs e h = absurd (false≢true (second_so (c == 95) false h))

-- the next byte is a letter or digit, or a `_` after which the rest goes on
split_next : (t : Bool) (b : ℕ) (bs : List ℕ) → is_letter_or_digit b ≡ t → cond t (follows_well false bs) (b == 95 && follows_well true bs) ≡ true
    → ((is_letter_or_digit b ≡ true) × (follows_well false bs ≡ true)) ⊎ (((b == 95) ≡ true) × (follows_well true bs ≡ true))
split_next true b bs e h = inl (e, h)
split_next false b bs e h = inr (first_so (b == 95) (follows_well true bs) h, second_so (b == 95) (follows_well true bs) h)

pub parts_of : (bytes : List ℕ) → follows_well false bytes ≡ true → Repeated IsPart bytes
parts_of [] h = record { parts = []; whole = refl; each = tt }
parts_of (b ∷ []) h =
    elim (split_next (is_letter_or_digit b) b [] refl h) [ inl l ↦ more_parts (b ∷ []) [] (one_part b l.0) (parts_of [] refl) | inr l ↦ absurd (false≢true l.1) ]
parts_of (b ∷ c ∷ bytes) h =
    elim (split_next (is_letter_or_digit b) b (c ∷ bytes) refl h) [
      | inl l ↦ more_parts (b ∷ []) (c ∷ bytes) (one_part b l.0) (parts_of (c ∷ bytes) l.1)
      | inr l ↦ let m = after_low (is_letter_or_digit c) c bytes refl l.1 in more_parts (b ∷ c ∷ []) bytes (two_part b c l.0 m.0) (parts_of bytes m.1)
    ]

pub word_of : (b : ℕ) (bytes : List ℕ) → is_letter b ≡ true → follows_well false bytes ≡ true → IsWord (b ∷ bytes)
word_of b bytes l h = record { front = b ∷ []; back = bytes; whole = refl; first = l; second = parts_of bytes h }

-- ---- and back: a word is a letter, and then bytes that follow well

is_one : (class : ℕ → Bool) (bytes : List ℕ) → One class bytes → (b : ℕ) × (bytes ≡ b ∷ []) × (class b ≡ true)
is_one class [] o = absurd o
is_one class (b ∷ []) o = (b, refl, o)
is_one class (b ∷ c ∷ bytes) o = absurd o

first_way : (t x y : Bool) → t ≡ true → x ≡ true → cond t x y ≡ true
first_way true x y t h = h
first_way false x y t h = absurd (false≢true t)

well_one : (b : ℕ) (rest : List ℕ) → is_letter_or_digit b ≡ true → follows_well false rest ≡ true → follows_well false (b ∷ rest) ≡ true
well_one b rest e h = first_way (is_letter_or_digit b) (follows_well false rest) (b == 95 && (not false && follows_well true rest)) e h

well_two : (a b : ℕ) (rest : List ℕ) → (a == 95) ≡ true → is_letter_or_digit b ≡ true → follows_well false rest ≡ true → follows_well false (a ∷ b ∷ rest) ≡ true
well_two a b rest low e h =
    subst (λ (x : ℕ). follows_well false (x ∷ b ∷ rest) ≡ true) (sym (eqb-true a 95 low)) (first_way (is_letter_or_digit b) (follows_well false rest) (b == 95 && (not true && follows_well true rest)) e h)

well_part : (part rest : List ℕ) → IsPart part → follows_well false rest ≡ true → follows_well false (part ++ rest) ≡ true
well_part part rest p h =
    let back = is_one is_letter_or_digit p.back p.second in
    elim p.first [
      | inl none ↦ let whole : part ≡ back.0 ∷ [] = p.whole ∙ ap (λ l. l ++ p.back) none ∙ back.1 in subst (λ (l : List ℕ). follows_well false (l ++ rest) ≡ true) (sym whole) (well_one back.0 rest back.2 h)
      | inr low ↦
          let front = is_one (λ b. b == 95) p.front low in
          let whole : part ≡ front.0 ∷ back.0 ∷ [] = p.whole ∙ ap (λ l. l ++ p.back) front.1 ∙ ap (λ l. front.0 ∷ l) back.1 in
          subst (λ (l : List ℕ). follows_well false (l ++ rest) ≡ true) (sym whole) (well_two front.0 back.0 rest front.2 back.2 h)
    ]

well_parts : (parts : List (List ℕ)) → AllByRecursion IsPart parts → follows_well false (concat parts) ≡ true
well_parts [] all = refl
well_parts (part ∷ parts) all = well_part part (concat parts) all.0 (well_parts parts all.1)

pub no_empty_word : IsWord [] → ⊥
no_empty_word w =
    let front = is_one is_letter w.front w.first in
    let whole : [] ≡ front.0 ∷ w.back = w.whole ∙ ap (λ l. l ++ w.back) front.1 in
    cc

-- a word is a letter, and then bytes that follow well
pub follows_of : (b : ℕ) (bytes : List ℕ) → IsWord (b ∷ bytes) → (is_letter b ≡ true) × (follows_well false bytes ≡ true)
follows_of b bytes w =
    let front = is_one is_letter w.front w.first in
    let whole : b ∷ bytes ≡ front.0 ∷ w.back = w.whole ∙ ap (λ l. l ++ w.back) front.1 in
    let head : b ≡ front.0 = cc in
    let tail : bytes ≡ concat w.second.parts = cc (whole, w.second.whole) in
    (ap is_letter head ∙ front.2, ap (λ l. follows_well false l) tail ∙ well_parts w.second.parts w.second.each)

-- a text that has the sign at a place
pub split_at : (text sign : List ℕ) (at : ℕ) → starts_with eqb (drop at text) sign ≡ true → text ≡ take at text ++ (sign ++ drop (at + length sign) text)
split_at text sign at h =
    sym (take-append-drop at text) ∙ ap (λ l. take at text ++ l) (sym (take-append-drop (length sign) (drop at text)) ∙ ap (λ l. l ++ drop (length sign) (drop at text)) (sym (same_text sign (take (length sign) (drop at text)) (sym h))) ∙ ap (λ l. sign ++ l) (drop-drop (length sign) at text))

-- one more name
pub with_colons-more : (names : List (List ℕ)) (last : List ℕ) → with_colons (names ++ last ∷ []) ≡ flat_map (λ name. name ++ (58 ∷ 58 ∷ [])) names ++ last
with_colons-more [] last = refl
with_colons-more (name ∷ []) last =
    sym (ap (λ l. l ++ last) (append-nil (name ++ (58 ∷ 58 ∷ []))) ∙ append_assoc name (58 ∷ 58 ∷ []) last)
with_colons-more (name ∷ next ∷ names) last =
    let others = flat_map (λ n. n ++ (58 ∷ 58 ∷ [])) (next ∷ names) in
    ap (λ l. name ++ (58 ∷ 58 ∷ l)) (with_colons-more (next ∷ names) last) ∙ sym (append_assoc (name ++ (58 ∷ 58 ∷ [])) others last ∙ append_assoc name (58 ∷ 58 ∷ []) (others ++ last))

pub names-more : (names : List (List ℕ)) (last : List ℕ) → AllByRecursion IsWord names → IsWord last → AllByRecursion IsWord (names ++ last ∷ [])
names-more [] last all one = (one, tt)
names-more (name ∷ names) last all one = (all.0, names-more names last all.1 one)

-- where a text begins with the sign after its front, it begins with it there
pub not_here : (text sign front back : List ℕ) (at : ℕ) → text ≡ front ++ (sign ++ back) → at ≤ length front → starts_with eqb (drop at text) sign ≡ false → at + 1 ≤ length front
not_here text sign front back at whole within not_at =
    elim (eq-or-lt_of_le within) [
      | inl same ↦
          let here : drop at text ≡ sign ++ back = ap (λ i. drop i text) same ∙ ap (λ l. drop (length front) l) whole ∙ drop-append_seam front (sign ++ back) in
          absurd (false≢true (sym not_at ∙ (starts_is Decides-eqb (drop at text) sign (starts_with eqb (drop at text) sign) refl).1 back here))
      | inr less ↦ omega arith
    ]
