-- Texts that are read from the front.
use Rattle.std.proofs.Common.{ℕ, ◌+◌, ◌≡◌, ◌<◌, ◌/◌, ◌%◌, ◌^◌, nat_lt, Bool, true, false, cond, ◌==◌, ◌||◌, List, [], ◌∷◌, ◌++◌, decimal, ⊎_elim, ap, ◌∙◌, sym, refl, arith}
use Rattle.std.specs.Bool.{if◌then◌else◌}
use Rattle.std.specs.Fmt.{digit_glyph}
use Rattle.std.specs.List.{AllByRecursion, list_any}
use Rattle.std.proofs.lemmas.Bool.{false≢true, eq-eqb}
use Rattle.std.proofs.lemmas.Fmt.{decimal_injective}
use Rattle.fault_system.proofs.Elements.{In, In-append}
use Rattle.galileo_writer.proofs.Bytes.{IsDigit, cut-digits, decimal-digits}
use Rattle.dot_writer.specs.Shown.{is_plain, shown, shown_byte}
use Rattle.dot_writer.specs.inner.ReadBack.{IsByte}

-- texts that begin with different bytes are not the same
pub apart : (a b : ℕ) (t u : List ℕ) → (a ≡ b → ⊥) → a ∷ t ≡ b ∷ u → ⊥
apart a b t u differ e = differ (same a b t u e)
  where
    same : (a b : ℕ) (t u : List ℕ) → a ∷ t ≡ b ∷ u → a ≡ b
    same a b t u h = cc

pub first-same : (a b : ℕ) (t u : List ℕ) → a ∷ t ≡ b ∷ u → a ≡ b
first-same a b t u h = cc

pub rest-same : (a b : ℕ) (t u : List ℕ) → a ∷ t ≡ b ∷ u → t ≡ u
rest-same a b t u h = cc

-- ---- digits

glyph-same : (a b : ℕ) → a < 16 → b < 16 → digit_glyph false a ≡ digit_glyph false b → a ≡ b
glyph-same a b f g e = by (nat_lt a 10) (nat_lt b 10) refl refl e
  where
    by : (p q : Bool) → nat_lt a 10 ≡ p → nat_lt b 10 ≡ q → cond p (48 + a) (87 + a) ≡ cond q (48 + b) (87 + b) → a ≡ b
    by true true x y h = omega (arith, h)
    by true false x y h = omega (arith, h, f, g)
    by false true x y h = omega (arith, h, f, g)
    by false false x y h = omega (arith, h)

byte-same : (a b : ℕ) → a < 256 → b < 256 → a / 16 ≡ b / 16 → a % 16 ≡ b % 16 → a ≡ b
byte-same a b f g h l = omega arith

-- ---- shown texts

plain-34 : is_plain 34 ≡ false
plain-34 = refl

plain-37 : is_plain 37 ≡ false
plain-37 = refl

abbrev hex : ℕ → List ℕ
hex byte = 37 ∷ digit_glyph false (byte / 16) ∷ digit_glyph false (byte % 16) ∷ []

-- a shown text up to a quote
pub read-shown : (xs ys r s : List ℕ) → AllByRecursion IsByte xs → AllByRecursion IsByte ys → shown xs ++ 34 ∷ r ≡ shown ys ++ 34 ∷ s → (xs ≡ ys) × (r ≡ s)
read-shown [] [] r s p q e = (refl, rest-same 34 34 r s e)
read-shown [] (y ∷ ys) r s p q e = absurd (no-quote y (is_plain y) refl ys s e)
  where
    no-quote : (y : ℕ) (b : Bool) → is_plain y ≡ b → (ys : List ℕ) (s : List ℕ) → 34 ∷ r ≡ ((if b then y ∷ [] else hex y) ++ shown ys) ++ 34 ∷ s → ⊥
    no-quote y true is ys s h = false≢true (ap is_plain (first-same 34 y _ _ h) ∙ is)
    no-quote y false is ys s h = apart 34 37 _ _ (λ k. omega arith) h
read-shown (x ∷ xs) [] r s p q e = absurd (no-quote x (is_plain x) refl e)
  where
    no-quote : (x : ℕ) (b : Bool) → is_plain x ≡ b → ((if b then x ∷ [] else hex x) ++ shown xs) ++ 34 ∷ r ≡ 34 ∷ s → ⊥
    no-quote x true is h = false≢true (ap is_plain (sym (first-same x 34 _ _ h)) ∙ is)
    no-quote x false is h = apart 37 34 _ _ (λ k. omega arith) h
read-shown (x ∷ xs) (y ∷ ys) r s p q e = by (is_plain x) (is_plain y) refl refl (λ tail. read-shown xs ys r s p.1 q.1 tail) e
  where
    more : x ≡ y → (xs ≡ ys) × (r ≡ s) → (x ∷ xs ≡ y ∷ ys) × (r ≡ s)
    more same rest = ((λ i. same i ∷ rest.0 i), rest.1)

    by : (a b : Bool) → is_plain x ≡ a → is_plain y ≡ b → (shown xs ++ 34 ∷ r ≡ shown ys ++ 34 ∷ s → (xs ≡ ys) × (r ≡ s))
        → ((if a then x ∷ [] else hex x) ++ shown xs) ++ 34 ∷ r ≡ ((if b then y ∷ [] else hex y) ++ shown ys) ++ 34 ∷ s → (x ∷ xs ≡ y ∷ ys) × (r ≡ s)
    by true true f g later h = more (first-same x y _ _ h) (later (rest-same x y _ _ h))
    by true false f g later h = absurd (false≢true (ap is_plain (sym (first-same x 37 _ _ h)) ∙ f))
    by false true f g later h = absurd (false≢true (ap is_plain (first-same 37 y _ _ h) ∙ g))
    by false false f g later h =
        let one = rest-same 37 37 _ _ h in
        let two = rest-same _ _ _ _ one in
        let high = glyph-same (x / 16) (y / 16) (omega (arith, p.0)) (omega (arith, q.0)) (first-same _ _ _ _ one) in
        let low = glyph-same (x % 16) (y % 16) (omega arith) (omega arith) (first-same _ _ _ _ two) in
        more (byte-same x y p.0 q.0 high low) (later (rest-same _ _ _ _ two))

-- ---- numbers

pub no-digit : (byte : ℕ) → 57 < byte → IsDigit byte → ⊥
no-digit byte more d = omega (arith, d.1)

pub quote-no-digit : IsDigit 34 → ⊥
quote-no-digit d = omega (arith, d.0)

-- a decimal number up to a byte that is no digit
pub read-decimal : (m n : ℕ) (byte : ℕ) (r s : List ℕ) → m < 2 ^ 64 → n < 2 ^ 64 → (IsDigit byte → ⊥) → decimal m ++ byte ∷ r ≡ decimal n ++ byte ∷ s → (m ≡ n) × (r ≡ s)
read-decimal m n byte r s f g none e =
    let cut = cut-digits (decimal m) (decimal n) byte byte r s (decimal-digits m) (decimal-digits n) none none e in
    (decimal_injective m n f g cut.0, rest-same byte byte r s cut.1)

-- ---- texts without a line feed

abbrev pub Lacks : List ℕ → Type 0
Lacks text = In 10 text → ⊥

pub lacks-both : (a b : List ℕ) → Lacks a → Lacks b → Lacks (a ++ b)
lacks-both a b f g i = ⊎_elim f g (In-append 10 a b i)

pub lacks-text : (text : List ℕ) → list_any (λ byte. byte == 10) text ≡ false → Lacks text
lacks-text [] e i = i
lacks-text (x ∷ xs) e i = by (x == 10) refl e (lacks-text xs)
  where
    by : (b : Bool) → (x == 10) ≡ b → b || list_any (λ byte. byte == 10) xs ≡ false → (list_any (λ byte. byte == 10) xs ≡ false → In 10 xs → ⊥) → ⊥
    by true h k later = false≢true (sym k)
    by false h k later = ⊎_elim (λ (same : x ≡ 10). false≢true (sym h ∙ eq-eqb x 10 same)) (later k) i

pub lacks-digits : (text : List ℕ) → AllByRecursion IsDigit text → Lacks text
lacks-digits [] all i = i
lacks-digits (x ∷ xs) all i = ⊎_elim (λ (same : x ≡ 10). omega (arith, all.0.0)) (lacks-digits xs all.1) i

pub lacks-decimal : (n : ℕ) → Lacks (decimal n)
lacks-decimal n = lacks-digits (decimal n) (decimal-digits n)

pub lacks-shown : (text : List ℕ) → Lacks (shown text)
lacks-shown [] i = i
lacks-shown (x ∷ xs) i = lacks-both (shown_byte x) (shown xs) (one (is_plain x) refl) (lacks-shown xs) i
  where
    glyph : (d : ℕ) → digit_glyph false d ≡ 10 → ⊥
    glyph d e = by (nat_lt d 10) e
      where
        by : (b : Bool) → cond b (48 + d) (87 + d) ≡ 10 → ⊥
        by true h = omega arith
        by false h = omega arith

    one : (b : Bool) → is_plain x ≡ b → In 10 (if b then x ∷ [] else hex x) → ⊥
    one true is i = ⊎_elim (λ (same : x ≡ 10). false≢true (ap is_plain (sym same) ∙ is)) (λ later. later) i
    one false is i = ⊎_elim (λ (same : 37 ≡ 10). omega arith) (λ later. ⊎_elim (glyph (x / 16)) (λ last. ⊎_elim (glyph (x % 16)) (λ none. none) last) later) i
