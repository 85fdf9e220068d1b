-- Bytes are one text at most.
use Rattle.std.proofs.Common.{ℕ, ◌≡◌, ◌<◌, ◌^◌, Bool, false, ◌==◌, ◌||◌, List, [], ◌∷◌, ◌++◌, length, decimal, ⊎_elim, ap, ◌∙◌, sym, subst, refl, arith, append_assoc}
use Rattle.std.specs.List.{AllByRecursion, concat, flat_map}
use Rattle.std.proofs.lemmas.Bool.{false≢true}
use Rattle.std.proofs.lemmas.Fmt.{decimal_injective, decimal_nonempty}
use Rattle.aadl_syntax.specs.Form.{One, Joined, Perhaps, Either, Repeated, Digits, IsExponent, IsFraction, IsNumber, Byte, is_digit, is_hexadecimal}
use Rattle.fault_system.proofs.Elements.{In, In-append, contains_In}
use Rattle.property_reader.specs.declared.rate.Rate.{Rate}
use Rattle.property_reader.specs.declared.rate.RateKind.{RateKind}
use Rattle.property_reader.specs.declared.rate.RateKind.TheVariants.{Prob, Lambda}
use Rattle.round_gates.specs.declared.node.GateKind.{GateKind}
use Rattle.round_gates.specs.declared.node.GateKind.TheVariants.{And, Or, AtLeast}
use Rattle.galileo_writer.specs.Galileo.{Line, GateLine, EventLine, Galileo, IsKind, IsPlainLine, IsPlainName, IsTextOf, inputs_text, kind_text, line_text, quoted, top_text}
use Rattle.property_reader.specs.Rates.{rate_word}
use Rattle.galileo_writer.proofs.Bytes.{IsDigit, cut-digits, cut-first, decimal-digits, decimal-lacks}

-- ---- a number holds no semicolon

-- no list of this form holds a byte
abbrev Lacks : ℕ → (List ℕ → Type 0) → Type 0
Lacks byte Form = (bytes : List ℕ) → Form bytes → In byte bytes → ⊥

lacks-one : (byte : ℕ) (class : ℕ → Bool) → class byte ≡ false → Lacks byte (One class)
lacks-one byte class none [] form i = i
lacks-one byte class none (b ∷ []) form i = ⊎_elim (λ (e : b ≡ byte). false≢true (sym none ∙ ap class (sym e) ∙ form)) (λ later. later) i
lacks-one byte class none (b ∷ c ∷ rest) form i = form

lacks-joined : (byte : ℕ) (First Second : List ℕ → Type 0) → Lacks byte First → Lacks byte Second → Lacks byte (Joined First Second)
lacks-joined byte First Second f s bytes is i = ⊎_elim (f is.front is.first) (s is.back is.second) (In-append byte is.front is.back (subst (In byte) is.whole i))

lacks-perhaps : (byte : ℕ) (Form : List ℕ → Type 0) → Lacks byte Form → Lacks byte (Perhaps Form)
lacks-perhaps byte Form f bytes is i = ⊎_elim (λ (none : bytes ≡ []). subst (In byte) none i) (λ form. f bytes form i) is

lacks-either : (byte : ℕ) (First Second : List ℕ → Type 0) → Lacks byte First → Lacks byte Second → Lacks byte (Either First Second)
lacks-either byte First Second f s bytes is i = ⊎_elim (λ form. f bytes form i) (λ form. s bytes form i) is

lacks-parts : (byte : ℕ) (Form : List ℕ → Type 0) → Lacks byte Form → (parts : List (List ℕ)) → AllByRecursion Form parts → In byte (concat parts) → ⊥
lacks-parts byte Form f [] each i = i
lacks-parts byte Form f (part ∷ parts) each i = ⊎_elim (f part each.0) (lacks-parts byte Form f parts each.1) (In-append byte part (concat parts) i)

lacks-repeated : (byte : ℕ) (Form : List ℕ → Type 0) → Lacks byte Form → Lacks byte (Repeated Form)
lacks-repeated byte Form f bytes is i = lacks-parts byte Form f is.parts is.each (subst (In byte) is.whole i)

lacks-digits : (byte : ℕ) (class : ℕ → Bool) → class byte ≡ false → (byte == 95) ≡ false → Lacks byte (Digits class)
lacks-digits byte class none other = lacks-joined byte (One class) _ (lacks-one byte class none) (lacks-repeated byte _ (lacks-one byte _ (ap (λ b. b || (byte == 95)) none ∙ other)))

pub number-lacks : Lacks 59 IsNumber
number-lacks =
    lacks-joined 59 (Digits is_digit) _ (lacks-digits 59 is_digit refl refl)
    (lacks-either 59 _ _
    (lacks-joined 59 (Perhaps IsFraction) _ (lacks-perhaps 59 IsFraction (lacks-joined 59 (Byte 46) _ (lacks-one 59 _ refl) (lacks-digits 59 is_digit refl refl)))
    (lacks-perhaps 59 IsExponent (lacks-joined 59 _ _ (lacks-one 59 _ refl) (lacks-joined 59 _ _ (lacks-perhaps 59 _ (lacks-one 59 _ refl)) (lacks-digits 59 is_digit refl refl)))))
    (lacks-joined 59 (Byte 35) _ (lacks-one 59 _ refl) (lacks-joined 59 (Digits is_hexadecimal) (Byte 35) (lacks-digits 59 is_hexadecimal refl refl) (lacks-one 59 _ refl))))

-- ---- names, inputs and kinds

-- texts that begin with different bytes are not the same
apart : (a b : ℕ) (t u : List ℕ) → (a ≡ b → ⊥) → a ∷ t ≡ b ∷ u → ⊥
apart a b t u differ e = differ (same a b t u e)
  where
    same : (a b : ℕ) (t u : List ℕ) → a ∷ t ≡ b ∷ u → a ≡ b
    same a b t u h = cc

no-name-quote : (name : List ℕ) → IsPlainName name → In 34 name → ⊥
no-name-quote name is i = is.no_quote (contains_In 34 name i)

read-name : (a b r s : List ℕ) → IsPlainName a → IsPlainName b → quoted a ++ r ≡ quoted b ++ s → (a ≡ b) × (r ≡ s)
read-name a b r s p q e =
    let tail : (a ++ 34 ∷ []) ++ r ≡ (b ++ 34 ∷ []) ++ s = cc in
    cut-first 34 a b r s (no-name-quote a p) (no-name-quote b q) (sym (append_assoc a (34 ∷ []) r) ∙ tail ∙ append_assoc b (34 ∷ []) s)

read-inputs : (xs ys : List (List ℕ)) (r s : List ℕ) → AllByRecursion IsPlainName xs → AllByRecursion IsPlainName ys → inputs_text xs ++ 59 ∷ r ≡ inputs_text ys ++ 59 ∷ s → (xs ≡ ys) × (r ≡ s)
read-inputs [] [] r s p q e = let same : r ≡ s = cc in (refl, same)
read-inputs [] (y ∷ ys) r s p q e = absurd (apart 59 32 _ _ (λ h. omega arith) e)
read-inputs (x ∷ xs) [] r s p q e = absurd (apart 32 59 _ _ (λ h. omega arith) e)
read-inputs (x ∷ xs) (y ∷ ys) r s p q e =
    let tail : (quoted x ++ inputs_text xs) ++ 59 ∷ r ≡ (quoted y ++ inputs_text ys) ++ 59 ∷ s = cc in
    let name = read-name x y (inputs_text xs ++ 59 ∷ r) (inputs_text ys ++ 59 ∷ s) p.0 q.0 (sym (append_assoc (quoted x) (inputs_text xs) (59 ∷ r)) ∙ tail ∙ append_assoc (quoted y) (inputs_text ys) (59 ∷ s)) in
    let rest = read-inputs xs ys r s p.1 q.1 name.1 in
    ((λ i. name.0 i ∷ rest.0 i), rest.1)

-- a text that begins with a byte
record Begins (bytes : List ℕ) (Is : ℕ → Type 0) : Type 0 where
  first : ℕ
  rest : List ℕ
  whole : bytes ≡ first ∷ rest
  is : Is first

begins : (bytes : List ℕ) → 0 < length bytes → AllByRecursion IsDigit bytes → Begins bytes IsDigit
begins [] some all = absurd (omega arith)
begins (b ∷ bytes) some all = record { first = b; rest = bytes; whole = refl; is = all.0 }

decimal-begins : (k : ℕ) → k < 2 ^ 32 → Begins (decimal k) IsDigit
decimal-begins k small = begins (decimal k) (decimal_nonempty k (omega arith)) (decimal-digits k)

-- after the word of a kind no digit comes
inputs-begin : (inputs : List (List ℕ)) (r : List ℕ) → Begins (inputs_text inputs ++ 59 ∷ r) (λ b. IsDigit b → ⊥)
inputs-begin [] r = record { first = 59; rest = r; whole = refl; is = λ d. omega (arith, d.0, d.1) }
inputs-begin (x ∷ xs) r = record { first = 32; rest = (quoted x ++ inputs_text xs) ++ 59 ∷ r; whole = refl; is = λ d. omega (arith, d.0, d.1) }

-- what begins with a number of 32 bits begins with a digit
number-first : (k : ℕ) → k < 2 ^ 32 → (byte : ℕ) (r s : List ℕ) → decimal k ++ r ≡ byte ∷ s → IsDigit byte
number-first k small byte r s e =
    let d = decimal-begins k small in
    let head : d.first ≡ byte = same d.first byte (d.rest ++ r) s (ap (λ t. t ++ r) (sym d.whole) ∙ e) in
    subst IsDigit head d.is
  where
    same : (a b : ℕ) (t u : List ℕ) → a ∷ t ≡ b ∷ u → a ≡ b
    same a b t u h = cc

kind-split : (k count : ℕ) (r : List ℕ) → kind_text (AtLeast k) count ++ r ≡ decimal k ++ 111 ∷ 102 ∷ (decimal count ++ r)
kind-split k count r = append_assoc (decimal k) (111 ∷ 102 ∷ decimal count) r

not-digit : (byte : ℕ) → 57 < byte → IsDigit byte → ⊥
not-digit byte more d = omega (arith, d.1)

read-counts : (k l m n : ℕ) (xs ys : List (List ℕ)) (r s : List ℕ) → k < 2 ^ 32 → l < 2 ^ 32 → kind_text (AtLeast k) m ++ (inputs_text xs ++ 59 ∷ r) ≡ kind_text (AtLeast l) n ++ (inputs_text ys ++ 59 ∷ s) → (k ≡ l) × (inputs_text xs ++ 59 ∷ r ≡ inputs_text ys ++ 59 ∷ s)
read-counts k l m n xs ys r s small also e =
    let cut = cut-first 111 (decimal k) (decimal l) _ _ (decimal-lacks 111 k (not-digit 111 (omega arith))) (decimal-lacks 111 l (not-digit 111 (omega arith)))
    (sym (kind-split k m (inputs_text xs ++ 59 ∷ r)) ∙ e ∙ kind-split l n (inputs_text ys ++ 59 ∷ s)) in
    let a = inputs-begin xs r in
    let b = inputs-begin ys s in
    let tail : decimal m ++ (inputs_text xs ++ 59 ∷ r) ≡ decimal n ++ (inputs_text ys ++ 59 ∷ s) = behind 102 _ _ cut.1 in
    let digits = cut-digits (decimal m) (decimal n) a.first b.first a.rest b.rest (decimal-digits m) (decimal-digits n) a.is b.is
    (ap (λ t. decimal m ++ t) (sym a.whole) ∙ tail ∙ ap (λ t. decimal n ++ t) b.whole) in
    (decimal_injective k l (omega arith) (omega arith) cut.0, a.whole ∙ digits.1 ∙ sym b.whole)
  where
    behind : (byte : ℕ) (t u : List ℕ) → byte ∷ t ≡ byte ∷ u → t ≡ u
    behind byte t u h = cc

read-kind : (a b : GateKind) (m n : ℕ) (xs ys : List (List ℕ)) (r s : List ℕ) → IsKind a → IsKind b → kind_text a m ++ (inputs_text xs ++ 59 ∷ r) ≡ kind_text b n ++ (inputs_text ys ++ 59 ∷ s) → (a ≡ b) × (inputs_text xs ++ 59 ∷ r ≡ inputs_text ys ++ 59 ∷ s)
read-kind And And m n xs ys r s p q e = let tail : inputs_text xs ++ 59 ∷ r ≡ inputs_text ys ++ 59 ∷ s = cc in (refl, tail)
read-kind And Or m n xs ys r s p q e = absurd (apart 97 111 _ _ (λ h. omega arith) e)
read-kind And (AtLeast l) m n xs ys r s p q e = let d = number-first l q 97 _ _ (sym (kind-split l n _) ∙ sym e) in absurd (omega (arith, d.1))
read-kind Or And m n xs ys r s p q e = absurd (apart 111 97 _ _ (λ h. omega arith) e)
read-kind Or Or m n xs ys r s p q e = let tail : inputs_text xs ++ 59 ∷ r ≡ inputs_text ys ++ 59 ∷ s = cc in (refl, tail)
read-kind Or (AtLeast l) m n xs ys r s p q e = let d = number-first l q 111 _ _ (sym (kind-split l n _) ∙ sym e) in absurd (omega (arith, d.1))
read-kind (AtLeast k) And m n xs ys r s p q e = let d = number-first k p 97 _ _ (sym (kind-split k m _) ∙ e) in absurd (omega (arith, d.1))
read-kind (AtLeast k) Or m n xs ys r s p q e = let d = number-first k p 111 _ _ (sym (kind-split k m _) ∙ e) in absurd (omega (arith, d.1))
read-kind (AtLeast k) (AtLeast l) m n xs ys r s p q e = let both = read-counts k l m n xs ys r s p q e in (ap AtLeast both.0, both.1)

-- the word of a gate's kind is none of a rate's
kind-or-rate : (a : GateKind) (m : ℕ) (b : RateKind) (r s : List ℕ) → IsKind a → kind_text a m ++ r ≡ rate_word b ++ s → ⊥
kind-or-rate And m Prob r s p e = apart 97 112 _ _ (λ h. omega arith) e
kind-or-rate And m Lambda r s p e = apart 97 108 _ _ (λ h. omega arith) e
kind-or-rate Or m Prob r s p e = apart 111 112 _ _ (λ h. omega arith) e
kind-or-rate Or m Lambda r s p e = apart 111 108 _ _ (λ h. omega arith) e
kind-or-rate (AtLeast k) m Prob r s p e = let d = number-first k p 112 _ _ (sym (kind-split k m r) ∙ e) in omega (arith, d.1)
kind-or-rate (AtLeast k) m Lambda r s p e = let d = number-first k p 108 _ _ (sym (kind-split k m r) ∙ e) in omega (arith, d.1)

read-rate : (a b : Rate) (r s : List ℕ) → IsNumber a.text → IsNumber b.text → rate_word a.kind ++ (a.text ++ 59 ∷ r) ≡ rate_word b.kind ++ (b.text ++ 59 ∷ s) → (a ≡ b) × (r ≡ s)
read-rate a b r s p q e = by a.kind b.kind refl refl e
  where
    make : RateKind → List ℕ → Rate
    make kind text = record { kind = kind; text = text }

    cut : a.text ++ 59 ∷ r ≡ b.text ++ 59 ∷ s → a.kind ≡ b.kind → (a ≡ b) × (r ≡ s)
    cut tail kinds =
        let both = cut-first 59 a.text b.text r s (number-lacks a.text p) (number-lacks b.text q) tail in
        ((λ i. record { kind = kinds i; text = both.0 i }), both.1)

    by : (x y : RateKind) → a.kind ≡ x → b.kind ≡ y → rate_word x ++ (a.text ++ 59 ∷ r) ≡ rate_word y ++ (b.text ++ 59 ∷ s) → (a ≡ b) × (r ≡ s)
    by Prob Prob f g e = let tail : a.text ++ 59 ∷ r ≡ b.text ++ 59 ∷ s = cc in cut tail (f ∙ sym g)
    by Prob Lambda f g e = absurd (apart 112 108 _ _ (λ h. omega arith) e)
    by Lambda Prob f g e = absurd (apart 108 112 _ _ (λ h. omega arith) e)
    by Lambda Lambda f g e = let tail : a.text ++ 59 ∷ r ≡ b.text ++ 59 ∷ s = cc in cut tail (f ∙ sym g)

-- ---- lines

-- a line of a gate and what follows, part by part
gate-parts : (name : List ℕ) (kind : GateKind) (inputs : List (List ℕ)) (r : List ℕ) → line_text (GateLine name kind inputs) ++ r ≡ quoted name ++ 32 ∷ (kind_text kind (length inputs) ++ (inputs_text inputs ++ 59 ∷ 10 ∷ r))
gate-parts name kind inputs r =
    append_assoc (quoted name) (32 ∷ (kind_text kind (length inputs) ++ (inputs_text inputs ++ 59 ∷ 10 ∷ []))) r
    ∙ ap (λ t. quoted name ++ 32 ∷ t) (append_assoc (kind_text kind (length inputs)) (inputs_text inputs ++ 59 ∷ 10 ∷ []) r ∙ ap (λ t. kind_text kind (length inputs) ++ t) (append_assoc (inputs_text inputs) (59 ∷ 10 ∷ []) r))

event-parts : (name : List ℕ) (rate : Rate) (r : List ℕ) → line_text (EventLine name rate) ++ r ≡ quoted name ++ 32 ∷ (rate_word rate.kind ++ (rate.text ++ 59 ∷ 10 ∷ r))
event-parts name rate r =
    append_assoc (quoted name) (32 ∷ (rate_word rate.kind ++ (rate.text ++ 59 ∷ 10 ∷ []))) r
    ∙ ap (λ t. quoted name ++ 32 ∷ t) (append_assoc (rate_word rate.kind) (rate.text ++ 59 ∷ 10 ∷ []) r ∙ ap (λ t. rate_word rate.kind ++ t) (append_assoc rate.text (59 ∷ 10 ∷ []) r))

behind-blank : (t u : List ℕ) → 32 ∷ t ≡ 32 ∷ u → t ≡ u
behind-blank t u h = cc

behind-feed : (t u : List ℕ) → 10 ∷ t ≡ 10 ∷ u → t ≡ u
behind-feed t u h = cc

read-line : (a b : Line) (r s : List ℕ) → IsPlainLine a → IsPlainLine b → line_text a ++ r ≡ line_text b ++ s → (a ≡ b) × (r ≡ s)
read-line (GateLine m k xs) (GateLine n l ys) r s p q e =
    let name = read-name m n _ _ p.0 q.0 (sym (gate-parts m k xs r) ∙ e ∙ gate-parts n l ys s) in
    let kind = read-kind k l (length xs) (length ys) xs ys (10 ∷ r) (10 ∷ s) p.1 q.1 (behind-blank _ _ name.1) in
    let ins = read-inputs xs ys (10 ∷ r) (10 ∷ s) p.2 q.2 kind.1 in
    ((λ i. GateLine (name.0 i) (kind.0 i) (ins.0 i)), behind-feed r s ins.1)
read-line (GateLine m k xs) (EventLine n rate) r s p q e =
    let name = read-name m n _ _ p.0 q.0 (sym (gate-parts m k xs r) ∙ e ∙ event-parts n rate s) in
    absurd (kind-or-rate k (length xs) rate.kind _ _ p.1 (behind-blank _ _ name.1))
read-line (EventLine m rate) (GateLine n l ys) r s p q e =
    let name = read-name m n _ _ p.0 q.0 (sym (event-parts m rate r) ∙ e ∙ gate-parts n l ys s) in
    absurd (kind-or-rate l (length ys) rate.kind _ _ q.1 (sym (behind-blank _ _ name.1)))
read-line (EventLine m first) (EventLine n second) r s p q e =
    let name = read-name m n _ _ p.0 q.0 (sym (event-parts m first r) ∙ e ∙ event-parts n second s) in
    let rate = read-rate first second (10 ∷ r) (10 ∷ s) p.1 q.1 (behind-blank _ _ name.1) in
    ((λ i. EventLine (name.0 i) (rate.0 i)), behind-feed r s rate.1)

no-line : (line : Line) (r : List ℕ) → [] ≡ line_text line ++ r → ⊥
no-line (GateLine name kind inputs) r e = cc
no-line (EventLine name rate) r e = cc

read-lines : (ls ms : List Line) → AllByRecursion IsPlainLine ls → AllByRecursion IsPlainLine ms → flat_map line_text ls ≡ flat_map line_text ms → ls ≡ ms
read-lines [] [] p q e = refl
read-lines [] (m ∷ ms) p q e = absurd (no-line m (flat_map line_text ms) e)
read-lines (l ∷ ls) [] p q e = absurd (no-line l (flat_map line_text ls) (sym e))
read-lines (l ∷ ls) (m ∷ ms) p q e =
    let first = read-line l m (flat_map line_text ls) (flat_map line_text ms) p.0 q.0 e in
    let rest = read-lines ls ms p.1 q.1 first.1 in
    λ i. first.0 i ∷ rest i

-- bytes are one text at most
pub one-text : (bytes : List ℕ) (a b : Galileo) → IsTextOf bytes a → IsTextOf bytes b → a ≡ b
one-text bytes a b first second =
    let whole : top_text a.top ++ flat_map line_text a.lines ≡ top_text b.top ++ flat_map line_text b.lines = sym first.bytes_are ∙ second.bytes_are in
    let tail : (quoted a.top ++ 59 ∷ 10 ∷ []) ++ flat_map line_text a.lines ≡ (quoted b.top ++ 59 ∷ 10 ∷ []) ++ flat_map line_text b.lines = cc in
    let name = read-name a.top b.top _ _ first.top second.top
    (sym (append_assoc (quoted a.top) (59 ∷ 10 ∷ []) (flat_map line_text a.lines)) ∙ tail ∙ append_assoc (quoted b.top) (59 ∷ 10 ∷ []) (flat_map line_text b.lines)) in
    let lines = read-lines a.lines b.lines first.lines second.lines (behind-end _ _ name.1) in
    λ i. record { top = name.0 i; lines = lines i }
  where
    behind-end : (t u : List ℕ) → 59 ∷ 10 ∷ t ≡ 59 ∷ 10 ∷ u → t ≡ u
    behind-end t u h = cc
