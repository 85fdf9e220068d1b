-- Bytes are one text at most.
use Rattle.std.proofs.Common.{ℕ, ◌≡◌, ◌==◌, Bool, true, false, if◌then◌else◌, List, [], ◌∷◌, ◌++◌, length, codes, decimal, Contains, ap, ◌∙◌, sym, refl, arith}
use Rattle.std.specs.List.{AllByRecursion, flat_map}
use Rattle.std.proofs.lemmas.Bool.{eqb-true}
use Rattle.std.proofs.lemmas.Fmt.{decimal_injective}
use Rattle.std.proofs.lemmas.List.{append_assoc, append_cancel_left}
use Rattle.fault_system.proofs.Elements.{In, contains_In}
use Rattle.property_reader.specs.declared.rate.RateKind.{RateKind}
use Rattle.property_reader.specs.declared.rate.RateKind.TheVariants.{Prob, Lambda}
use Rattle.round_gates.specs.declared.node.GateKind.{GateKind}
use Rattle.round_gates.specs.declared.node.GateKind.TheVariants.{And, Or, AtLeast}
use Rattle.galileo_writer.proofs.Bytes.{cut-digits, cut-first, decimal-digits, decimal-lacks}
use Rattle.open_psa_writer.specs.Mef.{Choice, Number, Figures, Digit, EventInput, GateInput, GateName, MefFormula, MefGate, MefEvent, MefInput, Mef, IsMefOf, IsPlainEvent, IsPlainFormula, IsPlainGate, IsPlainInput, IsPlainKind, IsPlainLabel, IsPlainName, IsPlainNumber, IsWord, Over, Own, Part, close_text, end_text, event_text, figures_text, formula_text, gate_text, head_text, input_text, label_text, middle_text, name_text, number_text, open_text, rate_text, title_text}
use Rattle.open_psa_writer.proofs.Labels.{read-label}

-- ---- what is read of two texts that go on alike: the same, and the same behind it

abbrev pub Same : {X : Type 0} → X → X → List ℕ → List ℕ → Type 0
Same a b r s = (a ≡ b) × (r ≡ s)

-- texts whose second bytes differ are not the same
apart : (a b c : ℕ) (t u : List ℕ) → (b ≡ c → ⊥) → a ∷ b ∷ t ≡ a ∷ c ∷ u → ⊥
apart a b c t u differ e = differ (same e)
  where
    same : a ∷ b ∷ t ≡ a ∷ c ∷ u → b ≡ c
    same h = cc

-- a number before a quote
read-word : (m n : ℕ) (r s : List ℕ) → IsWord m → IsWord n → decimal m ++ (34 ∷ r) ≡ decimal n ++ (34 ∷ s) → Same m n (34 ∷ r) (34 ∷ s)
read-word m n r s p q e =
    let cut = cut-first 34 (decimal m) (decimal n) r s (decimal-lacks 34 m (λ d. omega (arith, d.0))) (decimal-lacks 34 n (λ d. omega (arith, d.0))) e in
    (decimal_injective m n p q cut.0, ap (λ t. 34 ∷ t) cut.1)

-- figures in their element
read-figures : (a b r s : List ℕ) → (Contains a 34 → ⊥) → (Contains b 34 → ⊥) → figures_text a ++ r ≡ figures_text b ++ s → Same a b r s
read-figures a b r s f g e =
    let within : a ++ (codes "\"/>\n" ++ r) ≡ b ++ (codes "\"/>\n" ++ s)
    = sym (append_assoc a (codes "\"/>\n") r) ∙ append_cancel_left (codes "<float value=\"") _ _ e ∙ append_assoc b (codes "\"/>\n") s in
    let cut = cut-first 34 a b _ _ (λ i. f (contains_In 34 a i)) (λ i. g (contains_In 34 b i)) within in
    (cut.0, append_cancel_left (codes "/>\n") r s cut.1)

-- ---- names

-- a decimal lacks a quote, and what stands between the numbers of a name
no-quote : (n : ℕ) → In 34 (decimal n) → ⊥
no-quote n = decimal-lacks 34 n (λ d. omega (arith, d.0))

no-line : (n : ℕ) → In 95 (decimal n) → ⊥
no-line n = decimal-lacks 95 n (λ d. omega (arith, d.1))

name-parts : (number needed among : ℕ) (r : List ℕ) → name_text (Part number needed among) ++ r ≡ decimal number ++ (95 ∷ (decimal needed ++ (95 ∷ (decimal among ++ r))))
name-parts number needed among r =
    append_assoc (decimal number) _ r ∙ ap (λ t. decimal number ++ (95 ∷ t)) (append_assoc (decimal needed) _ r)

-- texts whose first bytes differ are not the same
first-apart : (a b : ℕ) (t u : List ℕ) → (a ≡ b → ⊥) → a ∷ t ≡ b ∷ u → ⊥
first-apart a b t u differ e = differ (same e)
  where
    same : a ∷ t ≡ b ∷ u → a ≡ b
    same h = cc

-- a number before a quote is none before a line
own-or-part : (m n : ℕ) (r t : List ℕ) → decimal m ++ (34 ∷ r) ≡ decimal n ++ (95 ∷ t) → ⊥
own-or-part m n r t e =
    first-apart 34 95 _ _ (λ h. omega arith)
    (cut-digits (decimal m) (decimal n) 34 95 r t (decimal-digits m) (decimal-digits n) (λ d. omega (arith, d.0)) (λ d. omega (arith, d.1)) e).1

-- a name before a quote
read-name : (a b : GateName) (r s : List ℕ) → IsPlainName a → IsPlainName b → name_text a ++ (34 ∷ r) ≡ name_text b ++ (34 ∷ s) → Same a b (34 ∷ r) (34 ∷ s)
read-name (Own m) (Own n) r s p q e =
    let word = read-word m n r s p q e in
    (ap Own word.0, word.1)
read-name (Own m) (Part n j k) r s p q e = absurd (own-or-part m n r _ (e ∙ name-parts n j k (34 ∷ s)))
read-name (Part m j k) (Own n) r s p q e = absurd (own-or-part n m s _ (sym e ∙ name-parts m j k (34 ∷ r)))
read-name (Part m j k) (Part n l o) r s p q e =
    let first = cut-first 95 (decimal m) (decimal n) _ _ (no-line m) (no-line n) (sym (name-parts m j k (34 ∷ r)) ∙ e ∙ name-parts n l o (34 ∷ s)) in
    let second = cut-first 95 (decimal j) (decimal l) _ _ (no-line j) (no-line l) first.1 in
    let third = read-word k o r s p.2 q.2 second.1 in
    let number : m ≡ n = decimal_injective m n p.0 q.0 first.0 in
    let needed : j ≡ l = decimal_injective j l p.1 q.1 second.0 in
    ((λ i. Part (number i) (needed i) (third.0 i)), third.1)

-- ---- inputs

input-parts : (front name r : List ℕ) → (front ++ (name ++ codes "\"/>\n")) ++ r ≡ front ++ (name ++ (codes "\"/>\n" ++ r))
input-parts front name r = append_assoc front (name ++ codes "\"/>\n") r ∙ ap (λ t. front ++ t) (append_assoc name (codes "\"/>\n") r)

read-input : (a b : MefInput) (r s : List ℕ) → IsPlainInput a → IsPlainInput b → input_text a ++ r ≡ input_text b ++ s → Same a b r s
read-input (EventInput m) (EventInput n) r s p q e =
    let front = codes "<basic-event name=\"e" in
    let word = read-word m n _ _ p q (append_cancel_left front _ _ (sym (input-parts front (decimal m) r) ∙ e ∙ input-parts front (decimal n) s)) in
    (ap EventInput word.0, append_cancel_left (codes "\"/>\n") r s word.1)
read-input (EventInput m) (GateInput n) r s p q e = absurd (apart 60 98 103 _ _ (λ h. omega arith) e)
read-input (GateInput m) (EventInput n) r s p q e = absurd (apart 60 103 98 _ _ (λ h. omega arith) e)
read-input (GateInput m) (GateInput n) r s p q e =
    let front = codes "<gate name=\"g" in
    let name = read-name m n _ _ p q (append_cancel_left front _ _ (sym (input-parts front (name_text m) r) ∙ e ∙ input-parts front (name_text n) s)) in
    (ap GateInput name.0, append_cancel_left (codes "\"/>\n") r s name.1)

-- ---- lists of elements, up to the end of an element around them

-- how one of some things is read, where none of them begins with `</`
record IsReadable {X : Type 0} (text : X → List ℕ) (Ok : X → Type 0) : Type 0 where
  one : (a b : X) (r s : List ℕ) → Ok a → Ok b → text a ++ r ≡ text b ++ s → Same a b r s
  opens : (a : X) (r s : List ℕ) → text a ++ r ≡ 60 ∷ 47 ∷ s → ⊥

read-list : {X : Type 0} (text : X → List ℕ) (Ok : X → Type 0) → IsReadable text Ok → (xs ys : List X) (r s : List ℕ) → AllByRecursion Ok xs → AllByRecursion Ok ys
    → flat_map text xs ++ 60 ∷ 47 ∷ r ≡ flat_map text ys ++ 60 ∷ 47 ∷ s → Same xs ys (60 ∷ 47 ∷ r) (60 ∷ 47 ∷ s)
read-list text Ok is [] [] r s p q e = (refl, e)
read-list text Ok is [] (y ∷ ys) r s p q e = absurd (is.opens y (flat_map text ys ++ 60 ∷ 47 ∷ s) r (sym (append_assoc (text y) (flat_map text ys) (60 ∷ 47 ∷ s)) ∙ sym e))
read-list text Ok is (x ∷ xs) [] r s p q e = absurd (is.opens x (flat_map text xs ++ 60 ∷ 47 ∷ r) s (sym (append_assoc (text x) (flat_map text xs) (60 ∷ 47 ∷ r)) ∙ e))
read-list text Ok is (x ∷ xs) (y ∷ ys) r s p q e =
    let here = is.one x y (flat_map text xs ++ 60 ∷ 47 ∷ r) (flat_map text ys ++ 60 ∷ 47 ∷ s) p.0 q.0
    (sym (append_assoc (text x) (flat_map text xs) (60 ∷ 47 ∷ r)) ∙ e ∙ append_assoc (text y) (flat_map text ys) (60 ∷ 47 ∷ s)) in
    let rest = read-list text Ok is xs ys r s p.1 q.1 here.1 in
    ((λ i. here.0 i ∷ rest.0 i), rest.1)

input-opens : (a : MefInput) (r s : List ℕ) → input_text a ++ r ≡ 60 ∷ 47 ∷ s → ⊥
input-opens (EventInput n) r s e = apart 60 98 47 _ _ (λ h. omega arith) e
input-opens (GateInput n) r s e = apart 60 103 47 _ _ (λ h. omega arith) e

inputs-readable : IsReadable input_text IsPlainInput
inputs-readable = record { one = read-input; opens = input-opens }

-- ---- kinds

apart-third : (a b c d : ℕ) (t u : List ℕ) → (c ≡ d → ⊥) → a ∷ b ∷ c ∷ t ≡ a ∷ b ∷ d ∷ u → ⊥
apart-third a b c d t u differ e = differ (same e)
  where
    same : a ∷ b ∷ c ∷ t ≡ a ∷ b ∷ d ∷ u → c ≡ d
    same h = cc

least-parts : (k : ℕ) (r : List ℕ) → open_text (AtLeast k) ++ r ≡ codes "<atleast min=\"" ++ (decimal k ++ (codes "\">\n" ++ r))
least-parts k r = ap (λ t. codes "<atleast min=\"" ++ t) (append_assoc (decimal k) (codes "\">\n") r)

read-open : (a b : GateKind) (r s : List ℕ) → IsPlainKind a → IsPlainKind b → open_text a ++ r ≡ open_text b ++ s → Same a b r s
read-open And And r s p q e = (refl, append_cancel_left (codes "<and>\n") r s e)
read-open And Or r s p q e = absurd (apart 60 97 111 _ _ (λ h. omega arith) e)
read-open And (AtLeast l) r s p q e = absurd (apart-third 60 97 110 116 _ _ (λ h. omega arith) e)
read-open Or And r s p q e = absurd (apart 60 111 97 _ _ (λ h. omega arith) e)
read-open Or Or r s p q e = (refl, append_cancel_left (codes "<or>\n") r s e)
read-open Or (AtLeast l) r s p q e = absurd (apart 60 111 97 _ _ (λ h. omega arith) e)
read-open (AtLeast k) And r s p q e = absurd (apart-third 60 97 116 110 _ _ (λ h. omega arith) e)
read-open (AtLeast k) Or r s p q e = absurd (apart 60 97 111 _ _ (λ h. omega arith) e)
read-open (AtLeast k) (AtLeast l) r s p q e =
    let word = read-word k l _ _ p q (append_cancel_left (codes "<atleast min=\"") _ _ (sym (least-parts k r) ∙ e ∙ least-parts l s)) in
    (ap AtLeast word.0, append_cancel_left (codes "\">\n") r s word.1)

-- what ends a gate of a kind, behind `</`
close_rest : GateKind → List ℕ
close_rest And = codes "and>\n"
close_rest Or = codes "or>\n"
close_rest (AtLeast k) = codes "atleast>\n"

closes : (kind : GateKind) → close_text kind ≡ 60 ∷ 47 ∷ close_rest kind
unfolding close_rest
closes And = refl
closes Or = refl
closes (AtLeast k) = refl

-- an input is no beginning of a gate of a kind
input-or-open : (a : MefInput) (kind : GateKind) (r s : List ℕ) → input_text a ++ r ≡ open_text kind ++ s → ⊥
input-or-open (EventInput n) And r s e = apart 60 98 97 _ _ (λ h. omega arith) e
input-or-open (EventInput n) Or r s e = apart 60 98 111 _ _ (λ h. omega arith) e
input-or-open (EventInput n) (AtLeast k) r s e = apart 60 98 97 _ _ (λ h. omega arith) e
input-or-open (GateInput n) And r s e = apart 60 103 97 _ _ (λ h. omega arith) e
input-or-open (GateInput n) Or r s e = apart 60 103 111 _ _ (λ h. omega arith) e
input-or-open (GateInput n) (AtLeast k) r s e = apart 60 103 97 _ _ (λ h. omega arith) e

not-one : (n : ℕ) → n ≡ 0 → n ≡ 1 → ⊥
not-one n e f = omega (arith, e, f)

inputs-or-open : (xs : List MefInput) → (length xs == 1) ≡ true → (kind : GateKind) (r s : List ℕ) → flat_map input_text xs ++ r ≡ open_text kind ++ s → ⊥
inputs-or-open [] one kind r s e = absurd (not-one 0 refl (eqb-true 0 1 one))
inputs-or-open (x ∷ xs) one kind r s e = input-or-open x kind (flat_map input_text xs ++ r) s (sym (append_assoc (input_text x) (flat_map input_text xs) r) ∙ e)

-- ---- what a gate is

over-parts : (kind : GateKind) (xs : List MefInput) (r : List ℕ) → (open_text kind ++ (flat_map input_text xs ++ close_text kind)) ++ r ≡ open_text kind ++ (flat_map input_text xs ++ (60 ∷ 47 ∷ (close_rest kind ++ r)))
over-parts kind xs r =
    append_assoc (open_text kind) (flat_map input_text xs ++ close_text kind) r
    ∙ ap (λ t. open_text kind ++ t) (append_assoc (flat_map input_text xs) (close_text kind) r ∙ ap (λ t. flat_map input_text xs ++ (t ++ r)) (closes kind))

read-over : (k l : GateKind) (xs ys : List MefInput) (r s : List ℕ) → IsPlainKind k → IsPlainKind l → AllByRecursion IsPlainInput xs → AllByRecursion IsPlainInput ys
    → (open_text k ++ (flat_map input_text xs ++ close_text k)) ++ r ≡ (open_text l ++ (flat_map input_text ys ++ close_text l)) ++ s → (k ≡ l) × (xs ≡ ys) × (r ≡ s)
read-over k l xs ys r s p q f g e =
    let kinds = read-open k l _ _ p q (sym (over-parts k xs r) ∙ e ∙ over-parts l ys s) in
    let ins = read-list input_text IsPlainInput inputs-readable xs ys (close_rest k ++ r) (close_rest l ++ s) f g kinds.1 in
    let rests : close_rest k ++ r ≡ close_rest l ++ s = append_cancel_left (60 ∷ 47 ∷ []) _ _ ins.1 in
    let last : close_rest k ++ r ≡ close_rest k ++ s = rests ∙ ap (λ kind. close_rest kind ++ s) (sym kinds.0) in
    (kinds.0, ins.0, append_cancel_left (close_rest k) r s last)

-- a kind over inputs before the end of its gate
read-kind : (k l : GateKind) (xs ys : List MefInput) (r s : List ℕ) → IsPlainKind k → IsPlainKind l → AllByRecursion IsPlainInput xs → AllByRecursion IsPlainInput ys
    → (length xs ≡ 1 → k ≡ Or) → (length ys ≡ 1 → l ≡ Or)
    → formula_text (Over k xs) ++ 60 ∷ 47 ∷ r ≡ formula_text (Over l ys) ++ 60 ∷ 47 ∷ s → (k ≡ l) × (xs ≡ ys) × (60 ∷ 47 ∷ r ≡ 60 ∷ 47 ∷ s)
read-kind k l xs ys r s p q f g single also = by (length xs == 1) (length ys == 1) refl refl
  where
    by : (b c : Bool) → (length xs == 1) ≡ b → (length ys == 1) ≡ c
        → (if b then flat_map input_text xs else open_text k ++ (flat_map input_text xs ++ close_text k)) ++ 60 ∷ 47 ∷ r
        ≡ (if c then flat_map input_text ys else open_text l ++ (flat_map input_text ys ++ close_text l)) ++ 60 ∷ 47 ∷ s
        → (k ≡ l) × (xs ≡ ys) × (60 ∷ 47 ∷ r ≡ 60 ∷ 47 ∷ s)
    by true true m n e =
        let ins = read-list input_text IsPlainInput inputs-readable xs ys r s f g e in
        (single (eqb-true (length xs) 1 m) ∙ sym (also (eqb-true (length ys) 1 n)), ins.0, ins.1)
    by true false m n e = absurd (inputs-or-open xs m l _ _ (e ∙ append_assoc (open_text l) (flat_map input_text ys ++ close_text l) (60 ∷ 47 ∷ s)))
    by false true m n e = absurd (inputs-or-open ys n k _ _ (sym e ∙ append_assoc (open_text k) (flat_map input_text xs ++ close_text k) (60 ∷ 47 ∷ r)))
    by false false m n e = read-over k l xs ys (60 ∷ 47 ∷ r) (60 ∷ 47 ∷ s) p q f g e

-- a choice
choice-parts : (a b c : MefInput) (r : List ℕ) → formula_text (Choice a b c) ++ r
    ≡ codes "<or>\n<and>\n" ++ (input_text a ++ (input_text b ++ (codes "</and>\n" ++ (input_text c ++ (codes "</or>\n" ++ r)))))
choice-parts a b c r =
    ap (λ t. codes "<or>\n<and>\n" ++ t)
    (append_assoc (input_text a) _ r
    ∙ ap (λ t. input_text a ++ t)
    (append_assoc (input_text b) _ r
    ∙ ap (λ t. input_text b ++ (codes "</and>\n" ++ t)) (append_assoc (input_text c) (codes "</or>\n") r)))

read-choice : (a b c x y z : MefInput) (r s : List ℕ) → IsPlainFormula (Choice a b c) → IsPlainFormula (Choice x y z)
    → formula_text (Choice a b c) ++ r ≡ formula_text (Choice x y z) ++ s → Same (Choice a b c) (Choice x y z) r s
read-choice a b c x y z r s p q e =
    let first = read-input a x _ _ p.0 q.0 (append_cancel_left (codes "<or>\n<and>\n") _ _ (sym (choice-parts a b c r) ∙ e ∙ choice-parts x y z s)) in
    let second = read-input b y _ _ p.1 q.1 first.1 in
    let third = read-input c z _ _ p.2 q.2 (append_cancel_left (codes "</and>\n") _ _ second.1) in
    ((λ i. Choice (first.0 i) (second.0 i) (third.0 i)), append_cancel_left (codes "</or>\n") r s third.1)

-- inputs of `or` are no `and`
inputs-or-and : (xs : List MefInput) (r s : List ℕ) → flat_map input_text xs ++ (60 ∷ 47 ∷ r) ≡ codes "<and>\n" ++ s → ⊥
inputs-or-and [] r s e = apart 60 47 97 _ _ (λ h. omega arith) e
inputs-or-and (x ∷ xs) r s e = input-or-open x And (flat_map input_text xs ++ (60 ∷ 47 ∷ r)) s (sym (append_assoc (input_text x) (flat_map input_text xs) (60 ∷ 47 ∷ r)) ∙ e)

-- a kind over inputs is no choice
over-or-choice : (k : GateKind) (xs : List MefInput) (r s : List ℕ) → IsPlainKind k → formula_text (Over k xs) ++ r ≡ codes "<or>\n<and>\n" ++ s → ⊥
over-or-choice k xs r s p e = by (length xs == 1) refl e
  where
    opened : (kind : GateKind) → IsPlainKind kind → (open_text kind ++ (flat_map input_text xs ++ close_text kind)) ++ r ≡ codes "<or>\n<and>\n" ++ s → ⊥
    opened And q h = apart 60 97 111 _ _ (λ i. omega arith) h
    opened Or q h = inputs-or-and xs _ s (append_cancel_left (codes "<or>\n") _ _ (sym (over-parts Or xs r) ∙ h))
    opened (AtLeast l) q h = apart 60 97 111 _ _ (λ i. omega arith) h

    by : (b : Bool) → (length xs == 1) ≡ b
        → (if b then flat_map input_text xs else open_text k ++ (flat_map input_text xs ++ close_text k)) ++ r ≡ codes "<or>\n<and>\n" ++ s → ⊥
    by true one h = inputs-or-open xs one Or r _ h
    by false one h = opened k p h

-- what makes a gate true, before the end of the gate
read-formula : (a b : MefFormula) (r s : List ℕ) → IsPlainFormula a → IsPlainFormula b → formula_text a ++ 60 ∷ 47 ∷ r ≡ formula_text b ++ 60 ∷ 47 ∷ s → Same a b (60 ∷ 47 ∷ r) (60 ∷ 47 ∷ s)
read-formula (Over k xs) (Over l ys) r s p q e =
    let both = read-kind k l xs ys r s p.0 q.0 p.1 q.1 p.2 q.2 e in
    ((λ i. Over (both.0 i) (both.1 i)), both.2)
read-formula (Over k xs) (Choice x y z) r s p q e = absurd (over-or-choice k xs _ _ p.0 (e ∙ choice-parts x y z (60 ∷ 47 ∷ s)))
read-formula (Choice a b c) (Over l ys) r s p q e = absurd (over-or-choice l ys _ _ q.0 (sym e ∙ choice-parts a b c (60 ∷ 47 ∷ r)))
read-formula (Choice a b c) (Choice x y z) r s p q e = read-choice a b c x y z (60 ∷ 47 ∷ r) (60 ∷ 47 ∷ s) p q e

-- ---- gates

gate-parts : (gate : MefGate) (r : List ℕ) → gate_text gate ++ r
    ≡ codes "<define-gate name=\"g" ++ (name_text gate.name ++ (codes "\">\n" ++ (title_text gate.name gate.label ++ (formula_text gate.formula ++ (codes "</define-gate>\n" ++ r)))))
gate-parts gate r =
    ap (λ t. codes "<define-gate name=\"g" ++ t)
    (append_assoc (name_text gate.name) _ r
    ∙ ap (λ t. name_text gate.name ++ (codes "\">\n" ++ t))
    (append_assoc (title_text gate.name gate.label) _ r
    ∙ ap (λ t. title_text gate.name gate.label ++ t) (append_assoc (formula_text gate.formula) (codes "</define-gate>\n") r)))

-- the name of an auxiliary gate is no number
pub own-other : (m n j k : ℕ) → Own m ≡ Part n j k → ⊥
own-other m n j k e = cc

-- the label of a gate whose name was read
read-title : (a b : GateName) (x y r s : List ℕ) → a ≡ b → IsPlainLabel a x → IsPlainLabel b y → title_text a x ++ r ≡ title_text b y ++ s → Same x y r s
read-title (Own m) (Own n) x y r s same p q e = read-label x y r s e
read-title (Part m j k) (Part n l o) x y r s same p q e = (p ∙ sym q, e)
read-title (Own m) (Part n l o) x y r s same p q e = absurd (own-other m n l o same)
read-title (Part m j k) (Own n) x y r s same p q e = absurd (own-other n m j k (sym same))

read-gate : (a b : MefGate) (r s : List ℕ) → IsPlainGate a → IsPlainGate b → gate_text a ++ r ≡ gate_text b ++ s → Same a b r s
read-gate a b r s p q e =
    let name = read-name a.name b.name _ _ p.name q.name (append_cancel_left (codes "<define-gate name=\"g") _ _ (sym (gate-parts a r) ∙ e ∙ gate-parts b s)) in
    let label = read-title a.name b.name a.label b.label _ _ name.0 p.label q.label (append_cancel_left (codes "\">\n") _ _ name.1) in
    let formula = read-formula a.formula b.formula (codes "define-gate>\n" ++ r) (codes "define-gate>\n" ++ s) p.formula q.formula label.1 in
    ((λ i. record { name = name.0 i; label = label.0 i; formula = formula.0 i }), append_cancel_left (codes "</define-gate>\n") r s formula.1)

gates-readable : IsReadable gate_text IsPlainGate
gates-readable = record { one = read-gate; opens = λ a r s e. apart 60 100 47 _ _ (λ h. omega arith) e }

-- ---- basic events

digit-parts : (before : Number) (base digit r : List ℕ) → number_text (Digit before base digit) ++ r
    ≡ codes "<add>\n<mul>\n" ++ (number_text before ++ (figures_text base ++ (codes "</mul>\n" ++ (figures_text digit ++ (codes "</add>\n" ++ r)))))
digit-parts before base digit r =
    ap (λ t. codes "<add>\n<mul>\n" ++ t)
    (append_assoc (number_text before) _ r
    ∙ ap (λ t. number_text before ++ t)
    (append_assoc (figures_text base) _ r
    ∙ ap (λ t. figures_text base ++ (codes "</mul>\n" ++ t)) (append_assoc (figures_text digit) (codes "</add>\n") r)))

read-number : (a b : Number) (r s : List ℕ) → IsPlainNumber a → IsPlainNumber b → number_text a ++ r ≡ number_text b ++ s → Same a b r s
read-number (Figures a) (Figures b) r s p q e =
    let both = read-figures a b r s p q e in
    (ap Figures both.0, both.1)
read-number (Figures a) (Digit before base digit) r s p q e = absurd (apart 60 102 97 _ _ (λ h. omega arith) e)
read-number (Digit before base digit) (Figures b) r s p q e = absurd (apart 60 97 102 _ _ (λ h. omega arith) e)
read-number (Digit m x c) (Digit n y d) r s p q e =
    let before = read-number m n _ _ p.0 q.0 (append_cancel_left (codes "<add>\n<mul>\n") _ _ (sym (digit-parts m x c r) ∙ e ∙ digit-parts n y d s)) in
    let base = read-figures x y _ _ p.1 q.1 before.1 in
    let digit = read-figures c d _ _ p.2 q.2 (append_cancel_left (codes "</mul>\n") _ _ base.1) in
    ((λ i. Digit (before.0 i) (base.0 i) (digit.0 i)), append_cancel_left (codes "</add>\n") r s digit.1)

lambda-parts : (value : Number) (r : List ℕ) → rate_text Lambda value ++ r ≡ codes "<exponential>\n" ++ (number_text value ++ (codes "<system-mission-time/>\n</exponential>\n" ++ r))
lambda-parts value r = ap (λ t. codes "<exponential>\n" ++ t) (append_assoc (number_text value) (codes "<system-mission-time/>\n</exponential>\n") r)

number-or-lambda : (a : Number) (r s : List ℕ) → number_text a ++ r ≡ codes "<exponential>\n" ++ s → ⊥
number-or-lambda (Figures a) r s e = apart 60 102 101 _ _ (λ h. omega arith) e
number-or-lambda (Digit before base digit) r s e = apart 60 97 101 _ _ (λ h. omega arith) e

read-rate : (k l : RateKind) (a b : Number) (r s : List ℕ) → IsPlainNumber a → IsPlainNumber b → rate_text k a ++ r ≡ rate_text l b ++ s → (k ≡ l) × (a ≡ b) × (r ≡ s)
read-rate Prob Prob a b r s p q e = let number = read-number a b r s p q e in (refl, number.0, number.1)
read-rate Prob Lambda a b r s p q e = absurd (number-or-lambda a _ _ (e ∙ lambda-parts b s))
read-rate Lambda Prob a b r s p q e = absurd (number-or-lambda b _ _ (sym e ∙ lambda-parts a r))
read-rate Lambda Lambda a b r s p q e =
    let number = read-number a b _ _ p q (append_cancel_left (codes "<exponential>\n") _ _ (sym (lambda-parts a r) ∙ e ∙ lambda-parts b s)) in
    (refl, number.0, append_cancel_left (codes "<system-mission-time/>\n</exponential>\n") r s number.1)

event-parts : (event : MefEvent) (r : List ℕ) → event_text event ++ r
    ≡ codes "<define-basic-event name=\"e" ++ (decimal event.number ++ (codes "\">\n" ++ (label_text event.name ++ (rate_text event.kind event.value ++ (codes "</define-basic-event>\n" ++ r)))))
event-parts event r =
    ap (λ t. codes "<define-basic-event name=\"e" ++ t)
    (append_assoc (decimal event.number) _ r
    ∙ ap (λ t. decimal event.number ++ (codes "\">\n" ++ t))
    (append_assoc (label_text event.name) _ r
    ∙ ap (λ t. label_text event.name ++ t) (append_assoc (rate_text event.kind event.value) (codes "</define-basic-event>\n") r)))

read-event : (a b : MefEvent) (r s : List ℕ) → IsPlainEvent a → IsPlainEvent b → event_text a ++ r ≡ event_text b ++ s → Same a b r s
read-event a b r s p q e =
    let number = read-word a.number b.number _ _ p.number q.number (append_cancel_left (codes "<define-basic-event name=\"e") _ _ (sym (event-parts a r) ∙ e ∙ event-parts b s)) in
    let label = read-label a.name b.name _ _ (append_cancel_left (codes "\">\n") _ _ number.1) in
    let rate = read-rate a.kind b.kind a.value b.value _ _ p.value q.value label.1 in
    ((λ i. record { number = number.0 i; name = label.0 i; kind = rate.0 i; value = rate.1 i }), append_cancel_left (codes "</define-basic-event>\n") r s rate.2)

events-readable : IsReadable event_text IsPlainEvent
events-readable = record { one = read-event; opens = λ a r s e. apart 60 100 47 _ _ (λ h. omega arith) e }

-- ---- texts

-- bytes are one text at most
pub one-mef : (bytes : List ℕ) (a b : Mef) → IsMefOf bytes a → IsMefOf bytes b → a ≡ b
one-mef bytes a b first second =
    let whole : gate_text a.top ++ (flat_map gate_text a.others ++ (middle_text ++ (flat_map event_text a.events ++ end_text)))
    ≡ gate_text b.top ++ (flat_map gate_text b.others ++ (middle_text ++ (flat_map event_text b.events ++ end_text)))
    = append_cancel_left head_text _ _ (sym first.bytes_are ∙ second.bytes_are) in
    let top = read-gate a.top b.top _ _ first.top second.top whole in
    let others = read-list gate_text IsPlainGate gates-readable a.others b.others _ _ first.others second.others top.1 in
    let events = read-list event_text IsPlainEvent events-readable a.events b.events _ _ first.events second.events (append_cancel_left middle_text _ _ others.1) in
    λ i. record { top = top.0 i; others = others.0 i; events = events.0 i }
