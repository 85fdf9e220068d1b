-- The bytes of a name can be read back, and hold no `<`.
use Rattle.std.proofs.Common.{ℕ, ◌+◌, ◌-◌, ◌*◌, ◌/◌, ◌%◌, ◌≡◌, ◌<◌, ◌≤◌, ◌==◌, nat_lt, nat_le, ◌&&◌, Bool, true, false, cond, if◌then◌else◌, List, [], ◌∷◌, ◌++◌, codes, ⊎_elim, ap, ◌∙◌, sym, subst, refl, arith}
use Rattle.std.proofs.lemmas.Bool.{eqb-true, eqb-false, ne_eqb, ltb-true, ltb-false}
use Rattle.std.specs.Fmt.{digit_glyph}
use Rattle.std.specs.List.{AllByRecursion, flat_map}
use Rattle.std.proofs.lemmas.List.{append_assoc, append_cancel_left}
use Rattle.fault_system.proofs.Elements.{In, In-append}
use Rattle.galileo_writer.proofs.Bytes.{cut-first}
use Rattle.open_psa_writer.specs.Mef.{byte_text, hex_text, label_text}

-- ---- the six forms of a byte

-- a byte and its text: what holds of each form holds of all bytes
pub byte-cases : (P : ℕ → List ℕ → Type 0) → P 38 (codes "&amp;") → P 60 (codes "&lt;") → P 62 (codes "&gt;") → P 92 (codes "\\\\")
    → ((b : ℕ) → (b ≡ 38 → ⊥) → (b ≡ 60 → ⊥) → (b ≡ 92 → ⊥) → P b (b ∷ [])) → ((b : ℕ) → P b (hex_text b)) → (b : ℕ) → P b (byte_text b)
byte-cases P amp lt gt back own hex b = first (b == 38) refl
  where
    plain : (c : Bool) → (b ≡ 38 → ⊥) → (b ≡ 60 → ⊥) → (b ≡ 92 → ⊥) → P b (if c then b ∷ [] else hex_text b)
    plain true f g h = own b f g h
    plain false f g h = hex b

    fourth : (c : Bool) → (b == 92) ≡ c → (b ≡ 38 → ⊥) → (b ≡ 60 → ⊥) → P b (if c then codes "\\\\" else if nat_le 32 b && nat_le b 126 then b ∷ [] else hex_text b)
    fourth true e f g = subst (λ x. P x (codes "\\\\")) (sym (eqb-true b 92 e)) back
    fourth false e f g = plain (nat_le 32 b && nat_le b 126) f g (λ (s : b ≡ 92). eqb-false b 92 e s)

    third : (c : Bool) → (b ≡ 38 → ⊥) → (b ≡ 60 → ⊥) → (b == 62) ≡ c
        → P b (if c then codes "&gt;" else if b == 92 then codes "\\\\" else if nat_le 32 b && nat_le b 126 then b ∷ [] else hex_text b)
    third true f g e = subst (λ x. P x (codes "&gt;")) (sym (eqb-true b 62 e)) gt
    third false f g e = fourth (b == 92) refl f g

    second : (c : Bool) → (b ≡ 38 → ⊥) → (b == 60) ≡ c
        → P b (if c then codes "&lt;" else if b == 62 then codes "&gt;" else if b == 92 then codes "\\\\" else if nat_le 32 b && nat_le b 126 then b ∷ [] else hex_text b)
    second true f e = subst (λ x. P x (codes "&lt;")) (sym (eqb-true b 60 e)) lt
    second false f e = third (b == 62) f (λ (s : b ≡ 60). eqb-false b 60 e s) refl

    first : (c : Bool) → (b == 38) ≡ c
        → P b (if c then codes "&amp;" else if b == 60 then codes "&lt;" else if b == 62 then codes "&gt;" else if b == 92 then codes "\\\\" else if nat_le 32 b && nat_le b 126 then b ∷ [] else hex_text b)
    first true e = subst (λ x. P x (codes "&amp;")) (sym (eqb-true b 38 e)) amp
    first false e = second (b == 60) (λ (s : b ≡ 38). eqb-false b 38 e s) refl

-- ---- no `<`

abbrev Lacks : ℕ → List ℕ → Type 0
Lacks byte bytes = AllByRecursion (λ b. b ≡ byte → ⊥) bytes

lacks-in : (byte : ℕ) (bytes : List ℕ) → Lacks byte bytes → In byte bytes → ⊥
lacks-in byte [] all i = i
lacks-in byte (b ∷ bytes) all i = ⊎_elim all.0 (lacks-in byte bytes all.1) i

glyph-lacks : (d : ℕ) → digit_glyph false d ≡ 60 → ⊥
glyph-lacks d = by (nat_lt d 10) refl
  where
    by : (b : Bool) → nat_lt d 10 ≡ b → cond b (48 + d) (87 + d) ≡ 60 → ⊥
    by true e h = let small : d < 10 = ltb-true d 10 e in omega arith
    by false e h = omega arith

byte-lacks : (b : ℕ) → Lacks 60 (byte_text b)
byte-lacks = byte-cases (λ b t. Lacks 60 t)
    ((λ h. omega arith), ((λ h. omega arith), ((λ h. omega arith), ((λ h. omega arith), ((λ h. omega arith), tt)))))
    ((λ h. omega arith), ((λ h. omega arith), ((λ h. omega arith), ((λ h. omega arith), tt))))
    ((λ h. omega arith), ((λ h. omega arith), ((λ h. omega arith), ((λ h. omega arith), tt))))
    ((λ h. omega arith), ((λ h. omega arith), tt))
    (λ b f g h. (g, tt))
    (λ b. ((λ h. omega arith), ((λ h. omega arith), (glyph-lacks (b / 16), (glyph-lacks (b % 16), tt)))))

name-lacks : (name : List ℕ) → In 60 (flat_map byte_text name) → ⊥
name-lacks [] i = i
name-lacks (b ∷ name) i = ⊎_elim (lacks-in 60 (byte_text b) (byte-lacks b)) (name-lacks name) (In-append 60 (byte_text b) (flat_map byte_text name) i)

-- ---- a byte from its text, and what follows

head : List ℕ → ℕ
head [] = 0
head (b ∷ bytes) = b

tail : List ℕ → List ℕ
tail [] = []
tail (b ∷ bytes) = bytes

unglyph : ℕ → ℕ
unglyph g = if nat_lt g 58 then g - 48 else g - 87

glyph-back : (d : ℕ) → unglyph (digit_glyph false d) ≡ d
unfolding unglyph
glyph-back d = by (nat_lt d 10) refl
  where
    after : (c : Bool) (g : ℕ) → nat_lt g 58 ≡ c → (c ≡ true → g - 48 ≡ d) → (c ≡ false → g - 87 ≡ d) → (if nat_lt g 58 then g - 48 else g - 87) ≡ d
    after true g e f h = ap (λ c. if c then g - 48 else g - 87) e ∙ f refl
    after false g e f h = ap (λ c. if c then g - 48 else g - 87) e ∙ h refl

    by : (b : Bool) → nat_lt d 10 ≡ b → (if nat_lt (cond b (48 + d) (87 + d)) 58 then cond b (48 + d) (87 + d) - 48 else cond b (48 + d) (87 + d) - 87) ≡ d
    by true e =
        let small : d < 10 = ltb-true d 10 e in
        after (nat_lt (48 + d) 58) (48 + d) refl (λ _. omega arith) (λ f. let large : 58 ≤ 48 + d = ltb-false (48 + d) 58 f in absurd (omega arith))
    by false e =
        let large : 10 ≤ d = ltb-false d 10 e in
        after (nat_lt (87 + d) 58) (87 + d) refl (λ f. let small : 87 + d < 58 = ltb-true (87 + d) 58 f in absurd (omega arith)) (λ _. omega arith)

-- the byte whose text begins some bytes
first : List ℕ → ℕ
first [] = 0
first (b ∷ t) =
    if b == 38 then (if head t == 97 then 38 else if head t == 108 then 60 else 62)
    else if b == 92 then (if head t == 92 then 92 else unglyph (head (tail t)) * 16 + unglyph (head (tail (tail t))))
    else b

-- and what stands behind it
behind : List ℕ → List ℕ
behind [] = []
behind (b ∷ t) =
    if b == 38 then (if head t == 97 then tail (tail (tail (tail t))) else tail (tail (tail t)))
    else if b == 92 then (if head t == 92 then tail t else tail (tail (tail t)))
    else t

record IsRead (b : ℕ) (t : List ℕ) : Type 0 where
  byte : (r : List ℕ) → first (t ++ r) ≡ b
  rest : (r : List ℕ) → behind (t ++ r) ≡ r
  some : (r : List ℕ) → [] ≡ t ++ r → ⊥

byte-read : (b : ℕ) → IsRead b (byte_text b)
unfolding first behind head tail
byte-read = byte-cases IsRead
    (record { byte = λ r. refl; rest = λ r. refl; some = λ r e. cc })
    (record { byte = λ r. refl; rest = λ r. refl; some = λ r e. cc })
    (record { byte = λ r. refl; rest = λ r. refl; some = λ r e. cc })
    (record { byte = λ r. refl; rest = λ r. refl; some = λ r e. cc })
    (λ b f g h. record {
      byte = λ r. other b f h _ _ b;
      rest = λ r. other b f h _ _ r;
      some = λ r e. cc;
    })
    (λ b. record {
      byte = λ r. both (b / 16) (b % 16) b (omega arith);
      rest = λ r. refl;
      some = λ r e. cc;
    })
  where
    other : {X : Type 0} (b : ℕ) → (b ≡ 38 → ⊥) → (b ≡ 92 → ⊥) → (x y z : X) → (if b == 38 then x else if b == 92 then y else z) ≡ z
    other b f h x y z = ap (λ c. if c then x else if b == 92 then y else z) (ne_eqb b 38 f) ∙ ap (λ c. if c then y else z) (ne_eqb b 92 h)

    both : (high low b : ℕ) → high * 16 + low ≡ b → unglyph (digit_glyph false high) * 16 + unglyph (digit_glyph false low) ≡ b
    both high low b e = ap (λ x. x * 16 + unglyph (digit_glyph false low)) (glyph-back high) ∙ ap (λ x. high * 16 + x) (glyph-back low) ∙ e

-- names whose bytes are the same are one
pub one-name : (a b : List ℕ) → flat_map byte_text a ≡ flat_map byte_text b → a ≡ b
one-name [] [] e = refl
one-name [] (y ∷ ys) e = absurd ((byte-read y).some (flat_map byte_text ys) e)
one-name (x ∷ xs) [] e = absurd ((byte-read x).some (flat_map byte_text xs) (sym e))
one-name (x ∷ xs) (y ∷ ys) e =
    let byte : x ≡ y = sym ((byte-read x).byte (flat_map byte_text xs)) ∙ ap first e ∙ (byte-read y).byte (flat_map byte_text ys) in
    let rest : flat_map byte_text xs ≡ flat_map byte_text ys = sym ((byte-read x).rest (flat_map byte_text xs)) ∙ ap behind e ∙ (byte-read y).rest (flat_map byte_text ys) in
    let names = one-name xs ys rest in
    λ i. byte i ∷ names i

-- a label and what follows can be read in one way
pub read-label : (a b r s : List ℕ) → label_text a ++ r ≡ label_text b ++ s → (a ≡ b) × (r ≡ s)
read-label a b r s e =
    let within : flat_map byte_text a ++ (codes "</label>\n" ++ r) ≡ flat_map byte_text b ++ (codes "</label>\n" ++ s)
    = sym (append_assoc (flat_map byte_text a) (codes "</label>\n") r)
    ∙ append_cancel_left (codes "<label>") _ _ e
    ∙ append_assoc (flat_map byte_text b) (codes "</label>\n") s in
    let cut = cut-first 60 (flat_map byte_text a) (flat_map byte_text b) _ _ (name-lacks a) (name-lacks b) within in
    (one-name a b cut.0, append_cancel_left (codes "/label>\n") r s cut.1)
