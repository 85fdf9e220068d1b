-- Bytes that stand in no identifier, and texts that are split at them.
use Rattle.std.proofs.Common.{ℕ, ◌≡◌, ◌≢◌, Bool, true, false, not, nat_eq, inl, inr, List, [], ◌∷◌, ◌++◌, flat_map, refl, sym, ap, ◌∙◌, subst}
use Rattle.std.specs.List.{AllByRecursion, concat, list_all}
use Rattle.std.specs.Prelude.{◌==◌, codes}
use Rattle.std.proofs.lemmas.Bool.{and_parts, eq-eqb, false≢true}
use Rattle.std.proofs.lemmas.List.{append-nil, append_cancel_left}
use Rattle.aadl_syntax.specs.Form.{Byte, One, Perhaps, ◌followed_by◌, is_letter, is_letter_or_digit}
use Rattle.aadl_syntax.specs.inner.Token.{IsIdentifier}
use Rattle.instantiator.proofs.Apart.{each-append}
use Rattle.model_facts.specs.Laws.{Lacks}
use Rattle.model_facts.specs.Names.{path_text}

-- ---- bytes that stand nowhere

-- no letter, no digit and no line below
pub record IsForeign (byte : ℕ) : Type 0 where
  pub letter : is_letter byte ≡ false
  pub other : is_letter_or_digit byte ≡ false
  pub line : (byte == 95) ≡ false

one-lacks : (class : ℕ → Bool) (byte : ℕ) → class byte ≡ false → (bytes : List ℕ) → One class bytes → Lacks byte bytes
one-lacks class byte not [] so = absurd so
one-lacks class byte not (b ∷ []) so = (λ same. false≢true (sym not ∙ ap class (sym same) ∙ so), tt)
one-lacks class byte not (b ∷ c ∷ bytes) so = absurd so

pub lacks-append : (byte : ℕ) (a b : List ℕ) → Lacks byte a → Lacks byte b → Lacks byte (a ++ b)
lacks-append byte = each-append (λ other. other ≢ byte)

module _ (byte : ℕ) (foreign : IsForeign byte) where
  parts-lack : (parts : List (List ℕ)) → AllByRecursion (Perhaps (Byte 95) followed_by One is_letter_or_digit) parts → Lacks byte (concat parts)
  parts-lack [] all = tt
  parts-lack (part ∷ parts) (first, rest) =
      let low : Lacks byte first.front =
      elim first.first [
        | inl none ↦ subst (Lacks byte) (sym none) tt
        | inr sign ↦ one-lacks (λ b. b == 95) byte foreign.line first.front sign
      ] in
      lacks-append byte part (concat parts) (subst (Lacks byte) (sym first.whole) (lacks-append byte first.front first.back low (one-lacks is_letter_or_digit byte foreign.other first.back first.second))) (parts-lack parts rest)

  -- an identifier has no such byte
  pub identifier-lacks : (text : List ℕ) → IsIdentifier text → Lacks byte text
  identifier-lacks text form =
      let word = form.word in
      subst (Lacks byte) (sym word.whole)
      (lacks-append byte word.front word.back (one-lacks is_letter byte foreign.letter word.front word.first) (subst (Lacks byte) (sym word.second.whole) (parts-lack word.second.parts word.second.each)))

-- a test of a text that is written out
pub lacks-by : (byte : ℕ) (text : List ℕ) → list_all (λ other. not (nat_eq other byte)) text ≡ true → Lacks byte text
lacks-by byte [] passes = tt
lacks-by byte (b ∷ text) passes =
    let parts = and_parts (not (nat_eq b byte)) (list_all (λ other. not (nat_eq other byte)) text) passes in
    (λ same. false≢true (ap not (sym (eq-eqb b byte same)) ∙ parts.0), lacks-by byte text parts.1)

-- ---- texts that are split

-- a text up to the first such byte
pub up-to : (byte : ℕ) (a b r s : List ℕ) → Lacks byte a → Lacks byte b → a ++ byte ∷ r ≡ b ++ byte ∷ s → (a ≡ b) × (r ≡ s)
up-to byte [] [] r s p q e = (refl, cc)
up-to byte [] (y ∷ b) r s p q e = let same : y ≡ byte = cc in absurd (q.0 same)
up-to byte (x ∷ a) [] r s p q e = let same : x ≡ byte = cc in absurd (p.0 same)
up-to byte (x ∷ a) (y ∷ b) r s p q e =
    let first : x ≡ y = cc in
    let rest : a ++ byte ∷ r ≡ b ++ byte ∷ s = cc in
    let both = up-to byte a b r s p.1 q.1 rest in
    (λ i. first i ∷ both.0 i, both.1)

pub no-byte : (byte : ℕ) (a b r : List ℕ) → Lacks byte a → a ≡ b ++ byte ∷ r → ⊥
no-byte byte [] [] r p e = cc
no-byte byte [] (y ∷ b) r p e = cc
no-byte byte (x ∷ a) [] r p e = let same : x ≡ byte = cc in p.0 same
no-byte byte (x ∷ a) (y ∷ b) r p e = let rest : a ≡ b ++ byte ∷ r = cc in no-byte byte a b r p.1 rest

-- texts with different first bytes
pub heads : (a b : ℕ) (xs ys : List ℕ) → nat_eq a b ≡ false → a ∷ xs ≡ b ∷ ys → ⊥
heads a b xs ys apart e = let same : a ≡ b = cc in false≢true (sym apart ∙ eq-eqb a b same)

-- texts that go on with different bytes, where neither byte stands in the front of the other text
pub no-fronts : (x y : ℕ) (a b r s : List ℕ) → nat_eq x y ≡ false → Lacks y a → Lacks x b → a ++ x ∷ r ≡ b ++ y ∷ s → ⊥
no-fronts x y [] [] r s apart p q e = heads x y r s apart e
no-fronts x y [] (c ∷ b) r s apart p q e = let same : c ≡ x = cc in q.0 same
no-fronts x y (c ∷ a) [] r s apart p q e = let same : c ≡ y = cc in p.0 same
no-fronts x y (c ∷ a) (d ∷ b) r s apart p q e = let rest : a ++ x ∷ r ≡ b ++ y ∷ s = cc in no-fronts x y a b r s apart p.1 q.1 rest

-- ---- paths

-- the names of a path, each behind a dot
abbrev pub dotted : List (List ℕ) → List ℕ
dotted path = flat_map (λ name. codes "." ++ name) path

pub dot : IsForeign 46
dot = record { letter = refl; other = refl; line = refl }

pub slash : IsForeign 47
slash = record { letter = refl; other = refl; line = refl }

after-dot : (n m : List ℕ) (p q : List (List ℕ)) → Lacks 46 n → Lacks 46 m → n ++ dotted p ≡ m ++ dotted q → (n ≡ m) × (dotted p ≡ dotted q)
after-dot n m [] [] first second e = (sym (append-nil n) ∙ e ∙ append-nil m, refl)
after-dot n m [] (y ∷ q) first second e = absurd (no-byte 46 n m (y ++ dotted q) first (sym (append-nil n) ∙ e))
after-dot n m (x ∷ p) [] first second e = absurd (no-byte 46 m n (x ++ dotted p) second (sym (append-nil m) ∙ sym e))
after-dot n m (x ∷ p) (y ∷ q) first second e =
    let both = up-to 46 n m (x ++ dotted p) (y ++ dotted q) first second e in
    (both.0, ap (λ rest. 46 ∷ rest) both.1)

pub dotted-same : (p q : List (List ℕ)) → AllByRecursion IsIdentifier p → AllByRecursion IsIdentifier q → dotted p ≡ dotted q → p ≡ q
dotted-same [] [] all each e = refl
dotted-same [] (m ∷ q) all each e = absurd (no-byte 46 [] [] (m ++ dotted q) tt e)
dotted-same (n ∷ p) [] all each e = absurd (no-byte 46 [] [] (n ++ dotted p) tt (sym e))
dotted-same (n ∷ p) (m ∷ q) all each e =
    let rest : n ++ dotted p ≡ m ++ dotted q = cc in
    let both = after-dot n m p q (identifier-lacks 46 dot n all.0) (identifier-lacks 46 dot m each.0) rest in
    let more = dotted-same p q all.1 each.1 both.1 in
    λ i. both.0 i ∷ more i

-- a byte that stands in no identifier stands in no path, unless it is that between the names
pub dotted-lacks : (byte : ℕ) → IsForeign byte → nat_eq 46 byte ≡ false → (p : List (List ℕ)) → AllByRecursion IsIdentifier p → Lacks byte (dotted p)
dotted-lacks byte foreign apart [] all = tt
dotted-lacks byte foreign apart (n ∷ p) all = (
  λ same. false≢true (sym apart ∙ eq-eqb 46 byte same),
  lacks-append byte n (dotted p) (identifier-lacks byte foreign n all.0) (dotted-lacks byte foreign apart p all.1),
)

slash-lacks : (p : List (List ℕ)) → AllByRecursion IsIdentifier p → Lacks 47 (path_text p)
slash-lacks p all = lacks-append 47 (codes "root") (dotted p) (lacks-by 47 (codes "root") refl) (dotted-lacks 47 slash refl p all)

-- two names that are the same have the same path, and are called the same there
pub behind-same : (p q : List (List ℕ)) (x y : List ℕ) → AllByRecursion IsIdentifier p → AllByRecursion IsIdentifier q → path_text p ++ (codes "/" ++ x) ≡ path_text q ++ (codes "/" ++ y) → (p ≡ q) × (x ≡ y)
behind-same p q x y all each e =
    let both = up-to 47 (path_text p) (path_text q) x y (slash-lacks p all) (slash-lacks q each) e in
    (dotted-same p q all each (append_cancel_left (codes "root") (dotted p) (dotted q) both.0), both.1)
