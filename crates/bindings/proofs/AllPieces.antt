-- The pieces of a section are all of its tokens.
use Rattle.std.proofs.Common.{◌≡◌, ℕ, ◌+◌, Bool, true, false, List, [], ◌∷◌, ◌++◌, count_by, cond, ◌&&◌, flat_map, refl, sym, ◌∙◌, ap, arith, append_assoc, append-nil}
use Rattle.std.specs.Prelude.{if◌then◌else◌, codes, bytes_eq}
use Rattle.std.proofs.lemmas.Bool.Decides.{Decides-eqb}
use Rattle.std.proofs.lemmas.List.Sums.{sum_by-append, sum_by-cons}
use Rattle.std.proofs.lemmas.Slice.Eq.{bytes_eq-Decides}
use Rattle.aadl_syntax.specs.declared.token.Token.{Token}
use Rattle.aadl_syntax.specs.declared.token.TokenKind.{TokenKind}
use Rattle.aadl_syntax.specs.declared.token.TokenKind.TheVariants.{Word, Number, Text, Sign, AnnexBegin, AnnexRaw, AnnexEnd}
use Rattle.grammar_rules.specs.Spans.{opens, closes, is_even}
use Rattle.grammar_rules.specs.Tokens.{is_kind, is_sign, same_kind}
use Rattle.bindings.specs.Pieces.{ends_piece, pieces_after}

-- ---- a semicolon is no bracket

semicolon-is : (kind : TokenKind) (text : List ℕ) → (same_kind kind Sign && bytes_eq text (codes ";")) ≡ true → (kind ≡ Sign) × (text ≡ codes ";")
semicolon-is Word text is = absurd cc
semicolon-is Number text is = absurd cc
semicolon-is Text text is = absurd cc
semicolon-is Sign text is = (refl, (bytes_eq-Decides text (codes ";")).0 is)
semicolon-is AnnexBegin text is = absurd cc
semicolon-is AnnexRaw text is = absurd cc
semicolon-is AnnexEnd text is = absurd cc

opens-not : (t : Token) → is_sign (codes ";") t ≡ true → opens t ≡ false
unfolding is_sign is_kind opens
opens-not t is = let (kind, text) = semicolon-is t.kind t.text is in λ i. opens (record t { kind = kind i; text = text i })

closes-not : (t : Token) → is_sign (codes ";") t ≡ true → closes t ≡ false
unfolding is_sign is_kind closes
closes-not t is = let (kind, text) = semicolon-is t.kind t.text is in λ i. closes (record t { kind = kind i; text = text i })

-- ---- what stands behind a piece is even

counts-behind : (test : Token → Bool) (passed : List Token) (t : Token) (ts : List Token) → test t ≡ false → count_by test (passed ++ t ∷ ts) ≡ count_by test passed + count_by test ts
counts-behind test passed t ts fails =
    let count : Bool → ℕ = λ b. cond b 1 0 in
    let both = sum_by-append (λ x. count (test x)) passed (t ∷ ts) in
    let one = sum_by-cons (λ x. count (test x)) t ts in
    let none : count (test t) ≡ count false = ap count fails in
    omega (arith, both, one, none)

even-behind : (passed : List Token) (t : Token) (ts : List Token) → is_sign (codes ";") t ≡ true → is_even passed ≡ true → is_even (passed ++ t ∷ ts) ≡ true → is_even ts ≡ true
unfolding is_even
even-behind passed t ts is front whole =
    let before = (Decides-eqb (count_by opens passed) (count_by closes passed)).0 front in
    let all = (Decides-eqb (count_by opens (passed ++ t ∷ ts)) (count_by closes (passed ++ t ∷ ts))).0 whole in
    let opened = counts-behind opens passed t ts (opens-not t is) in
    let closed = counts-behind closes passed t ts (closes-not t is) in
    (Decides-eqb (count_by opens ts) (count_by closes ts)).1 (omega (arith, before, all, opened, closed))

-- ---- all pieces

both-true : (a b : Bool) → (a && b) ≡ true → (a ≡ true) × (b ≡ true)
both-true true true is = (refl, refl)
both-true true false is = absurd cc
both-true false b is = absurd cc

-- the pieces one after the other
abbrev joined : List (List Token) → List Token
joined pieces = flat_map (λ piece. piece) pieces

-- where these are passed, and behind them stand these tokens and a last one
abbrev AreAll : List Token → List Token → Token → Type 0
AreAll passed tokens last = joined (pieces_after passed (tokens ++ last ∷ [])) ≡ passed ++ (tokens ++ last ∷ [])

ends-last : (passed : List Token) (last : Token) → is_even passed ≡ true → is_sign (codes ";") last ≡ true → AreAll passed [] last
ends-last passed last even is =
    let ends : ends_piece passed last ≡ true = λ i. even i && is i in
    ap (λ (b : Bool). joined (if b then (passed ++ last ∷ []) ∷ [] else [])) ends ∙ append-nil (passed ++ last ∷ [])

one-more : (passed : List Token) (t : Token) (ts : List Token) (last : Token) → ((front : List Token) → is_even (front ++ ts) ≡ true → AreAll front ts last) → is_even (passed ++ t ∷ ts) ≡ true
    → (b : Bool) → ends_piece passed t ≡ b → AreAll passed (t ∷ ts) last
one-more passed t ts last more even true ends =
    let (front, is) = both-true (is_even passed) (is_sign (codes ";") t) ends in
    let rest = more [] (even-behind passed t ts is front even) in
    ap (λ (b : Bool). joined (if b then (passed ++ t ∷ []) ∷ pieces_after [] (ts ++ last ∷ []) else pieces_after (passed ++ t ∷ []) (ts ++ last ∷ []))) ends
    ∙ ap (λ tokens. (passed ++ t ∷ []) ++ tokens) rest ∙ append_assoc passed (t ∷ []) (ts ++ last ∷ [])
one-more passed t ts last more even false ends =
    let rest = more (passed ++ t ∷ []) (ap is_even (append_assoc passed (t ∷ []) ts) ∙ even) in
    ap (λ (b : Bool). joined (if b then (passed ++ t ∷ []) ∷ pieces_after [] (ts ++ last ∷ []) else pieces_after (passed ++ t ∷ []) (ts ++ last ∷ []))) ends
    ∙ rest ∙ append_assoc passed (t ∷ []) (ts ++ last ∷ [])

pub all-pieces : (passed tokens : List Token) (last : Token) → is_even (passed ++ tokens) ≡ true → is_sign (codes ";") last ≡ true → AreAll passed tokens last
all-pieces passed [] last even is = ends-last passed last (ap is_even (sym (append-nil passed)) ∙ even) is
all-pieces passed (t ∷ ts) last even is = one-more passed t ts last (λ front front_even. all-pieces front ts last front_even is) even (ends_piece passed t) refl
