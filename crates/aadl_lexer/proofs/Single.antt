-- A text has at most one list of tokens or one fault.
use Rattle.std.proofs.Common.{◌≡◌, ℕ, ◌+◌, ◌<◌, Bool, true, false, List, [], ◌∷◌, ◌++◌, length, take, drop, ◌-◌, Option, Some, refl, sym, ap, subst, ◌∙◌, inl, inr, append_assoc, add_assoc, add-zero, zero-add, append-nil, arith}
use Rattle.std.proofs.lemmas.List.{length-append, append_cancel_left, take_at, take_rest}
use Rattle.aadl_syntax.specs.declared.token.Token.{Token}
use Rattle.aadl_syntax.specs.declared.token.TokenKind.{TokenKind}
use Rattle.aadl_syntax.specs.declared.token.TokenKind.TheVariants.{AnnexBegin, AnnexEnd}
use Rattle.plain_values.specs.declared.refusal.Code.{Code}
use Rattle.plain_values.specs.declared.refusal.Stop.{Stop}
use Rattle.plain_values.specs.declared.refusal.Stop.TheVariants.{Refused, Memory}
use Rattle.aadl_syntax.specs.Token.{token_of}
use Rattle.aadl_lexer.specs.Tokens.{Piece, AreCut, IsRead, StopsReading, IsForm, IsLongest, IsPlain, NothingBegins, IsBadByte, IsOpenString, IsOpenAnnex, IsStuck, IsAnnex, IsBody, IsFirstEnd, InAnnex, InCore, StuckInAnnex, StopsInside, StuckInCore, Tokens, IsFault, RefusedAs, annex_begin, annex_end, tokens_of}
use Rattle.aadl_lexer.proofs.Cuts.{bytes_of, tokens_in, IsSoFar, stops_so_far}
use Rattle.aadl_lexer.proofs.Fronts.{form_nil, one_kind, annex_front}

-- two fronts of one length are the same
same_fronts : (p q r s : List ℕ) → p ++ r ≡ q ++ s → length p ≡ length q → (p ≡ q) × (r ≡ s)
same_fronts p q r s e l =
    let same : p ≡ q = sym (take_at p r (length q) l) ∙ ap (λ (x : List ℕ). take (length q) x) e ∙ take_at q s (length q) refl in
    (same, append_cancel_left p r s (e ∙ ap (λ (x : List ℕ). x ++ s) (sym same)))

-- ---- any rule that determines its piece

-- A rule with the texts that cannot go on: a piece takes bytes, a text has at most one piece or one fault.
pub record IsDetermined (PieceRule : List Token → ℕ → Piece → List ℕ → Type 0) (Stuck : List Token → ℕ → List ℕ → Code → ℕ → Type 0) : Type 0 where
  pub filled : (before : List Token) (at : ℕ) (p : Piece) (r : List ℕ) → PieceRule before at p r → 0 < length p.bytes
  pub same : (before : List Token) (at : ℕ) (p q : Piece) (r s : List ℕ) → p.bytes ++ r ≡ q.bytes ++ s → PieceRule before at p r → PieceRule before at q s → (p ≡ q) × (r ≡ s)
  pub stuck : (before : List Token) (at : ℕ) (p : Piece) (r text : List ℕ) (code : Code) (place : ℕ) → text ≡ p.bytes ++ r → PieceRule before at p r → Stuck before at text code place → ⊥
  pub some : (before : List Token) (at : ℕ) (code : Code) (place : ℕ) → Stuck before at [] code place → ⊥
  pub one : (before : List Token) (at : ℕ) (text : List ℕ) (c d : Code) (m n : ℕ) → Stuck before at text c m → Stuck before at text d n → (c ≡ d) × (m ≡ n)

module _ (PieceRule : List Token → ℕ → Piece → List ℕ → Type 0) (Stuck : List Token → ℕ → List ℕ → Code → ℕ → Type 0) (det : IsDetermined PieceRule Stuck) where
  -- no piece stands at the front of the text
  Ended : List Token → ℕ → List ℕ → Type 0
  Ended before at text = (p : Piece) (r : List ℕ) → text ≡ p.bytes ++ r → PieceRule before at p r → ⊥

  nil_ended : (before : List Token) (at : ℕ) → Ended before at []
  unfolding Ended
  nil_ended before at p r e h = absurd (omega (arith, det.filled before at p r h, ap length e, length-append p.bytes r))

  stuck_ended : (before : List Token) (at : ℕ) (text : List ℕ) (code : Code) (place : ℕ) → Stuck before at text code place → Ended before at text
  unfolding Ended
  stuck_ended before at text code place k p r e h = det.stuck before at p r text code place e h k

  -- the same pieces, as far as no piece more stands
  one_cut : (before : List Token) (at : ℕ) (ps qs : List Piece) (r s : List ℕ) → bytes_of ps ++ r ≡ bytes_of qs ++ s
      → AreCut PieceRule before at ps r → AreCut PieceRule before at qs s
      → Ended (before ++ tokens_in ps) (at + length (bytes_of ps)) r → Ended (before ++ tokens_in qs) (at + length (bytes_of qs)) s
      → (ps ≡ qs) × (r ≡ s)
  unfolding Ended
  one_cut before at [] [] r s e cut other end last = (refl, e)
  one_cut before at [] (q ∷ qs) r s e cut other end last =
      let P : List Token → Type 0 = λ b. PieceRule b at q (bytes_of qs ++ s) in
      let Q : ℕ → Type 0 = λ n. PieceRule (before ++ []) n q (bytes_of qs ++ s) in
      absurd (end q (bytes_of qs ++ s) (e ∙ append_assoc q.bytes (bytes_of qs) s) (subst Q (sym (add-zero at)) (subst P (sym (append-nil before)) other.0)))
  one_cut before at (p ∷ ps) [] r s e cut other end last =
      let P : List Token → Type 0 = λ b. PieceRule b at p (bytes_of ps ++ r) in
      let Q : ℕ → Type 0 = λ n. PieceRule (before ++ []) n p (bytes_of ps ++ r) in
      absurd (last p (bytes_of ps ++ r) (sym e ∙ append_assoc p.bytes (bytes_of ps) r) (subst Q (sym (add-zero at)) (subst P (sym (append-nil before)) cut.0)))
  one_cut before at (p ∷ ps) (q ∷ qs) r s e cut other end last =
      let first = det.same before at p q (bytes_of ps ++ r) (bytes_of qs ++ s) (sym (append_assoc p.bytes (bytes_of ps) r) ∙ e ∙ append_assoc q.bytes (bytes_of qs) s) cut.0 other.0 in
      let C : Piece → Type 0 = λ k. AreCut PieceRule (before ++ k.tokens) (at + length k.bytes) qs s in
      let E : List Token → ℕ → List ℕ → Type 0 = λ b n x. (k : Piece) (y : List ℕ) → x ≡ k.bytes ++ y → PieceRule b n k y → ⊥ in
      let place : (k : Piece) (ks : List Piece) → at + length (k.bytes ++ bytes_of ks) ≡ at + length k.bytes + length (bytes_of ks) = λ k ks. ap (λ (n : ℕ). at + n) (length-append k.bytes (bytes_of ks)) ∙ sym (add_assoc at (length k.bytes) (length (bytes_of ks))) in
      let end' : E (before ++ p.tokens ++ tokens_in ps) (at + length p.bytes + length (bytes_of ps)) r =
      subst (λ (n : ℕ). E (before ++ p.tokens ++ tokens_in ps) n r) (place p ps) (subst (λ (b : List Token). E b (at + length (p.bytes ++ bytes_of ps)) r) (sym (append_assoc before p.tokens (tokens_in ps))) end) in
      let last' : E (before ++ q.tokens ++ tokens_in qs) (at + length q.bytes + length (bytes_of qs)) s =
      subst (λ (n : ℕ). E (before ++ q.tokens ++ tokens_in qs) n s) (place q qs) (subst (λ (b : List Token). E b (at + length (q.bytes ++ bytes_of qs)) s) (sym (append_assoc before q.tokens (tokens_in qs))) last) in
      let last'' : E (before ++ p.tokens ++ tokens_in qs) (at + length p.bytes + length (bytes_of qs)) s = subst (λ (k : Piece). E (before ++ k.tokens ++ tokens_in qs) (at + length k.bytes + length (bytes_of qs)) s) (sym first.0) last' in
      let more = one_cut (before ++ p.tokens) (at + length p.bytes) ps qs r s first.1 cut.1 (subst C (sym first.0) other.1) end' last'' in
      ((λ i. first.0 i ∷ more.0 i), more.1)

  pub one_read : (at : ℕ) (text : List ℕ) (a b : List Token) → IsRead PieceRule at text a [] → IsRead PieceRule at text b [] → a ≡ b
  one_read at text a b h k =
      let same = one_cut [] at h.pieces k.pieces [] [] (sym h.whole ∙ k.whole) h.cut k.cut (nil_ended _ _) (nil_ended _ _) in
      h.given ∙ ap tokens_in same.0 ∙ sym k.given

  pub read_or_stop : (at : ℕ) (text : List ℕ) (a : List Token) (code : Code) (place : ℕ) → IsRead PieceRule at text a [] → StopsReading PieceRule Stuck at text code place → ⊥
  read_or_stop at text a code place h k =
      let same = one_cut [] at h.pieces k.pieces [] k.rest (sym h.whole ∙ k.whole) h.cut k.cut (nil_ended _ _) (stuck_ended _ _ k.rest code place k.stuck) in
      det.some _ _ code place (subst (λ (x : List ℕ). Stuck (tokens_in k.pieces) (at + length (bytes_of k.pieces)) x code place) (sym same.1) k.stuck)

  pub one_stop : (at : ℕ) (text : List ℕ) (c d : Code) (m n : ℕ) → StopsReading PieceRule Stuck at text c m → StopsReading PieceRule Stuck at text d n → (c ≡ d) × (m ≡ n)
  one_stop at text c d m n h k =
      let same = one_cut [] at h.pieces k.pieces h.rest k.rest (sym h.whole ∙ k.whole) h.cut k.cut (stuck_ended _ _ h.rest c m h.stuck) (stuck_ended _ _ k.rest d n k.stuck) in
      let P : List Piece → Type 0 = λ x. Stuck (tokens_in x) (at + length (bytes_of x)) k.rest d n in
      let Q : List ℕ → Type 0 = λ x. Stuck (tokens_in h.pieces) (at + length (bytes_of h.pieces)) x d n in
      det.one _ _ h.rest c d m n h.stuck (subst Q (sym same.1) (subst P (sym same.0) k.stuck))

-- ---- the rules of the two sorts of text

form_filled : (annexes : Bool) (kind : Option TokenKind) (bytes : List ℕ) → IsForm annexes kind bytes → 0 < length bytes
form_filled annexes kind [] h = absurd (form_nil annexes kind h)
form_filled annexes kind (b ∷ x) h = omega arith

one_longest : (annexes : Bool) (k l : Option TokenKind) (p q r s : List ℕ) → p ++ r ≡ q ++ s → IsLongest annexes k p r → IsLongest annexes l q s → (k ≡ l) × (p ≡ q) × (r ≡ s)
one_longest annexes k l p q r s e h i =
    let less = h.longest l q s e i.form in
    let more = i.longest k p r (sym e) h.form in
    let same = same_fronts p q r s e (omega (arith, less, more)) in
    (one_kind annexes k l q (subst (IsForm annexes k) same.0 h.form) i.form, same.0, same.1)

plain_same : (annexes : Bool) (at : ℕ) (p q : Piece) (r s : List ℕ) → p.bytes ++ r ≡ q.bytes ++ s → IsPlain annexes at p r → IsPlain annexes at q s → (p ≡ q) × (r ≡ s)
plain_same annexes at p q r s e h i =
    let one = one_longest annexes h.kind i.kind p.bytes q.bytes r s e h.longest i.longest in
    let tokens : p.tokens ≡ q.tokens = h.given ∙ ap (λ (k : Option TokenKind). tokens_of k at p.bytes) one.0 ∙ ap (λ (x : List ℕ). tokens_of i.kind at x) one.1 ∙ sym i.given in
    ((λ j. record { bytes = one.1 j; tokens = tokens j }), one.2)

-- where `{**` begins an annex no plain piece stands
plain_no_annex : (at : ℕ) (p : Piece) (r rest : List ℕ) → p.bytes ++ r ≡ annex_begin ++ rest → IsPlain true at p r → ⊥
plain_no_annex at p r rest e h =
    let one = one_longest true h.kind (Some AnnexBegin) p.bytes annex_begin r rest e h.longest (annex_front rest).longest in
    h.no_annex one.0

stuck_some : (annexes : Bool) (code : Code) → IsStuck annexes code [] → ⊥
stuck_some annexes code (inl k) = let e : [] ≡ k.1.first ∷ k.1.rest = k.1.whole in absurd cc
stuck_some annexes code (inr (inl k)) = let e : [] ≡ 34 ∷ k.1.rest = k.1.whole in absurd cc
stuck_some annexes code (inr (inr k)) = let e : [] ≡ 123 ∷ 42 ∷ 42 ∷ k.1.rest = k.1.whole in absurd cc

stuck_plain : (annexes : Bool) (at : ℕ) (p : Piece) (r text : List ℕ) (code : Code) → text ≡ p.bytes ++ r → IsPlain annexes at p r → IsStuck annexes code text → ⊥
stuck_plain annexes at p r text code e h (inl k) = k.1.nothing h.kind p.bytes r e h.longest.form
stuck_plain annexes at p r text code e h (inr (inl k)) = k.1.nothing h.kind p.bytes r e h.longest.form
stuck_plain annexes at p r text code e h (inr (inr k)) = plain_no_annex at p r k.1.rest (sym e ∙ k.1.whole) (subst (λ (a : Bool). IsPlain a at p r) k.1.allowed h)

-- something begins where an annex does
annex_begins : (annexes : Bool) (text : List ℕ) → NothingBegins annexes text → IsOpenAnnex annexes text → ⊥
annex_begins annexes text nothing k = nothing (Some AnnexBegin) annex_begin k.rest k.whole (k.allowed, refl)

quote_or_not : (annexes : Bool) (text : List ℕ) → IsBadByte annexes text → IsOpenString annexes text → ⊥
quote_or_not annexes text h k = let e : h.first ∷ h.rest ≡ 34 ∷ k.rest = sym h.whole ∙ k.whole in h.no_quote (cc)

stuck_code : (annexes : Bool) (text : List ℕ) (c d : Code) → IsStuck annexes c text → IsStuck annexes d text → c ≡ d
stuck_code annexes text c d (inl h) (inl k) = h.0 ∙ sym k.0
stuck_code annexes text c d (inl h) (inr (inl k)) = absurd (quote_or_not annexes text h.1 k.1)
stuck_code annexes text c d (inl h) (inr (inr k)) = absurd (annex_begins annexes text h.1.nothing k.1)
stuck_code annexes text c d (inr (inl h)) (inl k) = absurd (quote_or_not annexes text k.1 h.1)
stuck_code annexes text c d (inr (inl h)) (inr (inl k)) = h.0 ∙ sym k.0
stuck_code annexes text c d (inr (inl h)) (inr (inr k)) = absurd (annex_begins annexes text h.1.nothing k.1)
stuck_code annexes text c d (inr (inr h)) (inl k) = absurd (annex_begins annexes text k.1.nothing h.1)
stuck_code annexes text c d (inr (inr h)) (inr (inl k)) = absurd (annex_begins annexes text k.1.nothing h.1)
stuck_code annexes text c d (inr (inr h)) (inr (inr k)) = h.0 ∙ sym k.0

pub annex_determined : IsDetermined InAnnex StuckInAnnex
annex_determined = record {
  filled = λ before at p r h. form_filled false h.kind p.bytes h.longest.form;
  same = λ before at p q r s e h i. plain_same false at p q r s e h i;
  stuck = λ before at p r text code place e h k. stuck_plain false at p r text code e h k.0;
  some = λ before at code place k. stuck_some false code k.0;
  one = λ before at text c d m n h k. (stuck_code false text c d h.0 k.0, h.1 ∙ sym k.1);
}

-- ---- annexes

-- a whole annex has one body
one_body : (b c r s : List ℕ) → b ++ (annex_end ++ r) ≡ c ++ (annex_end ++ s) → IsFirstEnd b r → IsFirstEnd c s → (b ≡ c) × (r ≡ s)
one_body b c r s e h k =
    let less = h.first c s e in
    let more = k.first b r (sym e) in
    let same = same_fronts b c (annex_end ++ r) (annex_end ++ s) e (omega (arith, less, more)) in
    (same.0, append_cancel_left annex_end r s same.1)

-- the text of a whole annex
annex_text : (before : List Token) (at : ℕ) (p : Piece) (r : List ℕ) (a : IsAnnex before at p r) → p.bytes ++ r ≡ annex_begin ++ (a.body ++ (annex_end ++ r))
annex_text before at p r a = ap (λ (x : List ℕ). x ++ r) a.whole ∙ ap (λ (x : List ℕ). annex_begin ++ x) (append_assoc a.body annex_end r)

body_same : (before : List Token) (at : ℕ) (body : List ℕ) (a b : List Token) → IsBody before at body a → IsBody before at body b → a ≡ b
body_same before at body a b (inl h) (inl k) = one_read InAnnex StuckInAnnex annex_determined at body a b h.1 k.1
body_same before at body a b (inl h) (inr k) = absurd (k.0 h.0)
body_same before at body a b (inr h) (inl k) = absurd (h.0 k.0)
body_same before at body a b (inr h) (inr k) = h.1 ∙ sym k.1

annex_same : (before : List Token) (at : ℕ) (p q : Piece) (r s : List ℕ) → p.bytes ++ r ≡ q.bytes ++ s → IsAnnex before at p r → IsAnnex before at q s → (p ≡ q) × (r ≡ s)
annex_same before at p q r s e h k =
    let texts = append_cancel_left annex_begin (h.body ++ (annex_end ++ r)) (k.body ++ (annex_end ++ s)) (sym (annex_text before at p r h) ∙ e ∙ annex_text before at q s k) in
    let body = one_body h.body k.body r s texts h.ended k.ended in
    let inner = body_same before (at + 3) k.body h.inner k.inner (subst (λ (x : List ℕ). IsBody before (at + 3) x h.inner) body.0 h.gives) k.gives in
    let bytes : p.bytes ≡ q.bytes = h.whole ∙ ap (λ (x : List ℕ). annex_begin ++ (x ++ annex_end)) body.0 ∙ sym k.whole in
    let tokens : p.tokens ≡ q.tokens = h.given
    ∙ ap (λ (x : List Token). token_of AnnexBegin at annex_begin ∷ (x ++ token_of AnnexEnd (at + 3 + length h.body) annex_end ∷ [])) inner
    ∙ ap (λ (x : List ℕ). token_of AnnexBegin at annex_begin ∷ (k.inner ++ token_of AnnexEnd (at + 3 + length x) annex_end ∷ [])) body.0
    ∙ sym k.given in
    ((λ j. record { bytes = bytes j; tokens = tokens j }), body.1)

core_same : (before : List Token) (at : ℕ) (p q : Piece) (r s : List ℕ) → p.bytes ++ r ≡ q.bytes ++ s → InCore before at p r → InCore before at q s → (p ≡ q) × (r ≡ s)
core_same before at p q r s e (inl h) (inl k) = plain_same true at p q r s e h k
core_same before at p q r s e (inl h) (inr k) = absurd (plain_no_annex at p r _ (e ∙ annex_text before at q s k) h)
core_same before at p q r s e (inr h) (inl k) = absurd (plain_no_annex at q s _ (sym e ∙ annex_text before at p r h) k)
core_same before at p q r s e (inr h) (inr k) = annex_same before at p q r s e h k

-- an annex stands at the front of a text that cannot go on
annex_stuck : (before : List Token) (at : ℕ) (p : Piece) (r text : List ℕ) (code : Code) → text ≡ p.bytes ++ r → IsAnnex before at p r → IsStuck true code text → ⊥
annex_stuck before at p r text code e h (inl k) = k.1.nothing (Some AnnexBegin) annex_begin _ (e ∙ annex_text before at p r h) (refl, refl)
annex_stuck before at p r text code e h (inr (inl k)) = k.1.nothing (Some AnnexBegin) annex_begin _ (e ∙ annex_text before at p r h) (refl, refl)
annex_stuck before at p r text code e h (inr (inr k)) = k.1.no_end h.body r (append_cancel_left annex_begin k.1.rest (h.body ++ (annex_end ++ r)) (sym k.1.whole ∙ e ∙ annex_text before at p r h))

-- a text that stops inside an annex is none that cannot go on at its own front
inside_stuck : (before : List Token) (at : ℕ) (text : List ℕ) (c d : Code) (n : ℕ) → IsStuck true c text → StopsInside before at text d n → ⊥
inside_stuck before at text c d n (inl h) k = h.1.nothing (Some AnnexBegin) annex_begin _ k.whole (refl, refl)
inside_stuck before at text c d n (inr (inl h)) k = h.1.nothing (Some AnnexBegin) annex_begin _ k.whole (refl, refl)
inside_stuck before at text c d n (inr (inr h)) k = h.1.no_end k.body k.rest (append_cancel_left annex_begin h.1.rest (k.body ++ (annex_end ++ k.rest)) (sym h.1.whole ∙ k.whole))

inside_annex : (before : List Token) (at : ℕ) (p : Piece) (r text : List ℕ) (code : Code) (place : ℕ) → text ≡ p.bytes ++ r → IsAnnex before at p r → StopsInside before at text code place → ⊥
inside_annex before at p r text code place e h k =
    let texts = append_cancel_left annex_begin (h.body ++ (annex_end ++ r)) (k.body ++ (annex_end ++ k.rest)) (sym (annex_text before at p r h) ∙ sym e ∙ k.whole) in
    let body = one_body h.body k.body r k.rest texts h.ended k.ended in
    from (subst (λ (x : List ℕ). IsBody before (at + 3) x h.inner) body.0 h.gives)
  where
    from : IsBody before (at + 3) k.body h.inner → ⊥
    from (inl i) = read_or_stop InAnnex StuckInAnnex annex_determined (at + 3) k.body h.inner code place i.1 k.stops
    from (inr i) = i.0 k.after

core_stuck : (before : List Token) (at : ℕ) (p : Piece) (r text : List ℕ) (code : Code) (place : ℕ) → text ≡ p.bytes ++ r → InCore before at p r → StuckInCore before at text code place → ⊥
core_stuck before at p r text code place e (inl h) (inl k) = stuck_plain true at p r text code e h k.0
core_stuck before at p r text code place e (inl h) (inr k) = plain_no_annex at p r _ (sym e ∙ k.whole) h
core_stuck before at p r text code place e (inr h) (inl k) = annex_stuck before at p r text code e h k.0
core_stuck before at p r text code place e (inr h) (inr k) = inside_annex before at p r text code place e h k

core_one : (before : List Token) (at : ℕ) (text : List ℕ) (c d : Code) (m n : ℕ) → StuckInCore before at text c m → StuckInCore before at text d n → (c ≡ d) × (m ≡ n)
core_one before at text c d m n (inl h) (inl k) = (stuck_code true text c d h.0 k.0, h.1 ∙ sym k.1)
core_one before at text c d m n (inl h) (inr k) = absurd (inside_stuck before at text c d n h.0 k)
core_one before at text c d m n (inr h) (inl k) = absurd (inside_stuck before at text d c m k.0 h)
core_one before at text c d m n (inr h) (inr k) =
    let body = one_body h.body k.body h.rest k.rest (append_cancel_left annex_begin (h.body ++ (annex_end ++ h.rest)) (k.body ++ (annex_end ++ k.rest)) (sym h.whole ∙ k.whole)) h.ended k.ended in
    one_stop InAnnex StuckInAnnex annex_determined (at + 3) k.body c d m n (subst (λ (x : List ℕ). StopsReading InAnnex StuckInAnnex (at + 3) x c m) body.0 h.stops) k.stops

core_filled : (before : List Token) (at : ℕ) (p : Piece) (r : List ℕ) → InCore before at p r → 0 < length p.bytes
core_filled before at p r (inl h) = form_filled true h.kind p.bytes h.longest.form
core_filled before at p r (inr h) = omega (arith, ap length h.whole)

core_some : (before : List Token) (at : ℕ) (code : Code) (place : ℕ) → StuckInCore before at [] code place → ⊥
core_some before at code place (inl k) = stuck_some true code k.0
core_some before at code place (inr k) = let e : [] ≡ 123 ∷ 42 ∷ 42 ∷ (k.body ++ (annex_end ++ k.rest)) = k.whole in absurd cc

pub core_determined : IsDetermined InCore StuckInCore
core_determined = record { filled = core_filled; same = core_same; stuck = core_stuck; some = core_some; one = core_one }

pub one_list : (bytes : List ℕ) (a b : List Token) → Tokens bytes a → Tokens bytes b → a ≡ b
one_list bytes a b h k = one_read InCore StuckInCore core_determined 0 bytes a b h k

pub list_or_fault : (bytes : List ℕ) (a : List Token) (code : Code) (place : ℕ) → Tokens bytes a → IsFault bytes code place → ⊥
list_or_fault bytes a code place h k = read_or_stop InCore StuckInCore core_determined 0 bytes a code place h k

pub one_fault : (bytes : List ℕ) (c d : Code) (m n : ℕ) → IsFault bytes c m → IsFault bytes d n → (c ≡ d) × (m ≡ n)
one_fault bytes c d m n h k = one_stop InCore StuckInCore core_determined 0 bytes c d m n h k

-- ---- answers

-- a refusal of one fault is one of another that it is
pub refused_more : (file : ℕ) (P Q : Code → ℕ → Type 0) → ((code : Code) (place : ℕ) → P code place → Q code place) → (stop : Stop) → RefusedAs file P stop → RefusedAs file Q stop
refused_more file P Q more Memory r = tt
refused_more file P Q more (Refused refusal) r = (r.0, r.1, r.2, more refusal.code r.0 r.3)

-- bytes that have tokens are not refused
pub no_refusal : (file : ℕ) (bytes : List ℕ) (stop : Stop) → RefusedAs file (IsFault bytes) stop → (list : List Token) → Tokens bytes list → stop ≡ Memory
no_refusal file bytes Memory r list h = refl
no_refusal file bytes (Refused refusal) r list h = absurd (list_or_fault bytes list refusal.code r.0 h r.3)

-- where the pieces so far end, the rest is stuck, and so is the whole
pub refused_there : (file : ℕ) (bytes : List ℕ) (list : List Token) (at : ℕ) → IsSoFar InCore 0 bytes [] list at → (stop : Stop)
    → RefusedAs file (StuckInCore list at (take (length bytes - at) (drop at bytes))) stop → RefusedAs file (IsFault bytes) stop
refused_there file bytes list at so_far stop h = refused_more file _ (IsFault bytes) stuck stop h where
  stuck : (code : Code) (place : ℕ) → StuckInCore list at (take (length bytes - at) (drop at bytes)) code place → IsFault bytes code place
  stuck code place k =
      stops_so_far InCore StuckInCore 0 bytes [] list at so_far code place
      (subst (λ (n : ℕ). StuckInCore so_far.tokens n (drop at bytes) code place) (sym (zero-add at))
      (subst (λ (b : List Token). StuckInCore b at (drop at bytes) code place) so_far.added
      (subst (λ (x : List ℕ). StuckInCore list at x code place) (take_rest bytes at) k)))
