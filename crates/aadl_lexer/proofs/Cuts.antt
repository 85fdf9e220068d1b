-- Texts cut into pieces: one piece more at the end, and that the pieces are determined.
use Rattle.std.proofs.Common.{◌≡◌, ℕ, ◌+◌, ◌≤◌, List, [], ◌∷◌, ◌++◌, length, take, drop, refl, sym, ap, subst, ◌∙◌, append_assoc, add_assoc, add-zero, append-nil, arith}
use Rattle.std.specs.List.{flat_map}
use Rattle.std.proofs.lemmas.List.{length-append, length-drop, take-append-drop, drop-drop, drop_all}
use Rattle.aadl_syntax.specs.declared.token.Token.{Token}
use Rattle.plain_values.specs.declared.refusal.Code.{Code}
use Rattle.aadl_lexer.specs.Tokens.{Piece, AreCut, IsRead, StopsReading}
use Rattle.aadl_lexer.specs.inner.Steps.{Takes, TakesAll}

abbrev pub bytes_of : List Piece → List ℕ
bytes_of ps = flat_map (λ p. p.bytes) ps

abbrev pub tokens_in : List Piece → List Token
tokens_in ps = flat_map (λ p. p.tokens) ps

flat_map_push : {X : Type 0} (f : Piece → List X) (ps : List Piece) (p : Piece) → flat_map f (ps ++ p ∷ []) ≡ flat_map f ps ++ f p
flat_map_push f [] p = append-nil (f p)
flat_map_push f (q ∷ ps) p = ap (λ (x : List _). f q ++ x) (flat_map_push f ps p) ∙ sym (append_assoc (f q) (flat_map f ps) (f p))

module _ (PieceRule : List Token → ℕ → Piece → List ℕ → Type 0) where
  -- one piece more at the end
  pub cut_more : (before : List Token) (at : ℕ) (ps : List Piece) (p : Piece) (rest : List ℕ) → AreCut PieceRule before at ps (p.bytes ++ rest) → PieceRule (before ++ tokens_in ps) (at + length (bytes_of ps)) p rest → AreCut PieceRule before at (ps ++ p ∷ []) rest
  cut_more before at [] p rest cut r =
      let P : List Token → Type 0 = λ b. PieceRule b at p rest in
      let Q : ℕ → Type 0 = λ n. PieceRule (before ++ []) n p rest in
      (subst P (append-nil before) (subst Q (add-zero at) r), tt)
  cut_more before at (q ∷ ps) p rest cut r =
      let joined : bytes_of ps ++ (p.bytes ++ rest) ≡ bytes_of (ps ++ p ∷ []) ++ rest = sym (append_assoc (bytes_of ps) p.bytes rest) ∙ ap (λ (x : List ℕ). x ++ rest) (sym (flat_map_push (λ k. k.bytes) ps p)) in
      let place : at + length (q.bytes ++ bytes_of ps) ≡ at + length q.bytes + length (bytes_of ps) = ap (λ (n : ℕ). at + n) (length-append q.bytes (bytes_of ps)) ∙ sym (add_assoc at (length q.bytes) (length (bytes_of ps))) in
      let P : List ℕ → Type 0 = λ x. PieceRule before at q x in
      let Q : List Token → Type 0 = λ b. PieceRule b (at + length (q.bytes ++ bytes_of ps)) p rest in
      let S : ℕ → Type 0 = λ n. PieceRule (before ++ q.tokens ++ tokens_in ps) n p rest in
      (subst P joined cut.0, cut_more (before ++ q.tokens) (at + length q.bytes) ps p rest cut.1 (subst S place (subst Q (sym (append_assoc before q.tokens (tokens_in ps))) r)))

  -- the tokens so far, and the text that is left
  pub record IsSoFar (at : ℕ) (text : List ℕ) (old new : List Token) (done : ℕ) : Type 0 where
    pub within : done ≤ length text
    pub tokens : List Token
    pub added : new ≡ old ++ tokens
    pub read : IsRead PieceRule at text tokens (drop done text)

  pub none_so_far : (at : ℕ) (text : List ℕ) (old : List Token) → IsSoFar at text old old 0
  none_so_far at text old = record { within = omega arith; tokens = []; added = sym (append-nil old); read = record { pieces = []; cut = tt; whole = refl; given = refl } }

  read_length : (at : ℕ) (text : List ℕ) (tokens : List Token) (done : ℕ) → done ≤ length text → (r : IsRead PieceRule at text tokens (drop done text)) → length (bytes_of r.pieces) ≡ done
  read_length at text tokens done le r = omega (arith, ap length r.whole, length-append (bytes_of r.pieces) (drop done text), length-drop done text)

  pub more_so_far : (at : ℕ) (text : List ℕ) (old new newer : List Token) (done len : ℕ)
      → (s : IsSoFar at text old new done) → Takes (λ p rest. PieceRule s.tokens (at + done) p rest) (drop done text) new newer len → IsSoFar at text old newer (done + len)
  more_so_far at text old new newer done len s t =
      let r = s.read in
      let p : Piece = record { bytes = take len (drop done text); tokens = t.tokens } in
      let rest : drop len (drop done text) ≡ drop (done + len) text = drop-drop len done text in
      let parts : drop done text ≡ p.bytes ++ drop (done + len) text = sym (take-append-drop len (drop done text)) ∙ ap (λ (x : List ℕ). p.bytes ++ x) rest in
      let P : List ℕ → Type 0 = λ x. AreCut PieceRule [] at r.pieces x in
      let Q : List ℕ → Type 0 = λ x. PieceRule s.tokens (at + done) p x in
      let S : List Token → Type 0 = λ b. PieceRule b (at + done) p (drop (done + len) text) in
      let U : ℕ → Type 0 = λ n. PieceRule (tokens_in r.pieces) (at + n) p (drop (done + len) text) in
      let rule = subst U (sym (read_length at text s.tokens done s.within r)) (subst S r.given (subst Q rest t.piece)) in
      record {
        within = omega (arith, t.within, length-drop done text, s.within);
        tokens = s.tokens ++ t.tokens;
        added = t.added ∙ ap (λ (x : List Token). x ++ t.tokens) s.added ∙ append_assoc old s.tokens t.tokens;
        read = record {
          pieces = r.pieces ++ p ∷ [];
          cut = cut_more [] at r.pieces p (drop (done + len) text) (subst P parts r.cut) rule;
          whole = r.whole ∙ ap (λ (x : List ℕ). bytes_of r.pieces ++ x) parts ∙ sym (append_assoc (bytes_of r.pieces) p.bytes (drop (done + len) text)) ∙ ap (λ (x : List ℕ). x ++ drop (done + len) text) (sym (flat_map_push (λ k. k.bytes) r.pieces p));
          given = ap (λ (x : List Token). x ++ t.tokens) r.given ∙ sym (flat_map_push (λ k. k.tokens) r.pieces p);
        };
      }

  pub all_so_far : (at : ℕ) (text : List ℕ) (old new : List Token) (done : ℕ) → IsSoFar at text old new done → length text ≤ done → TakesAll PieceRule at text old new
  all_so_far at text old new done s le =
      let P : List ℕ → Type 0 = λ x. IsRead PieceRule at text s.tokens x in
      record { tokens = s.tokens; added = s.added; read = subst P (drop_all done text le) s.read }

  -- what stops here stops the text
  pub stops_so_far : (Stuck : List Token → ℕ → List ℕ → Code → ℕ → Type 0) (at : ℕ) (text : List ℕ) (old new : List Token) (done : ℕ) (s : IsSoFar at text old new done) (code : Code) (place : ℕ)
      → Stuck s.tokens (at + done) (drop done text) code place → StopsReading PieceRule Stuck at text code place
  stops_so_far Stuck at text old new done s code place k =
      let r = s.read in
      let P : List Token → Type 0 = λ b. Stuck b (at + done) (drop done text) code place in
      let Q : ℕ → Type 0 = λ n. Stuck (tokens_in r.pieces) (at + n) (drop done text) code place in
      record { pieces = r.pieces; rest = drop done text; cut = r.cut; whole = r.whole; stuck = subst Q (sym (read_length at text s.tokens done s.within r)) (subst P r.given k) }
