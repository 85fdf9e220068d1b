-- Marks in a text that grows.
use Rattle.std.proofs.Common.{◌≡◌, ℕ, zero, suc, ◌+◌, ◌-◌, ◌<◌, ◌≤◌, ◌^◌, List, [], ◌∷◌, ◌++◌, length, take, drop, Option, Some, None, Result, Ok, Err, refl, sym, ◌∙◌, ap, subst, arith, length-append, length-drop}
use Rattle.std.proofs.lemmas.List.{length-map}
use Rattle.std.proofs.lemmas.List.{take-append-drop, take-append-le, drop-append-le, drop-take, length-take, map-append}
use Rattle.std.proofs.Math.Seq.{drop-append_seam, take-length}
use Rattle.std.specs.Prelude.{slice_get, MatchOption}
use Rattle.std.specs.Option.{option_map}
use Rattle.std.specs.Result.{OnErr}
use Rattle.std.specs.List.{AllByRecursion, between}
use Rattle.aadl_syntax.specs.Token.{text_of, token_of}
use Rattle.aadl_syntax.specs.inner.Token.{EndsWith, IsTokenText, shown}
use Rattle.aadl_syntax.specs.declared.token.TokenRef.{TokenRef}
use Rattle.aadl_syntax.specs.inner.Marks.{text_at, token_at, tokens_at, IsMark, AreMarks, Grows}
use Rattle.aadl_syntax.specs.declared.token.Token.{Token}
use Rattle.aadl_syntax.specs.declared.token.TokenKind.{TokenKind}
use Rattle.aadl_syntax.specs.declared.token.TokenKind.TheVariants.{Word, Number, Text, Sign, AnnexBegin, AnnexRaw, AnnexEnd}
use Rattle.aadl_syntax.specs.declared.tokens.Mark.{Mark}

between-front : (old rest : List ℕ) (i n : ℕ) → i + n ≤ length old → between i (i + n) (old ++ rest) ≡ between i (i + n) old
between-front old rest i n h =
    let front : i ≤ length old = omega arith in
    let few : (i + n) - i ≤ length (drop i old) = omega (arith, length-drop i old) in
    ap (take ((i + n) - i)) (drop-append-le i old rest front) ∙ take-append-le ((i + n) - i) (drop i old) rest few

between-end : (old more : List ℕ) → between (length old) (length old + length more) (old ++ more) ≡ more
between-end old more =
    let e : (length old + length more) - length old ≡ length more = omega arith in
    ap (λ n. take n (drop (length old) (old ++ more))) e ∙ ap (take (length more)) (drop-append_seam old more) ∙ take-length more

pub length-text_of : (kind : TokenKind) (bytes : List ℕ) → length (text_of kind bytes) ≡ length bytes
length-text_of Word bytes = length-map bytes _
length-text_of Number bytes = refl
length-text_of Text bytes = refl
length-text_of Sign bytes = refl
length-text_of AnnexBegin bytes = refl
length-text_of AnnexRaw bytes = refl
length-text_of AnnexEnd bytes = refl

text-kept : (old rest : List ℕ) (mark : Mark) → IsMark old mark → text_at (old ++ rest) mark ≡ text_at old mark
text-kept old rest mark m = between-front old rest mark.from (mark.end - mark.start) m.within

mark-kept : (old rest : List ℕ) (mark : Mark) → IsMark old mark → IsMark (old ++ rest) mark
mark-kept old rest mark m = record {
  in_order = m.in_order;
  within = let w = m.within in omega (arith, length-append old rest);
  form = subst (λ (text : List ℕ). IsTokenText mark.kind text) (sym (text-kept old rest mark m)) m.form;
}

each-kept : (old rest : List ℕ) (marks : List Mark) → AllByRecursion (IsMark old) marks → AllByRecursion (IsMark (old ++ rest)) marks
each-kept old rest [] p = tt
each-kept old rest (mark ∷ marks) p = (mark-kept old rest mark p.0, each-kept old rest marks p.1)

each-more : (text : List ℕ) (marks : List Mark) (mark : Mark) → AllByRecursion (IsMark text) marks → IsMark text mark → AllByRecursion (IsMark text) (marks ++ mark ∷ [])
each-more text [] mark p m = (m, tt)
each-more text (first ∷ marks) mark p m = (p.0, each-more text marks mark p.1 m)

tokens-kept : (old rest : List ℕ) (marks : List Mark) → AllByRecursion (IsMark old) marks → tokens_at (old ++ rest) marks ≡ tokens_at old marks
tokens-kept old rest [] p = refl
tokens-kept old rest (mark ∷ marks) p =
    ap (λ (text : List ℕ). record { kind = mark.kind; start = mark.start; end = mark.end; text = text } ∷ tokens_at (old ++ rest) marks) (text-kept old rest mark p.0)
    ∙ ap (λ (tokens : List Token). token_at old mark ∷ tokens) (tokens-kept old rest marks p.1)

module _ {old new : List ℕ} {more : ℕ} (g : Grows old new more) where
  whole : new ≡ old ++ drop (length old) new
  whole = sym (take-append-drop (length old) new) ∙ ap (λ (front : List ℕ). front ++ drop (length old) new) g.kept

  pub still_marks : {marks : List Mark} → AreMarks old marks → length old + more < 2 ^ 32 → AreMarks new marks
  still_marks {marks} m h = record {
    each = subst (λ (text : List ℕ). AllByRecursion (IsMark text) marks) (sym whole) (each-kept old (drop (length old) new) marks m.each);
    few = m.few;
    short = let s = g.most in omega arith;
  }

  pub same_tokens : {marks : List Mark} → AreMarks old marks → tokens_at new marks ≡ tokens_at old marks
  same_tokens {marks} m = ap (λ (text : List ℕ). tokens_at text marks) whole ∙ tokens-kept old (drop (length old) new) marks m.each

-- A mark of the text that was added last.
module _ (old new : List ℕ) (kind : TokenKind) (bytes : List ℕ) (mark : Mark) (added : new ≡ old ++ text_of kind bytes) (is_kind : mark.kind ≡ kind) (from : mark.from ≡ length old) (ends : mark.end ≡ mark.start + length bytes) where
  size : mark.end - mark.start ≡ length (text_of kind bytes)
  size = let e = length-text_of kind bytes in omega arith

  its_text : text_at new mark ≡ text_of kind bytes
  its_text = ap (λ (text : List ℕ). text_at text mark) added ∙ ap (λ n. between n (n + (mark.end - mark.start)) (old ++ text_of kind bytes)) from
      ∙ ap (λ n. between (length old) (length old + n) (old ++ text_of kind bytes)) size ∙ between-end old (text_of kind bytes)

  pub is_mark : IsTokenText kind (text_of kind bytes) → IsMark new mark
  is_mark form = record {
    in_order = omega arith;
    within = let l : length new ≡ length old + length (text_of kind bytes) = ap length added ∙ length-append old (text_of kind bytes) in let s = size in omega arith;
    form = subst (λ (text : List ℕ). IsTokenText mark.kind text) (sym its_text) (subst (λ (k : TokenKind). IsTokenText k (text_of kind bytes)) (sym is_kind) form);
  }

  pub its_token : (at : ℕ) → mark.start ≡ at → token_at new mark ≡ token_of kind at bytes
  its_token at start =
      ap (λ (text : List ℕ). record { kind = mark.kind; start = mark.start; end = mark.end; text = text }) its_text
      ∙ ap (λ (k : TokenKind). record { kind = k; start = mark.start; end = mark.end; text = text_of kind bytes }) is_kind
      ∙ ap (λ n. record { kind = kind; start = mark.start; end = n; text = text_of kind bytes }) ends
      ∙ ap (λ n. record { kind = kind; start = n; end = n + length bytes; text = text_of kind bytes }) start

pub one_more : (text : List ℕ) (marks : List Mark) (mark : Mark) → AreMarks text marks → IsMark text mark → length marks + 1 < 2 ^ 32 → AreMarks text (marks ++ mark ∷ [])
one_more text marks mark m is h = record {
  each = each-more text marks mark m.each is;
  few = omega (arith, length-append marks (mark ∷ []));
  short = m.short;
}

pub one_token_more : (text : List ℕ) (marks : List Mark) (mark : Mark) → tokens_at text (marks ++ mark ∷ []) ≡ tokens_at text marks ++ token_at text mark ∷ []
one_token_more text marks mark = map-append (token_at text) marks (mark ∷ [])

pub on_err : {T E : Type 0} {P : Type 0} (r : Result T E) → P → OnErr r P
on_err (Ok x) p = tt
on_err (Err e) p = p

ends_more : (first next : Token) (tokens : List Token) (o : Option Token) → MatchOption o (next ∷ tokens ≡ []) (λ token. EndsWith (next ∷ tokens) token) → MatchOption o (first ∷ next ∷ tokens ≡ []) (λ token. EndsWith (first ∷ next ∷ tokens) token)
ends_more first next tokens None e = absurd cc
ends_more first next tokens (Some token) e = record { earlier = first ∷ e.earlier; whole = ap (λ (rest : List Token). first ∷ rest) e.whole }

ends_with : (tokens : List Token) (n : ℕ) → n ≡ length tokens - 1 → MatchOption (slice_get tokens n) (tokens ≡ []) (λ token. EndsWith tokens token)
ends_with [] n e = refl
ends_with (token ∷ []) zero e = record { earlier = []; whole = refl }
ends_with (token ∷ []) (suc n) e = absurd (omega arith)
ends_with (token ∷ next ∷ tokens) zero e = absurd (omega arith)
ends_with (token ∷ next ∷ tokens) (suc n) e = ends_more token next tokens (slice_get (next ∷ tokens) n) (ends_with (next ∷ tokens) n (omega arith))

pub last_of : (tokens : List Token) (n : ℕ) (found : Option TokenRef) → n ≡ length tokens - 1 → option_map shown found ≡ slice_get tokens n → MatchOption found (tokens ≡ []) (λ token. EndsWith tokens (shown token))
last_of tokens n found e f = either found (subst (λ (o : Option Token). MatchOption o (tokens ≡ []) (λ token. EndsWith tokens token)) (sym f) (ends_with tokens n e)) where
  either : (o : Option TokenRef) → MatchOption (option_map shown o) (tokens ≡ []) (λ token. EndsWith tokens token) → MatchOption o (tokens ≡ []) (λ token. EndsWith tokens (shown token))
  either None p = p
  either (Some token) p = p

abbrev no_items : (X : Type 0) → List X
no_items X = []

drop-none : (X : Type 0) (k : ℕ) → drop k (no_items X) ≡ no_items X
drop-none X zero = refl
drop-none X (suc k) = refl

drop-drop : {X : Type 0} (n m : ℕ) (xs : List X) → drop m (drop n xs) ≡ drop (n + m) xs
drop-drop zero m xs = ap (λ k. drop k xs) (let e : m ≡ 0 + m = omega arith in e)
drop-drop {X = X} (suc n) m [] = drop-none X m ∙ sym (drop-none X (suc n + m))
drop-drop (suc n) m (x ∷ xs) = drop-drop n m xs ∙ ap (λ k. drop k (x ∷ xs)) (let e : suc (n + m) ≡ suc n + m = omega arith in e)

pub between-rest : {X : Type 0} (xs : List X) (from to count : ℕ) → count ≤ length (between from to xs) → between (from + count) to xs ≡ drop count (between from to xs)
between-rest xs from to count h =
    let l = length-take (to - from) (drop from xs) in
    let within : count ≤ to - from = omega arith in
    let left : to - (from + count) ≡ (to - from) - count = omega arith in
    let whole : count + ((to - from) - count) ≡ to - from = omega arith in
    ap (λ n. take n (drop (from + count) xs)) left ∙ ap (take ((to - from) - count)) (sym (drop-drop from count xs))
    ∙ sym (drop-take count ((to - from) - count) (drop from xs)) ∙ ap (λ n. drop count (take n (drop from xs))) whole

pub take-more : {X : Type 0} (xs : List X) (n : ℕ) (x : X) → slice_get xs n ≡ Some x → take (n + 1) xs ≡ take n xs ++ x ∷ []
take-more [] n x e = absurd cc
take-more (y ∷ xs) zero x e = ap (λ (z : _). z ∷ []) (let f : y ≡ x = cc in f)
take-more (y ∷ xs) (suc n) x e = ap (λ k. take k (y ∷ xs)) (let f : suc n + 1 ≡ suc (n + 1) = omega arith in f) ∙ ap (λ (zs : List _). y ∷ zs) (take-more xs n x e)

pub none-there : {X : Type 0} (xs : List X) (n : ℕ) → n < length xs → slice_get xs n ≡ None → ⊥
none-there [] n h e = omega arith
none-there (x ∷ xs) zero h e = absurd cc
none-there (x ∷ xs) (suc n) h e = none-there xs n (omega arith) e

-- the text of a token is folded already
pub its_own : (kind : TokenKind) (text : List ℕ) → IsTokenText kind text → text_of kind text ≡ text
its_own Word text form = form.lower_case
its_own Number text form = refl
its_own Text text form = refl
its_own Sign text form = refl
its_own AnnexBegin text form = refl
its_own AnnexRaw text form = refl
its_own AnnexEnd text form = refl
