-- Where an annex ends, and what a whole annex is.
use Rattle.std.proofs.Common.{◌≡◌, ℕ, ◌+◌, ◌≤◌, Bool, true, eqb, List, [], ◌∷◌, ◌++◌, length, take, drop, sym, ap, subst, ◌∙◌, inl, inr, append_assoc, arith}
use Rattle.std.specs.Prelude.{◌&&◌}
use Rattle.std.proofs.lemmas.Bool.{eqb-true, and_parts, false≢true, cases_Bool}
use Rattle.std.proofs.lemmas.List.{length-append, length-drop, length-take-le, take-append-drop, drop-drop, take_at}
use Rattle.aadl_syntax.specs.declared.token.Token.{Token}
use Rattle.aadl_syntax.specs.declared.token.TokenKind.TheVariants.{AnnexBegin, AnnexEnd}
use Rattle.aadl_syntax.specs.Token.{token_of}
use Rattle.aadl_lexer.specs.Tokens.{IsBody, IsAnnex, IsFirstEnd, AfterEmv2, annex_begin, annex_end}
use Rattle.aadl_lexer.specs.inner.Steps.{EndsAt, TakesBody, Takes, begins_annex_end}

end_at : (text : List ℕ) → begins_annex_end text ≡ true → text ≡ annex_end ++ drop 3 text
end_at [] t = absurd (false≢true t)
end_at (a ∷ []) t = absurd (false≢true t)
end_at (a ∷ b ∷ []) t = absurd (false≢true t)
end_at (a ∷ b ∷ c ∷ x) t =
    let both = and_parts (eqb a 42 && eqb b 42) (eqb c 125) t in
    let two = and_parts (eqb a 42) (eqb b 42) both.0 in
    let p = eqb-true a 42 two.0 in let q = eqb-true b 42 two.1 in let r = eqb-true c 125 both.1 in cc

-- no `**}` stands before the place, and one stands at it
pub end_found : (text : List ℕ) (at : ℕ) → ((front back : List ℕ) → text ≡ front ++ (annex_end ++ back) → at ≤ length front) → begins_annex_end (drop at text) ≡ true → EndsAt text at
end_found text at earlier t =
    let here = end_at (drop at text) t in
    let rest : drop 3 (drop at text) ≡ drop (at + 3) text = drop-drop 3 at text in
    let long : at + 3 ≤ length text = omega (arith, length-drop at text, ap length here) in
    let front : length (take at text) ≡ at = length-take-le at text (omega arith) in
    let whole : text ≡ take at text ++ (annex_end ++ drop (at + 3) text) = sym (take-append-drop at text) ∙ ap (λ (x : List ℕ). take at text ++ x) (here ∙ ap (λ (x : List ℕ). annex_end ++ x) rest) in
    record {
      within = long;
      whole = whole;
      first = record { first = λ f b e. omega (arith, front, earlier f b (whole ∙ e)) };
    }

-- `{**`, a body and the first `**}` are an annex
pub annex_takes : (text : List ℕ) (before opened filled new : List Token) (at len : ℕ) (is_emv2 : Bool)
    → 3 ≤ length text → take 3 text ≡ annex_begin → EndsAt (drop 3 text) len
    → (is_emv2 ≡ true → AfterEmv2 before) → (AfterEmv2 before → is_emv2 ≡ true)
    → opened ≡ before ++ token_of AnnexBegin at annex_begin ∷ []
    → TakesBody is_emv2 (at + 3) (take len (drop 3 text)) opened filled
    → new ≡ filled ++ token_of AnnexEnd (at + 3 + len) annex_end ∷ []
    → Takes (IsAnnex before at) text before new (len + 6)
annex_takes text before opened filled new at len is_emv2 long opens end emv2 from begin body close =
    let inside = take len (drop 3 text) in
    let rest = drop (len + 6) text in
    let size : length inside ≡ len = length-take-le len (drop 3 text) (omega (arith, end.within)) in
    let after : drop (len + 3) (drop 3 text) ≡ rest = drop-drop (len + 3) 3 text ∙ ap (λ (n : ℕ). drop n text) (omega arith) in
    let parts : text ≡ annex_begin ++ (inside ++ (annex_end ++ rest)) =
    sym (take-append-drop 3 text) ∙ ap (λ (x : List ℕ). x ++ drop 3 text) opens ∙ ap (λ (x : List ℕ). annex_begin ++ x) (end.whole ∙ ap (λ (x : List ℕ). inside ++ (annex_end ++ x)) after) in
    let joined : text ≡ (annex_begin ++ (inside ++ annex_end)) ++ rest = parts ∙ ap (λ (x : List ℕ). annex_begin ++ x) (sym (append_assoc inside annex_end rest)) in
    let whole : take (len + 6) text ≡ annex_begin ++ (inside ++ annex_end) =
    ap (λ (x : List ℕ). take (len + 6) x) joined ∙ take_at (annex_begin ++ (inside ++ annex_end)) rest (len + 6) (omega (arith, length-append inside annex_end, size)) in
    let token_end = token_of AnnexEnd (at + 3 + len) annex_end in
    let added : new ≡ before ++ (token_of AnnexBegin at annex_begin ∷ (body.tokens ++ token_end ∷ [])) =
    close ∙ ap (λ (x : List Token). x ++ token_end ∷ []) (body.added ∙ ap (λ (x : List Token). x ++ body.tokens) begin)
    ∙ append_assoc (before ++ token_of AnnexBegin at annex_begin ∷ []) body.tokens (token_end ∷ [])
    ∙ append_assoc before (token_of AnnexBegin at annex_begin ∷ []) (body.tokens ++ token_end ∷ []) in
    let gives : IsBody before (at + 3) inside body.tokens = elim (cases_Bool is_emv2) [
      | inl t ↦ inl (emv2 t, body.inside t)
      | inr f ↦ inr (λ a. false≢true (sym f ∙ from a), body.raw f)
    ] in
    record {
      some = omega arith;
      within = omega (arith, end.within, length-drop 3 text);
      tokens = token_of AnnexBegin at annex_begin ∷ (body.tokens ++ token_end ∷ []);
      added = added;
      piece = record {
        body = inside;
        inner = body.tokens;
        whole = whole;
        ended = subst (λ (x : List ℕ). IsFirstEnd inside x) after end.first;
        gives = gives;
        given = ap (λ (n : ℕ). token_of AnnexBegin at annex_begin ∷ (body.tokens ++ token_of AnnexEnd (at + 3 + n) annex_end ∷ [])) (sym size);
      };
    }
