-- How a text is read as a token.
use Rattle.std.proofs.Common.{◌≡◌, ◌≤◌, ℕ, Bool, true, false, List, [], ◌∷◌, ◌++◌, length, take, drop, slice_index_or, codes, refl, sym, ap, ◌∙◌, arith}
use Rattle.std.proofs.lemmas.Bool.{false≢true}
use Rattle.std.proofs.lemmas.Slice.Eq.{bytes_eq-Decides}
use Rattle.std.proofs.Math.Seq.{drop-cons, take-append_seam}
use Rattle.std.proofs.lemmas.List.{take-append-drop}
use Rattle.plain_values.specs.declared.refusal.Refusal.{Refusal}
use Rattle.page_tokens.specs.Forms.{AreDigits, IsMalformed, IsToken, Said, Says, begins_new, token_text}
use Rattle.std.specs.Prelude.{Option, None, Some}

-- what begins as a token of the second version
pub behind_version : (text : List ℕ) → begins_new text ≡ true → text ≡ codes "v2:" ++ drop 3 text
behind_version text is = sym (take-append-drop 3 text) ∙ ap (λ front. front ++ drop 3 text) ((bytes_eq-Decides (take 3 text) (codes "v2:")).0 is)

-- of two texts of one length with a `:` behind each
one_cut : (a b r s : List ℕ) → length a ≡ length b → a ++ (58 ∷ r) ≡ b ++ (58 ∷ s) → (a ≡ b) × (r ≡ s)
one_cut [] [] r s same is = (refl, cc (is))
one_cut [] (y ∷ ys) r s same is = absurd (omega (arith, same))
one_cut (x ∷ xs) [] r s same is = absurd (omega (arith, same))
one_cut (x ∷ xs) (y ∷ ys) r s same is =
    let first : x ≡ y = cc (is) in
    let later : xs ++ (58 ∷ r) ≡ ys ++ (58 ∷ s) = cc (is) in
    let rest = one_cut xs ys r s (omega (arith, same)) later in
    ((λ i. first i ∷ rest.0 i), rest.1)

one_behind : (a b : List ℕ) → codes "v2:" ++ a ≡ codes "v2:" ++ b → a ≡ b
one_behind a b is = ap (drop 3) is

-- a token of the second version has one reading
pub one_form : (a b r s : List ℕ) → AreDigits a → AreDigits b → token_text a r ≡ token_text b s → (a ≡ b) × (r ≡ s)
one_form a b r s first second is = one_cut a b r s (first.as_many ∙ sym second.as_many) (one_behind (a ++ (58 ∷ r)) (b ++ (58 ∷ s)) is)

pub begins : (text digits rest : List ℕ) → text ≡ token_text digits rest → begins_new text ≡ true
begins text digits rest is = ap begins_new is

-- a text says one thing as a token
said-once : (text : List ℕ) (a b : Option (List ℕ)) (r s : List ℕ) → Says text a r → Says text b s → (a ≡ b) × (r ≡ s)
said-once text None None r s x y = (refl, x.1 ∙ sym y.1)
said-once text None (Some b) r s x y = absurd (false≢true (sym x.0 ∙ begins text b s y.0))
said-once text (Some a) None r s x y = absurd (false≢true (sym y.0 ∙ begins text a r x.0))
said-once text (Some a) (Some b) r s x y =
    let one = one_form a b r s x.1 y.1 (sym x.0 ∙ y.0) in
    (ap (λ (digits : List ℕ). Some digits) one.0, one.1)

pub one_said : (text : List ℕ) (a b : Said) → IsToken text a → IsToken text b → a ≡ b
one_said text a b x y =
    let one = said-once text a.digits b.digits a.rest b.rest x y in
    ap (λ (digits : Option (List ℕ)). record { digits = digits; rest = a.rest }) one.0 ∙ ap (λ (rest : List ℕ). record { digits = b.digits; rest = rest }) one.1

not-both : (text : List ℕ) (a : Option (List ℕ)) (r : List ℕ) (refusal : Refusal) → Says text a r → IsMalformed text refusal → ⊥
not-both text None r refusal x lacks = false≢true (sym x.0 ∙ lacks.begins)
not-both text (Some digits) r refusal x lacks = lacks.lacks digits r x.0 x.1

pub said_or_malformed : (text : List ℕ) (a : Said) (refusal : Refusal) → IsToken text a → IsMalformed text refusal → ⊥
said_or_malformed text a refusal x lacks = not-both text a.digits a.rest refusal x lacks

-- where a text has the digits of a key, they are its front
pub front_is : (text digits rest : List ℕ) → text ≡ digits ++ (58 ∷ rest) → AreDigits digits → take 64 text ≡ digits
front_is text digits rest is are = ap (take 64) is ∙ ap (λ n. take n (digits ++ (58 ∷ rest))) (sym are.as_many) ∙ take-append_seam digits (58 ∷ rest)

-- a text with a `:` behind so many bytes
pub cut_there : (text : List ℕ) → 65 ≤ length text → slice_index_or text 64 0 ≡ 58 → text ≡ take 64 text ++ (58 ∷ drop 65 text)
cut_there text long colon = sym (take-append-drop 64 text) ∙ ap (λ rest. take 64 text ++ rest) (drop-cons text 64 0 (omega (arith, long)) ∙ ap (λ byte. byte ∷ drop 65 text) colon)
