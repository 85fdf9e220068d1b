-- The tokens of texts, and the first text that has none.
use Rattle.std.proofs.Common.{◌≡◌, ◌<◌, ℕ, zero, suc, false, List, [], ◌∷◌, ◌++◌, length, get_or, take, Some, slice_get, refl, sym, ap, subst, ◌∙◌, ◌⊎◌, inl, inr, arith, length-take}
use Rattle.std.specs.List.{AllZip}
use Rattle.std.proofs.lemmas.Bool.{cases_lt}
use Rattle.std.proofs.lemmas.Option.{slice_get_within, slice_get_read, get_or_from_slice_get}
use Rattle.std.proofs.lemmas.List.{get_or-take}
use Rattle.std.specs.Ordering.{is_gt}
use Rattle.aadl_syntax.specs.declared.token.Token.{Token}
use Rattle.plain_values.specs.declared.refusal.Refusal.{Refusal}
use Rattle.plain_values.specs.declared.refusal.Place.TheVariants.{At}
use Rattle.plain_values.specs.declared.refusal.Stop.{Stop}
use Rattle.plain_values.specs.declared.refusal.Stop.TheVariants.{Refused, Memory}
use Rattle.plain_values.specs.Order.{IsClear, IsFirst, refusal_cmp}
use Rattle.plain_values.proofs.OrderLaws.{earlier_file, itself}
use Rattle.aadl_lexer.specs.Tokens.{IsFault, RefusedAs, Tokens}
use Rattle.aadl_lexer.proofs.Single.{list_or_fault, one_fault, one_list}
use Rattle.phases.specs.inner.Meets.{IsMemory}
use Rattle.phases.specs.Phases.{Stops, answers}
use Rattle.phases.specs.inner.Stopped.{status_of}
use Rattle.phases.proofs.Steps.{refused}
use Rattle.fta_run.specs.Files.{AreTokens, LacksTokens}

-- one more pair
pub zip-more : {A B : Type 0} (R : A → B → Type 0) (xs : List A) (ys : List B) (i : ℕ) (x : A) (y : B) → i < length xs → x ≡ get_or xs i x → AllZip R (take i xs) ys → R x y → AllZip R (take (suc i) xs) (ys ++ y ∷ [])
zip-more R [] ys i x y within is zip here = absurd (omega arith)
zip-more R (z ∷ xs) [] zero x y within is zip here = (subst (λ v. R v y) is here, tt)
zip-more R (z ∷ xs) (w ∷ ys) zero x y within is zip here = absurd zip
zip-more R (z ∷ xs) [] (suc i) x y within is zip here = absurd zip
zip-more R (z ∷ xs) (w ∷ ys) (suc i) x y within is zip here = (zip.0, zip-more R xs ys i x y (omega arith) is zip.1 here)

-- the tokens of the text at a place
pub zip_at : (texts : List (List ℕ)) (lists : List (List Token)) (file : ℕ) (d : List ℕ) (e : List Token) → AreTokens texts lists → file < length texts → Tokens (get_or texts file d) (get_or lists file e)
zip_at [] lists file d e zip within = absurd (omega arith)
zip_at (text ∷ texts) [] file d e zip within = absurd zip
zip_at (text ∷ texts) (list ∷ lists) zero d e zip within = zip.0
zip_at (text ∷ texts) (list ∷ lists) (suc file) d e zip within = zip_at texts lists file d e zip.1 (omega arith)

-- the tokens of the text at a place
tokens_at : (texts : List (List ℕ)) (lists : List (List Token)) (file : ℕ) (text : List ℕ) → AreTokens texts lists → slice_get texts file ≡ Some text → Tokens text (get_or lists file [])
tokens_at texts lists file text zip there =
    subst (λ t. Tokens t (get_or lists file [])) (get_or_from_slice_get texts file text text there) (zip_at texts lists file text [] zip (slice_get_within texts file text there))

-- a text and a list of tokens that stand at the place
pub tokens_here : (texts : List (List ℕ)) (lists : List (List Token)) (file : ℕ) (text : List ℕ) (list : List Token) (bytes : List ℕ) (tokens : List Token) → AreTokens texts lists → file < length texts → text ≡ get_or texts file text → list ≡ get_or lists file list → bytes ≡ text → tokens ≡ list → Tokens bytes tokens
tokens_here texts lists file text list bytes tokens zip within is its same also =
    let pair = zip_at texts lists file text list zip within in
    subst (λ b. Tokens b tokens) (sym (same ∙ is)) (subst (Tokens (get_or texts file text)) (sym (also ∙ its)) pair)

-- there are as many lists of tokens as texts
pub length-zip : (texts : List (List ℕ)) (lists : List (List Token)) → AreTokens texts lists → length lists ≡ length texts
length-zip [] [] zip = refl
length-zip [] (list ∷ lists) zip = absurd zip
length-zip (text ∷ texts) [] zip = absurd zip
length-zip (text ∷ texts) (list ∷ lists) zip = ap suc (length-zip texts lists zip.1)

-- texts that have tokens lack none
pub clear_tokens : (texts : List (List ℕ)) (lists : List (List Token)) → AreTokens texts lists → IsClear (LacksTokens texts)
clear_tokens texts lists zip = λ refusal lacks.
    list_or_fault lacks.text (get_or lists lacks.file []) refusal.code lacks.fault.0 (tokens_at texts lists lacks.file lacks.text zip lacks.there) lacks.fault.3

front_at : (texts : List (List ℕ)) (i k : ℕ) (text : List ℕ) → k < i → slice_get texts k ≡ Some text → slice_get (take i texts) k ≡ Some text
front_at texts i k text below there =
    let within : k < length (take i texts) = omega (arith, length-take i texts, slice_get_within texts k text there) in
    slice_get_read (take i texts) (length (take i texts)) k text refl within (sym (get_or-take i texts k text below ∙ get_or_from_slice_get texts k text text there))

there_at : (texts : List (List ℕ)) (file : ℕ) (text : List ℕ) → file < length texts → text ≡ get_or texts file text → slice_get texts file ≡ Some text
there_at texts file text within is = slice_get_read texts (length texts) file text refl within is

-- two refusals of one text are one
one_fault_of : (file : ℕ) (text : List ℕ) (a b : Refusal) → RefusedAs file (IsFault text) (Refused a) → RefusedAs file (IsFault text) (Refused b) → a ≡ b
one_fault_of file text a b h k =
    let same = one_fault text a.code b.code h.0 k.0 h.3 k.3 in
    let place : a.place ≡ b.place = h.1 ∙ ap (λ at. At file at) same.1 ∙ sym k.1 in
    let limit : a.limit ≡ b.limit = h.2 ∙ sym k.2 in
    let code : a.code ≡ b.code = same.0 in
    λ i. record { code = code i; place = place i; limit = limit i }

-- where the texts before have tokens, the refusal of a text is the first
pub first_lacking : (texts : List (List ℕ)) (file : ℕ) (text : List ℕ) (lists : List (List Token)) (refusal : Refusal) → file < length texts → text ≡ get_or texts file text → AreTokens (take file texts) lists → RefusedAs file (IsFault text) (Refused refusal) → IsFirst (LacksTokens texts) refusal
first_lacking texts file text lists refusal within is before fault = record {
  stands = record { file = file; text = text; there = there_at texts file text within is; fault = fault };
  none_before =
      λ other lacks.
      elim (cases_lt lacks.file file) [
        | inl earlier ↦ absurd (clear_tokens (take file texts) lists before other (record { file = lacks.file; text = lacks.text; there = front_at texts file lacks.file lacks.text earlier lacks.there; fault = lacks.fault }))
        | inr not_earlier ↦ elim (cases_lt file lacks.file) [
          | inl later ↦ earlier_file refusal other file lacks.file fault.0 lacks.fault.0 fault.1 lacks.fault.1 later
          | inr not_later ↦
              let number : lacks.file ≡ file = omega arith in
              let same_text : lacks.text ≡ text = sym (is ∙ ap (λ k. get_or texts k text) (sym number) ∙ get_or_from_slice_get texts lacks.file lacks.text text lacks.there) in
              let other_fault : RefusedAs file (IsFault text) (Refused other) = subst (λ t. RefusedAs file (IsFault t) (Refused other)) same_text (subst (λ k. RefusedAs k (IsFault lacks.text) (Refused other)) number lacks.fault) in
              subst (λ r. is_gt (refusal_cmp refusal r) ≡ false) (one_fault_of file text refusal other fault other_fault) (itself refusal)
        ]
      ];
}

-- where the texts before have tokens, what stops a text stops the phase
pub tokens_stop : (texts : List (List ℕ)) (file : ℕ) (text : List ℕ) (lists : List (List Token)) (why : Stop) → file < length texts → text ≡ get_or texts file text → AreTokens (take file texts) lists → RefusedAs file (IsFault text) why
    → Stops (answers (AreTokens texts) (LacksTokens texts)) (status_of why) ⊎ IsMemory (status_of why)
tokens_stop texts file text lists (Refused refusal) within is before fault = refused (first_lacking texts file text lists refusal within is before fault)
tokens_stop texts file text lists Memory within is before fault = inr refl

-- texts have one list of tokens each
pub one_tokens : (texts : List (List ℕ)) (a b : List (List Token)) → AreTokens texts a → AreTokens texts b → a ≡ b
one_tokens [] [] [] h k = refl
one_tokens [] [] (list ∷ lists) h k = absurd k
one_tokens [] (list ∷ lists) b h k = absurd h
one_tokens (text ∷ texts) [] b h k = absurd h
one_tokens (text ∷ texts) (list ∷ lists) [] h k = absurd k
one_tokens (text ∷ texts) (list ∷ lists) (other ∷ others) h k =
    ap (λ l. l ∷ lists) (one_list text list other h.0 k.0) ∙ ap (λ ls. other ∷ ls) (one_tokens texts lists others h.1 k.1)
