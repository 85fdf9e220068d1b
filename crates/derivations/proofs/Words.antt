-- A line, cut into words at its blanks.
use Rattle.std.proofs.Common.{ℕ, suc, ◌+◌, ◌-◌, ◌≡◌, ◌==◌, not, Bool, true, false, cond, List, [], ◌∷◌, ◌++◌, take, drop, ap, ◌∙◌, sym, refl, arith}
use Rattle.std.proofs.lemmas.Bool.{false≢true, eqb-true, and_parts}
use Rattle.std.specs.List.{prefix_len, list_all, slice_range, AllByRecursion}
use Rattle.std.proofs.lemmas.List.{drop-drop}
use Rattle.derivations.specs.Text.{behind_blanks}
use Rattle.derivations.specs.inner.Reading.{Words, cut, one_more, words_behind}

-- a byte that is no blank
abbrev pub unblank : ℕ → Bool
unblank byte = not (byte == 32)

first-by : (b : Bool) (byte k : ℕ) (bytes first : List ℕ) (words later : List (List ℕ)) → first ≡ take k bytes → (cond {A = Words} b (record { first = []; later = words }) (record { first = byte ∷ first; later = later })).first ≡ take (cond (not b) (1 + k) 0) (byte ∷ bytes)
first-by true byte k bytes first words later e = refl
first-by false byte k bytes first words later e = let s : 1 + k ≡ suc k = omega arith in rw s (ap (λ word. byte ∷ word) e)

pub cut-first : (text : List ℕ) → (cut text).first ≡ take (prefix_len unblank text) text
cut-first [] = refl
cut-first (byte ∷ bytes) = first-by (byte == 32) byte (prefix_len unblank bytes) bytes (cut bytes).first (one_more (cut bytes)) (cut bytes).later (cut-first bytes)

later-by : (b : Bool) (byte k : ℕ) (bytes first : List ℕ) (later : List (List ℕ)) → words_behind (drop k bytes) ≡ later → words_behind (drop (cond (not b) (1 + k) 0) (byte ∷ bytes)) ≡ (cond {A = Words} b (record { first = []; later = one_more (cut bytes) }) (record { first = byte ∷ first; later = later })).later
later-by true byte k bytes first later e = refl
later-by false byte k bytes first later e = let s : 1 + k ≡ suc k = omega arith in rw s e

pub cut-later : (text : List ℕ) → words_behind (drop (prefix_len unblank text) text) ≡ (cut text).later
cut-later [] = refl
cut-later (byte ∷ bytes) = later-by (byte == 32) byte (prefix_len unblank bytes) bytes (cut bytes).first (cut bytes).later (cut-later bytes)

joined-by : (b : Bool) (byte : ℕ) (bytes first : List ℕ) (later : List (List ℕ)) → (b ≡ true → byte ≡ 32) → bytes ≡ first ++ behind_blanks later → byte ∷ bytes ≡ (cond {A = Words} b (record { first = []; later = first ∷ later }) (record { first = byte ∷ first; later = later })).first ++ behind_blanks (cond {A = Words} b (record { first = []; later = first ∷ later }) (record { first = byte ∷ first; later = later })).later
unfolding behind_blanks
joined-by true byte bytes first later blank e = ap (λ text. byte ∷ text) e ∙ ap (λ b. b ∷ (first ++ behind_blanks later)) (blank refl)
joined-by false byte bytes first later blank e = ap (λ text. byte ∷ text) e

pub cut-joined : (text : List ℕ) → text ≡ (cut text).first ++ behind_blanks (cut text).later
unfolding behind_blanks
cut-joined [] = refl
cut-joined (byte ∷ bytes) = joined-by (byte == 32) byte bytes (cut bytes).first (cut bytes).later (λ e. eqb-true byte 32 e) (cut-joined bytes)

-- what the end of a word that begins at a place says
pub end-first : (line : List ℕ) (at len : ℕ) → len ≡ prefix_len unblank (drop at line) → slice_range line at (at + len) ≡ (cut (drop at line)).first
end-first line at len e = let s : (at + len) - at ≡ len = omega arith in rw s (rw e (sym (cut-first (drop at line))))

pub end-later : (line : List ℕ) (at len : ℕ) → len ≡ prefix_len unblank (drop at line) → words_behind (drop (at + len) line) ≡ (cut (drop at line)).later
end-later line at len e = ap words_behind (ap (λ n. drop (at + n) line) e ∙ sym (drop-drop (prefix_len unblank (drop at line)) at line)) ∙ cut-later (drop at line)

cond-no : (b : Bool) (x y : Words) → not b ≡ true → cond b x y ≡ y
cond-no true x y e = absurd (false≢true e)
cond-no false x y e = refl

-- no blank is in these words
abbrev pub AreUnblank : List (List ℕ) → Type 0
AreUnblank words = AllByRecursion (λ word. list_all unblank word ≡ true) words

pub cut-words : (first : List ℕ) (words : List (List ℕ)) → list_all unblank first ≡ true → AreUnblank words → cut (first ++ behind_blanks words) ≡ record { first = first; later = words }
unfolding behind_blanks
cut-words [] [] e f = refl
cut-words [] (word ∷ words) e f = ap (λ (more : Words). record { first = []; later = one_more more }) (cut-words word words f.0 f.1)
cut-words (byte ∷ bytes) words e f =
    let parts = and_parts _ _ e in
    cond-no (byte == 32) _ _ parts.0 ∙ ap (λ (more : Words). record { first = byte ∷ more.first; later = more.later }) (cut-words bytes words parts.1 f)
