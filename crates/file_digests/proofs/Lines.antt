-- The lines of files, one after the other.
use Rattle.std.proofs.Common.{◌≡◌, ℕ, List, [], ◌∷◌, ◌++◌, length, arith, append-nil, append_assoc, refl, sym, ap, ◌∙◌}
use Rattle.file_digests.specs.Digests.{digest_line, digest_lines, digest_text, digest_texts}

pub no_names : (text : List ℕ) (names texts : List (List ℕ)) → length names ≡ 0 → text ≡ text ++ digest_lines names texts
unfolding digest_lines
no_names text [] texts none = sym (append-nil text)
no_names text (name ∷ names) texts none = absurd (omega (arith, none))

pub no_texts : (text : List ℕ) (names texts : List (List ℕ)) → length texts ≡ 0 → text ≡ text ++ digest_lines names texts
unfolding digest_lines
no_texts text [] [] none = sym (append-nil text)
no_texts text (name ∷ names) [] none = sym (append-nil text)
no_texts text names (file ∷ texts) none = absurd (omega (arith, none))

-- the line of the first file, and then those of the others
pub as_lines : (text : List ℕ) (names texts : List (List ℕ)) (name file : List ℕ) (names₂ texts₂ : List (List ℕ)) → names ≡ name ∷ names₂ → texts ≡ file ∷ texts₂
    → (text ++ digest_line name file) ++ digest_lines names₂ texts₂ ≡ text ++ digest_lines names texts
unfolding digest_lines
as_lines text names texts name file names₂ texts₂ is also =
    append_assoc text (digest_line name file) (digest_lines names₂ texts₂)
    ∙ ap (λ l. text ++ digest_lines l (file ∷ texts₂)) (sym is) ∙ ap (λ l. text ++ digest_lines names l) (sym also)

-- ---- digests without what ends a line

pub none_of_names : (lines names texts : List (List ℕ)) → length names ≡ 0 → lines ≡ lines ++ digest_texts names texts
unfolding digest_texts
none_of_names lines [] texts none = sym (append-nil lines)
none_of_names lines (name ∷ names) texts none = absurd (omega (arith, none))

pub none_of_texts : (lines names texts : List (List ℕ)) → length texts ≡ 0 → lines ≡ lines ++ digest_texts names texts
unfolding digest_texts
none_of_texts lines [] [] none = sym (append-nil lines)
none_of_texts lines (name ∷ names) [] none = sym (append-nil lines)
none_of_texts lines names (file ∷ texts) none = absurd (omega (arith, none))

-- the digest of the first file, and then those of the others
pub as_texts : (lines names texts : List (List ℕ)) (name file : List ℕ) (names₂ texts₂ : List (List ℕ)) → names ≡ name ∷ names₂ → texts ≡ file ∷ texts₂
    → (lines ++ digest_text name file ∷ []) ++ digest_texts names₂ texts₂ ≡ lines ++ digest_texts names texts
unfolding digest_texts
as_texts lines names texts name file names₂ texts₂ is also =
    append_assoc lines (digest_text name file ∷ []) (digest_texts names₂ texts₂)
    ∙ ap (λ l. lines ++ digest_texts l (file ∷ texts₂)) (sym is) ∙ ap (λ l. lines ++ digest_texts names l) (sym also)
