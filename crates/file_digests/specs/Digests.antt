-- The digests of files, as lines.
use Rattle.std.specs.Prelude.{ℕ, List, [], ◌∷◌, ◌++◌, codes}
use Rattle.hex.specs.Hex.{encode_lower}
use Rattle.sha2.specs.Sha256.{sha256}

-- The digest of a file: the SHA-256 of its text in 64 lower-case hexadecimal digits, two blanks, and its name.
abbrev pub digest_text : List ℕ → List ℕ → List ℕ
digest_text name text = encode_lower (sha256 text) ++ (codes "  " ++ name)

-- the digests of files of these names with these texts, in order
unfoldable pub digest_texts : List (List ℕ) → List (List ℕ) → List (List ℕ)
digest_texts [] texts = []
digest_texts (name ∷ names) [] = []
digest_texts (name ∷ names) (text ∷ texts) = digest_text name text ∷ digest_texts names texts

-- the line of a file, as `sha256sum -c` reads it
abbrev pub digest_line : List ℕ → List ℕ → List ℕ
digest_line name text = digest_text name text ++ codes "\n"

-- the lines of files of these names with these texts, in order
unfoldable pub digest_lines : List (List ℕ) → List (List ℕ) → List ℕ
digest_lines [] texts = []
digest_lines (name ∷ names) [] = []
digest_lines (name ∷ names) (text ∷ texts) = digest_line name text ++ digest_lines names texts
