-- Names that have no separator.
use Rattle.std.specs.Prelude.{◌≡◌, ◌≢◌, ◌==◌, ◌||◌, ℕ, Bool, IsTrue, List, [], ◌∷◌, ◌++◌, codes}
use Rattle.std.specs.List.{AllByRecursion, list_any}
use Rattle.aadl_syntax.specs.Form.{is_letter_or_digit}

-- whether a byte may stand in a name: letters, digits, and `_`, `.`, `/`, `:`, `{`, `}`
abbrev pub is_name_byte : ℕ → Bool
is_name_byte byte = is_letter_or_digit byte || list_any (λ sign. byte == sign) (codes "_./:{}")

-- a byte does not stand in a text
abbrev pub Lacks : ℕ → List ℕ → Type 0
Lacks byte text = AllByRecursion (λ other. other ≢ byte) text

-- what stands in no name: a tab, the ends of a line, a blank, a quotation mark, a plus, a comma, and an at sign
abbrev pub separators : List ℕ
separators = 9 ∷ 10 ∷ 13 ∷ 32 ∷ 34 ∷ 43 ∷ 44 ∷ 64 ∷ []

-- A name begins with `root`, all its bytes may stand in a name, and so none is a separator.
pub record IsPlain (name : List ℕ) : Type 0 where
  pub rest : List ℕ
  pub begins : name ≡ codes "root" ++ rest
  pub bytes : AllByRecursion (λ byte. IsTrue (is_name_byte byte)) name
  pub plain : AllByRecursion (λ separator. Lacks separator name) separators
