-- Short forms of words.
use Rattle.std.proofs.Common.{◌≡◌, ◌≤◌, ◌<◌, ℕ, Bool, true, false, if◌then◌else◌, List, [], ◌∷◌, length, take, Option, Some, None, codes, arith, get_or, refl, sym, ap, subst}
use Rattle.std.specs.Option.{option_map_or}
use Rattle.std.proofs.lemmas.Bool.{false≢true}
use Rattle.plain_values.specs.Name.{is_same_text}
use Rattle.fta_words.specs.declared.kind.Kind.{Kind}
use Rattle.fta_words.specs.declared.kind.Kind.TheVariants.{Help}
use Rattle.fta_words.specs.Table.{kind_named}
use Rattle.fta_words.specs.Words.{IsPlainWord, is_help_of}
use Rattle.fta_words.specs.inner.Reading.{IsShort}
use Rattle.fta_words.proofs.AllKinds.{name_is_plain}
use Rattle.fta_words.proofs.EachKind.{named_so}

-- a list of two, by its items
pub two_words : (words : List (List ℕ)) (name last : List ℕ) → 2 ≤ length words → length words < 3 → name ≡ get_or words 0 name → last ≡ get_or words 1 last → words ≡ name ∷ last ∷ []
two_words [] name last most less first second = absurd (omega (arith, most))
two_words (word ∷ []) name last most less first second = absurd (omega (arith, most))
two_words (word ∷ next ∷ []) name last most less first second = let a : name ≡ word = first in let b : last ≡ next = second in cc (a, b)
two_words (word ∷ next ∷ more ∷ words) name last most less first second = absurd (omega (arith, less))

-- the name of a command is a plain word
named_plain : (name last : List ℕ) → is_help_of name last ≡ true → IsPlainWord name
named_plain name last is = go (kind_named name) refl is
  where
    go : (k : Option Kind) → kind_named name ≡ k → option_map_or (λ kind. is_same_text last (codes "--help")) k false ≡ true → IsPlainWord name
    go None found same = absurd (false≢true same)
    go (Some k) found same = subst IsPlainWord (sym (named_so name k found)) (name_is_plain k)

-- the name of a command and `--help` are a short form of `help` with that name
pub help_short : (words : List (List ℕ)) (name last : List ℕ) → words ≡ name ∷ last ∷ [] → is_help_of name last ≡ true → IsShort words Help (take 1 words)
help_short words name last are is =
    subst (λ (l : List (List ℕ)). IsShort l Help (take 1 l)) (sym are)
    (record { in_full_is = ap (λ (h : Bool). if h then codes "help" ∷ name ∷ [] else name ∷ last ∷ []) is; plain_words = (named_plain name last is, tt) })
