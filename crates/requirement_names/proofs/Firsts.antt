-- The first of the wrong words that are noted.
use Rattle.std.proofs.Common.{zero, suc, ◌≡◌, ◌≤◌, Bool, true, false, cond, nat_lt, List, [], ◌∷◌, Contains, Some, None, MatchOption, refl, sym, ap, subst, ◌∙◌, arith}
use Rattle.std.specs.List.{AllByRecursion}
use Rattle.std.proofs.lemmas.Bool.Decides.{nat_tests}
use Rattle.requirement_names.specs.declared.mistake.WrongWord.{WrongWord}
use Rattle.requirement_names.specs.Wrong.{noting}
use Rattle.requirement_names.specs.inner.Wrong.{IsFirstOf}

here : (word : WrongWord) (words : List WrongWord) → Contains (word ∷ words) word
here word words = (0, omega arith, refl)

there : (word other : WrongWord) (words : List WrongWord) → Contains words other → Contains (word ∷ words) other
there word other words c = (suc c.0, omega (arith, c.1), c.2)

-- of a word and those behind it one is first
pub record Found (word : WrongWord) (words : List WrongWord) : Type 0 where
  pub first : WrongWord
  pub noted : noting (Some word) words ≡ Some first
  pub is_one : Contains (word ∷ words) first
  pub before_word : first.at ≤ word.at
  pub before_others : AllByRecursion (λ other. first.at ≤ other.at) words

later-one : (b : Bool) (word next : WrongWord) (words : List WrongWord) → nat_lt next.at word.at ≡ b → Found (cond b next word) words → Found word (next ∷ words)
later-one true word next words is found = record {
  first = found.first;
  noted = ap (λ b. noting (Some (cond b next word)) words) is ∙ found.noted;
  is_one = there word found.first (next ∷ words) found.is_one;
  before_word = grind (arith, nat_tests, is, found.before_word);
  before_others = (found.before_word, found.before_others);
}
later-one false word next words is found = record {
  first = found.first;
  noted = ap (λ b. noting (Some (cond b next word)) words) is ∙ found.noted;
  is_one = past found.is_one;
  before_word = found.before_word;
  before_others = (grind (arith, nat_tests, is, found.before_word), found.before_others);
} where
  past : Contains (word ∷ words) found.first → Contains (word ∷ next ∷ words) found.first
  past (zero, fits, same) = (0, omega arith, same)
  past (suc k, fits, same) = (suc (suc k), omega (arith, fits), same)

found-in : (word : WrongWord) (words : List WrongWord) → Found word words
found-in word [] = record {
  first = word;
  noted = refl;
  is_one = here word [];
  before_word = omega arith;
  before_others = tt;
}
found-in word (next ∷ words) = later-one (nat_lt next.at word.at) word next words refl (found-in (cond (nat_lt next.at word.at) next word) words)

pub first-of : (words : List WrongWord) → MatchOption (noting None words) (words ≡ []) (IsFirstOf words)
first-of [] = refl
first-of (word ∷ words) =
    let found = found-in word words in
    subst (λ o. MatchOption o (word ∷ words ≡ []) (IsFirstOf (word ∷ words))) (sym found.noted) (record {
      is_one = found.is_one;
      none_before = (found.before_word, found.before_others);
    })

-- where none is noted first, none is wrong
pub none-noted : (words : List WrongWord) → noting None words ≡ None → words ≡ []
none-noted words none = subst (λ o. MatchOption o (words ≡ []) (IsFirstOf words)) none (first-of words)
