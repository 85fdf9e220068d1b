-- Wrong words that are noted part after part, and the first of them.
use Rattle.std.proofs.Common.{◌≡◌, List, [], ◌∷◌, ◌++◌, Option, Some, refl, sym, ap, ◌∙◌}
use Rattle.requirement_names.specs.declared.mistake.WrongWord.{WrongWord}
use Rattle.requirement_names.specs.Wrong.{earlier, noting}

-- one list behind another
pub noting-append : (first : Option WrongWord) (p q : List WrongWord) → noting first (p ++ q) ≡ noting (noting first p) q
noting-append first [] q = refl
noting-append first (word ∷ p) q = noting-append (Some (earlier first word)) p q

-- after one part is noted, the rest is left
pub noted-more : (first next : Option WrongWord) (part rest : List WrongWord) → next ≡ noting first part → noting next rest ≡ noting first (part ++ rest)
noted-more first next part rest noted = ap (λ so_far. noting so_far rest) noted ∙ sym (noting-append first part rest)

-- two parts
pub noted-two : (first one two : Option WrongWord) (p q : List WrongWord) → one ≡ noting first p → two ≡ noting one q → two ≡ noting first (p ++ q)
noted-two first one two p q noted then = then ∙ noted-more first one p q noted

-- four parts
pub noted-four : (none one two three four : Option WrongWord) (p q r s : List WrongWord) → one ≡ noting none p → two ≡ noting one q → three ≡ noting two r → four ≡ noting three s
    → four ≡ noting none (p ++ (q ++ (r ++ s)))
noted-four none one two three four p q r s first second third fourth =
    fourth ∙ noted-more two three r s third ∙ noted-more one two q (r ++ s) second ∙ noted-more none one p (q ++ (r ++ s)) first
