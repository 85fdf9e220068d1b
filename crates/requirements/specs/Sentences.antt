-- The sentences of requirements, from their words.
use Rattle.std.specs.Prelude.{ℕ, ◌*◌, ◌+◌, ◌-◌, Bool, ◌&&◌, nat_le, cond, codes, List, [], ◌∷◌, length, Option, Some, None, Result, Ok, Err}
use Rattle.plain_values.specs.Name.{is_same_text}
use Rattle.compared_numbers.specs.Compared.{is_limit, is_time}
use Rattle.requirements.specs.declared.words.PlacedWord.{PlacedWord}
use Rattle.requirements.specs.declared.sentence.Sentence.{Sentence}
use Rattle.requirements.specs.declared.sentence.Sentence.TheVariants.{Order, Mixed, Without, Possible, Never, Probability}

-- whether a word is this one
abbrev pub is_word : PlacedWord → List ℕ → Bool
is_word word text = is_same_text word.text text

-- ---- numbers

abbrev pub is_digit : ℕ → Bool
is_digit byte = nat_le 48 byte && nat_le byte 57

-- the number of decimal digits behind a number, if they are such
abbrev pub digits_from : ℕ → List ℕ → Option ℕ
digits_from number [] = Some number
digits_from number (digit ∷ digits) = cond (is_digit digit) (digits_from (number * 10 + (digit - 48)) digits) None

-- the number of one to nine decimal digits, if the text has that form
abbrev pub number_of : List ℕ → Option ℕ
number_of text = cond (nat_le 1 (length text) && nat_le (length text) 9) (digits_from 0 text) None

-- ---- sentences

-- `except` and the tokens of sets behind a number, or nothing; else the place of the word that is wrong
abbrev pub exceptions_of : List PlacedWord → Result (List PlacedWord) ℕ
exceptions_of [] = Ok []
exceptions_of (word ∷ []) = Err word.at
exceptions_of (word ∷ (token ∷ tokens)) = cond (is_word word (codes "except")) (Ok (token ∷ tokens)) (Err word.at)

-- what stands behind `order` and its number
abbrev pub order_from : ℕ → Result (List PlacedWord) ℕ → Result Sentence ℕ
order_from least (Ok tokens) = Ok (Order least tokens)
order_from least (Err at) = Err at

-- the sentence of `order` with this word for its number
abbrev pub order_with : PlacedWord → Option ℕ → List PlacedWord → Result Sentence ℕ
order_with word None more = Err word.at
order_with word (Some least) more = order_from least (exceptions_of more)

abbrev pub order_of : PlacedWord → List PlacedWord → Result Sentence ℕ
order_of word [] = Err word.at
order_of word (number ∷ more) = order_with number (number_of number.text) more

-- the sentence of `mixed` with this group, and with this word for the number
abbrev pub mixed_with : PlacedWord → PlacedWord → Option ℕ → Result Sentence ℕ
mixed_with group word None = Err word.at
mixed_with group word (Some most) = Ok (Mixed group (Some most))

abbrev pub mixed_of : PlacedWord → List PlacedWord → Result Sentence ℕ
mixed_of word [] = Err word.at
mixed_of word (group ∷ []) = Ok (Mixed group None)
mixed_of word (group ∷ (number ∷ [])) = mixed_with group number (number_of number.text)
mixed_of word (group ∷ (number ∷ (other ∷ more))) = Err other.at

abbrev pub without_of : PlacedWord → List PlacedWord → Result Sentence ℕ
without_of word [] = Err word.at
without_of word (event ∷ []) = Ok (Without event)
without_of word (event ∷ (other ∷ more)) = Err other.at

-- a sentence of one word
abbrev pub alone_of : Sentence → List PlacedWord → Result Sentence ℕ
alone_of sentence [] = Ok sentence
alone_of sentence (other ∷ more) = Err other.at

-- the sentence of `probability` with these words for its numbers: one less than 1, and one above 0
abbrev pub probability_within : PlacedWord → PlacedWord → Result Sentence ℕ
probability_within most hours = cond (is_limit most.text) (cond (is_time hours.text) (Ok (Probability most hours)) (Err hours.at)) (Err most.at)

-- the sentence of `probability`: a number, `hours`, and a number
abbrev pub probability_of : PlacedWord → List PlacedWord → Result Sentence ℕ
probability_of word [] = Err word.at
probability_of word (most ∷ []) = Err most.at
probability_of word (most ∷ (unit ∷ [])) = Err unit.at
probability_of word (most ∷ (unit ∷ (hours ∷ []))) = cond (is_word unit (codes "hours")) (probability_within most hours) (Err unit.at)
probability_of word (most ∷ (unit ∷ (hours ∷ (other ∷ more)))) = cond (is_word unit (codes "hours")) (Err other.at) (Err unit.at)

-- The sentence that begins with this word, or the place of the word that is wrong: that behind which one lacks, or the first that has no place.
abbrev pub sentence_of : PlacedWord → List PlacedWord → Result Sentence ℕ
sentence_of word more =
    cond (is_word word (codes "order")) (order_of word more)
    (cond (is_word word (codes "mixed")) (mixed_of word more)
    (cond (is_word word (codes "without")) (without_of word more)
    (cond (is_word word (codes "possible")) (alone_of Possible more)
    (cond (is_word word (codes "never")) (alone_of Never more)
    (cond (is_word word (codes "probability")) (probability_of word more) (Err word.at))))))
