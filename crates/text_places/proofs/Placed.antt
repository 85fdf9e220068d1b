-- The text on a place, part by part.
use Rattle.std.proofs.Common.{◌≡◌, ◌≤◌, ◌+◌, ◌-◌, ℕ, List, [], ◌∷◌, ◌++◌, take, drop, length, codes, decimal, map, sym, ap, ◌∙◌}
use Rattle.std.specs.Prelude.{max}
use Rattle.std.specs.List.{after_last, count_by, filter}
use Rattle.std.proofs.lemmas.List.{length-drop}
use Rattle.text_places.specs.Places.{begins_character, below, first_line, is_feed, line_front, line_number, line_text, place_text, reached}
use Rattle.text_places.proofs.Feeds.{from_front}

-- the parts of such a text
abbrev written : List ℕ → ℕ → ℕ → List ℕ → List ℕ → List ℕ
written file number at line under = file ++ codes ":" ++ decimal number ++ codes ":" ++ decimal at ++ codes "\n" ++ line ++ codes "\n" ++ under ++ codes "\n"

-- below characters, but the last one, and a caret
abbrev caret : List ℕ → List ℕ
caret characters = map below (take (max 1 (length characters) - 1) characters) ++ codes "^"

-- What was found of a place.
pub record Found (text : List ℕ) (byte : ℕ) (before : List ℕ) (begin : ℕ) (line characters : List ℕ) : Type 0 where
  pub front : before ≡ take byte text
  pub begins : drop begin before ≡ after_last is_feed before
  pub within : begin ≤ length before
  pub line_is : line ≡ first_line (drop begin text)
  pub characters_are : characters ≡ filter begins_character (take (length before - begin + 1) (line ++ 10 ∷ []))

module _ (text : List ℕ) (byte : ℕ) (before : List ℕ) (begin : ℕ) (line characters : List ℕ) (found : Found text byte before begin line characters) where
  front_is : drop begin before ≡ line_front text byte
  front_is = found.begins ∙ ap (after_last is_feed) found.front

  its_line : line ≡ line_text text byte
  its_line =
      found.line_is ∙ ap first_line (from_front text before begin byte found.front found.within ∙ ap (λ l. l ++ drop byte text) front_is)

  pub its_characters : characters ≡ reached text byte
  its_characters =
      let count : length before - begin ≡ length (line_front text byte) = sym (length-drop begin before) ∙ ap length front_is in
      found.characters_are ∙ ap (λ n. filter begins_character (take (n + 1) (line ++ 10 ∷ []))) count
      ∙ ap (λ l. filter begins_character (take (length (line_front text byte) + 1) (l ++ 10 ∷ []))) its_line

  -- the text is that of the place
  pub placed : (file : List ℕ) (feeds at : ℕ) → feeds ≡ count_by is_feed before → at ≡ max 1 (length characters) → written file (feeds + 1) at line (caret characters) ≡ place_text file text byte
  placed file feeds at count column_is =
      ap (λ n. written file (n + 1) at line (caret characters)) (count ∙ ap (count_by is_feed) found.front)
      ∙ ap (λ n. written file (line_number text byte) n line (caret characters)) column_is
      ∙ ap (λ l. written file (line_number text byte) (max 1 (length characters)) l (caret characters)) its_line
      ∙ ap (λ l. written file (line_number text byte) (max 1 (length l)) (line_text text byte) (caret l)) its_characters
