-- Lines: where the first line feed stands, and a line as its front and what follows.
use Rattle.std.proofs.Common.{◌≡◌, ◌<◌, ◌≤◌, ◌+◌, ◌||◌, ℕ, zero, suc, Bool, true, false, cond, if◌then◌else◌, List, [], ◌∷◌, ◌++◌, take, drop, length, get_or, refl, sym, ap, ◌∙◌, arith}
use Rattle.std.specs.Prelude.{not}
use Rattle.std.specs.List.{before_first, list_any, position_or_len}
use Rattle.std.specs.Io.BufRead.{strip_last}
use Rattle.std.proofs.lemmas.List.{drop-append-le, take-append-drop}
use Rattle.std.proofs.Math.Numerals.{one-add}
use Rattle.text_places.specs.Places.{first_line, is_feed}

-- one more
one_more : (n : ℕ) (byte : ℕ) (bytes : List ℕ) → take (1 + n) (byte ∷ bytes) ≡ byte ∷ take n bytes
one_more n byte bytes = ap (λ m. take m (byte ∷ bytes)) (one-add n)

-- whether the first byte is a line feed
first_no : (byte : ℕ) (bytes : List ℕ) → is_feed byte ≡ false → list_any is_feed (byte ∷ bytes) ≡ list_any is_feed bytes
first_no byte bytes is = ap (λ (t : Bool). t || list_any is_feed bytes) is

pub before_no : (byte : ℕ) (bytes : List ℕ) → is_feed byte ≡ false → before_first is_feed (byte ∷ bytes) ≡ byte ∷ before_first is_feed bytes
before_no byte bytes is =
    ap (λ (t : Bool). take (cond (not t) (1 + position_or_len is_feed bytes) 0) (byte ∷ bytes)) is ∙ one_more (position_or_len is_feed bytes) byte bytes

-- no line feed
pub none_in : (text : List ℕ) → ((k : ℕ) → k < length text → is_feed (get_or text k 0) ≡ false) → list_any is_feed text ≡ false
none_in [] none = refl
none_in (byte ∷ bytes) none = first_no byte bytes (none 0 (omega arith)) ∙ none_in bytes (λ k within. none (suc k) (omega arith))

-- the first line feed stands here
pub first_in : (text : List ℕ) (n : ℕ) → n < length text → ((k : ℕ) → k < n → is_feed (get_or text k 0) ≡ false) → is_feed (get_or text n 0) ≡ true
    → (list_any is_feed text ≡ true) × (before_first is_feed text ≡ take n text)
first_in [] n within none is = absurd (omega arith)
first_in (byte ∷ bytes) zero within none is =
    (ap (λ (t : Bool). t || list_any is_feed bytes) is, ap (λ (t : Bool). take (cond (not t) (1 + position_or_len is_feed bytes) 0) (byte ∷ bytes)) is)
first_in (byte ∷ bytes) (suc n) within none is =
    let no = none 0 (omega arith) in
    let rest = first_in bytes n (omega arith) (λ k less. none (suc k) (omega arith)) is in
    (first_no byte bytes no ∙ rest.0, before_no byte bytes no ∙ ap (λ l. byte ∷ l) rest.1)

-- the first line ends there
pub ends_there : (text : List ℕ) (n : ℕ) → n < length text → ((k : ℕ) → k < n → is_feed (get_or text k 0) ≡ false) → is_feed (get_or text n 0) ≡ true → first_line text ≡ strip_last 13 (take n text)
ends_there text n within none is =
    let first = first_in text n within none is in
    ap (λ (t : Bool). if t then strip_last 13 (before_first is_feed text) else text) first.0 ∙ ap (strip_last 13) first.1

-- or not at all
pub ends_nowhere : (text : List ℕ) → ((k : ℕ) → k < length text → is_feed (get_or text k 0) ≡ false) → first_line text ≡ text
ends_nowhere text none = ap (λ (t : Bool). if t then strip_last 13 (before_first is_feed text) else text) (none_in text none)

-- from a place in the front of a text on stand the rest of the front, and what follows
pub from_front : (text before : List ℕ) (begin byte : ℕ) → before ≡ take byte text → begin ≤ length before → drop begin text ≡ drop begin before ++ drop byte text
from_front text before begin byte front within =
    let whole : text ≡ before ++ drop byte text = sym (take-append-drop byte text) ∙ ap (λ l. l ++ drop byte text) (sym front) in
    ap (drop begin) whole ∙ drop-append-le begin before (drop byte text) within
