-- Marks: what one comes to, and that the line and the column of its byte are found by it.
use Rattle.std.proofs.Common.{◌≡◌, ◌≤◌, ◌<◌, ◌+◌, ◌-◌, ◌==◌, ◌&&◌, ◌||◌, ℕ, zero, suc, Bool, true, false, cond, if◌then◌else◌, List, [], ◌∷◌, ◌++◌, Option, take, drop, length, get_or, reverse, not, nat_lt, min, max, fold, filter, count_by, slice_get, refl, sym, ap, subst, ◌∙◌, append-nil, append_assoc, length-append, length-take-le, eqb-true, lt-ltb, arith}
use Rattle.std.specs.List.{after_last, before_first, list_any, position_or_len, prefix_len, suffix_len}
use Rattle.std.specs.Io.BufRead.{ends_with_byte, strip_last}
use Rattle.std.specs.Option.{option_map_or}
use Rattle.std.proofs.lemmas.Bool.{and_parts, or_parts}
use Rattle.std.proofs.lemmas.List.{drop-append-le, drop_all, drop_min, get_or_push, length_push, reverse-append, reverse-reverse, take-append-le, take_all, take_min, take_more}
use Rattle.std.proofs.lemmas.List.Elements.{filter-append}
use Rattle.std.proofs.lemmas.List.Folds.{list_any-append}
use Rattle.std.proofs.lemmas.List.Sums.{fold-append, suffix_len-le-length}
use Rattle.text_places.specs.Places.{begins_character, column, first_line, is_feed, line_front, line_number}
use Rattle.text_places.specs.inner.Marks.{IsMark, counted, further, further_of, mark_at, passed, start}
use Rattle.text_places.specs.declared.mark.Mark.{Mark}
use Rattle.text_places.proofs.Feeds.{before_no}

-- ---- what stands behind the last line feed, with one byte more

abbrev no_feed_there : ℕ → Bool
no_feed_there byte = not (is_feed byte)

feed-last : (bytes : List ℕ) (byte : ℕ) → is_feed byte ≡ true → after_last is_feed (bytes ++ byte ∷ []) ≡ []
feed-last bytes byte is =
    let none : suffix_len no_feed_there (bytes ++ byte ∷ []) ≡ 0 =
    ap (prefix_len no_feed_there) (reverse-append bytes (byte ∷ [])) ∙ ap (λ (t : Bool). cond (not t) (1 + prefix_len no_feed_there (reverse bytes)) 0) is in
    drop_all (length (bytes ++ byte ∷ []) - suffix_len no_feed_there (bytes ++ byte ∷ [])) (bytes ++ byte ∷ []) (omega (arith, none))

other-last : (bytes : List ℕ) (byte : ℕ) → is_feed byte ≡ false → after_last is_feed (bytes ++ byte ∷ []) ≡ after_last is_feed bytes ++ byte ∷ []
other-last bytes byte is =
    let more : suffix_len no_feed_there (bytes ++ byte ∷ []) ≡ 1 + suffix_len no_feed_there bytes =
    ap (prefix_len no_feed_there) (reverse-append bytes (byte ∷ [])) ∙ ap (λ (t : Bool). cond (not t) (1 + prefix_len no_feed_there (reverse bytes)) 0) is in
    let begin : length (bytes ++ byte ∷ []) - suffix_len no_feed_there (bytes ++ byte ∷ []) ≡ length bytes - suffix_len no_feed_there bytes =
    omega (arith, more, length_push bytes byte, suffix_len-le-length no_feed_there bytes) in
    ap (λ n. drop n (bytes ++ byte ∷ [])) begin ∙ drop-append-le (length bytes - suffix_len no_feed_there bytes) bytes (byte ∷ []) (omega arith)

-- ---- one byte more

counted-most : (yes : Bool) → counted yes ≤ 1
counted-most true = omega arith
counted-most false = omega arith

counted-filter : (yes : Bool) (byte : ℕ) → length (cond yes (byte ∷ []) []) ≡ counted yes
counted-filter true byte = refl
counted-filter false byte = refl

-- the characters of a text, with one byte more
count-more : (bytes : List ℕ) (byte : ℕ) → length (filter begins_character (bytes ++ byte ∷ [])) ≡ length (filter begins_character bytes) + counted (begins_character byte)
count-more bytes byte =
    ap length (filter-append begins_character bytes (byte ∷ [])) ∙ length-append (filter begins_character bytes) (filter begins_character (byte ∷ []))
    ∙ ap (λ n. length (filter begins_character bytes) + n) (counted-filter (begins_character byte) byte)

-- whether a text ends with a carriage return, with one byte more
return-more : (bytes : List ℕ) (byte : ℕ) → ends_with_byte 13 (bytes ++ byte ∷ []) ≡ (byte == 13)
return-more bytes byte =
    let back : length bytes + 1 - 1 ≡ length bytes = omega arith in
    ap (λ n. nat_lt 0 n && (get_or (bytes ++ byte ∷ []) (n - 1) 0 == 13)) (length_push bytes byte)
    ∙ ap (λ (t : Bool). t && (get_or (bytes ++ byte ∷ []) (length bytes + 1 - 1) 0 == 13)) (lt-ltb 0 (length bytes + 1) (omega arith))
    ∙ ap (λ n. get_or (bytes ++ byte ∷ []) n 0 == 13) back ∙ ap (λ n. n == 13) (get_or_push bytes byte 0 (length bytes) refl)

-- ---- what a mark comes to

-- What the mark behind some bytes comes to.
pub record Reads (bytes : List ℕ) (mark : Mark) : Type 0 where
  pub place : mark.at ≡ length bytes
  pub lines : mark.feeds ≡ count_by is_feed bytes
  pub begun : mark.characters ≡ length (filter begins_character (after_last is_feed bytes))
  pub no_feed : list_any is_feed (after_last is_feed bytes) ≡ false
  pub returns : ends_with_byte 13 bytes ≡ ends_with_byte 13 (after_last is_feed bytes)
  pub few_feeds : mark.feeds ≤ mark.at
  pub few_characters : mark.characters ≤ mark.at

reads-none : Reads [] start
reads-none = record { place = refl; lines = refl; begun = refl; no_feed = refl; returns = refl; few_feeds = omega arith; few_characters = omega arith }

reads-more : (bytes : List ℕ) (byte : ℕ) (mark : Mark) → Reads bytes mark → Reads (bytes ++ byte ∷ []) (passed mark byte)
reads-more bytes byte mark reads = by (is_feed byte) refl
  where
    by : (t : Bool) → is_feed byte ≡ t → Reads (bytes ++ byte ∷ []) (passed mark byte)
    by true is =
        let behind = feed-last bytes byte is in
        let none : (passed mark byte).characters ≡ 0 = ap (λ (t : Bool). cond t 0 (mark.characters + counted (begins_character byte))) is in
        record {
          place = ap (λ n. n + 1) reads.place ∙ sym (length_push bytes byte);
          lines = ap (λ n. n + counted (is_feed byte)) reads.lines ∙ sym (fold-append (λ a x. a + cond (is_feed x) 1 0) 0 bytes (byte ∷ []));
          begun = none ∙ sym (ap (λ l. length (filter begins_character l)) behind);
          no_feed = ap (list_any is_feed) behind;
          returns = return-more bytes byte ∙ ap (λ n. n == 13) (eqb-true byte 10 is) ∙ sym (ap (ends_with_byte 13) behind);
          few_feeds = omega (arith, reads.few_feeds, counted-most (is_feed byte));
          few_characters = omega (arith, none);
        }
    by false is =
        let behind = other-last bytes byte is in
        let front = after_last is_feed bytes in
        let some : (passed mark byte).characters ≡ mark.characters + counted (begins_character byte) = ap (λ (t : Bool). cond t 0 (mark.characters + counted (begins_character byte))) is in
        record {
          place = ap (λ n. n + 1) reads.place ∙ sym (length_push bytes byte);
          lines = ap (λ n. n + counted (is_feed byte)) reads.lines ∙ sym (fold-append (λ a x. a + cond (is_feed x) 1 0) 0 bytes (byte ∷ []));
          begun = some ∙ ap (λ n. n + counted (begins_character byte)) reads.begun ∙ sym (ap (λ l. length (filter begins_character l)) behind ∙ count-more front byte);
          no_feed = ap (list_any is_feed) behind ∙ list_any-append is_feed front (byte ∷ []) ∙ (λ i. reads.no_feed i || (is i || false));
          returns = return-more bytes byte ∙ sym (ap (ends_with_byte 13) behind ∙ return-more front byte);
          few_feeds = omega (arith, reads.few_feeds, counted-most (is_feed byte));
          few_characters = omega (arith, some, reads.few_characters, counted-most (begins_character byte));
        }

reads-of : (bytes : List ℕ) → Reads bytes (fold passed start bytes)
reads-of bytes = subst (λ l. Reads l (fold passed start l)) (reverse-reverse bytes) (back (reverse bytes))
  where
    back : (bytes : List ℕ) → Reads (reverse bytes) (fold passed start (reverse bytes))
    back [] = reads-none
    back (byte ∷ bytes) =
        subst (λ l. Reads l (fold passed start l)) (sym (reverse-append (byte ∷ []) bytes))
        (subst (Reads (reverse bytes ++ byte ∷ [])) (sym (fold-append passed start (reverse bytes) (byte ∷ []))) (reads-more (reverse bytes) byte (fold passed start (reverse bytes)) (back bytes)))

pub mark-reads : (text : List ℕ) (byte : ℕ) → Reads (take byte text) (mark_at text byte)
mark-reads text byte = reads-of (take byte text)

-- the byte of a mark
pub mark-at : (text : List ℕ) (i : ℕ) → i ≤ length text → (mark_at text i).at ≡ i
mark-at text i within = (mark-reads text i).place ∙ length-take-le i text within

pub its-mark : (text : List ℕ) (i : ℕ) (mark : Mark) → i ≤ length text → mark ≡ mark_at text i → IsMark text mark
its-mark text i mark within is = is ∙ ap (mark_at text) (sym (ap (λ (mark : Mark). mark.at) is ∙ mark-at text i within))

pub few : (text : List ℕ) (i : ℕ) (mark : Mark) → i ≤ length text → mark ≡ mark_at text i → (mark.feeds ≤ i) × (mark.characters ≤ i)
few text i mark within is =
    let reads = mark-reads text i in
    let at = mark-at text i within in
    (subst (λ (mark : Mark). mark.feeds ≤ i) (sym is) (omega (arith, at, reads.few_feeds)), subst (λ (mark : Mark). mark.characters ≤ i) (sym is) (omega (arith, at, reads.few_characters)))

-- ---- the characters that are reached

-- the front of a text, one byte behind it, and so many more
cut-more : (front : List ℕ) (byte n : ℕ) (rest : List ℕ) → take (length front + 1 + n) (front ++ byte ∷ rest) ≡ front ++ byte ∷ take n rest
cut-more [] byte n rest = let more : length {A = ℕ} [] + 1 + n ≡ suc n = omega arith in ap (λ k. take k (byte ∷ rest)) more
cut-more (b ∷ front) byte n rest =
    let more : length (b ∷ front) + 1 + n ≡ suc (length front + 1 + n) = omega arith in
    ap (λ k. take k (b ∷ (front ++ byte ∷ rest))) more ∙ ap (λ l. b ∷ l) (cut-more front byte n rest)

take-one : (front : List ℕ) (byte : ℕ) (rest : List ℕ) → take (length front + 1) (front ++ byte ∷ rest) ≡ front ++ byte ∷ []
take-one front byte rest = let more : length front + 1 ≡ length front + 1 + 0 = omega arith in ap (λ k. take k (front ++ byte ∷ rest)) more ∙ cut-more front byte 0 rest

-- how many characters of a line are reached behind a front
abbrev reached_in : List ℕ → List ℕ → ℕ
reached_in front line = length (filter begins_character (take (length front + 1) (line ++ 10 ∷ [])))

-- where the line goes on with a byte behind the front, and where it ends there
goes-on : (front : List ℕ) (byte : ℕ) (rest : List ℕ) → reached_in front (front ++ byte ∷ rest) ≡ length (filter begins_character front) + counted (begins_character byte)
goes-on front byte rest =
    ap (λ l. length (filter begins_character (take (length front + 1) l))) (append_assoc front (byte ∷ rest) (10 ∷ []))
    ∙ ap (λ l. length (filter begins_character l)) (take-one front byte (rest ++ 10 ∷ [])) ∙ count-more front byte

ends-here : (front : List ℕ) → reached_in front front ≡ length (filter begins_character front) + 1
ends-here front = ap (λ l. length (filter begins_character l)) (take-one front 10 []) ∙ count-more front 10

-- ---- a line, by what stands behind its front

end-line : (front : List ℕ) → list_any is_feed front ≡ false → first_line (front ++ []) ≡ front
end-line front none = ap first_line (append-nil front) ∙ ap (λ (t : Bool). if t then strip_last 13 (before_first is_feed front) else front) none

before-front : (front : List ℕ) (byte : ℕ) (rest : List ℕ) → list_any is_feed front ≡ false → is_feed byte ≡ true → before_first is_feed (front ++ byte ∷ rest) ≡ front
before-front [] byte rest none is = ap (λ (t : Bool). take (cond (not t) (1 + position_or_len is_feed rest) 0) (byte ∷ rest)) is
before-front (b ∷ front) byte rest none is =
    let parts = or_parts (is_feed b) (list_any is_feed front) none in
    before_no b (front ++ byte ∷ rest) parts.0 ∙ ap (λ l. b ∷ l) (before-front front byte rest parts.1 is)

before-past : (front : List ℕ) (byte : ℕ) (rest : List ℕ) → list_any is_feed front ≡ false → is_feed byte ≡ false → before_first is_feed (front ++ byte ∷ rest) ≡ front ++ byte ∷ before_first is_feed rest
before-past [] byte rest none is = before_no byte rest is
before-past (b ∷ front) byte rest none is =
    let parts = or_parts (is_feed b) (list_any is_feed front) none in
    before_no b (front ++ byte ∷ rest) parts.0 ∙ ap (λ l. b ∷ l) (before-past front byte rest parts.1 is)

feed-line : (front : List ℕ) (byte : ℕ) (rest : List ℕ) → list_any is_feed front ≡ false → is_feed byte ≡ true → first_line (front ++ byte ∷ rest) ≡ strip_last 13 front
feed-line front byte rest none is =
    let some : list_any is_feed (front ++ byte ∷ rest) ≡ true = list_any-append is_feed front (byte ∷ rest) ∙ (λ i. none i || (is i || list_any is_feed rest)) in
    ap (λ (t : Bool). if t then strip_last 13 (before_first is_feed (front ++ byte ∷ rest)) else front ++ byte ∷ rest) some ∙ ap (strip_last 13) (before-front front byte rest none is)

-- a text that ends with a carriage return
ends-so : (front : List ℕ) → ends_with_byte 13 front ≡ true → front ≡ take (length front - 1) front ++ 13 ∷ []
ends-so front ends =
    let parts = and_parts (nat_lt 0 (length front)) (get_or front (length front - 1) 0 == 13) ends in
    let some : 0 < length front = long front parts.0 in
    let back : length front ≡ length front - 1 + 1 = omega arith in
    sym (take_all (length front) front (omega arith)) ∙ ap (λ n. take n front) back ∙ take_more front (length front - 1) 0 (omega arith)
    ∙ ap (λ n. take (length front - 1) front ++ n ∷ []) (eqb-true (get_or front (length front - 1) 0) 13 parts.1)
  where
    long : (front : List ℕ) → nat_lt 0 (length front) ≡ true → 0 < length front
    long [] is = absurd (let e : false ≡ true = is in cc)
    long (b ∷ front) is = omega arith

feed-reached : (front : List ℕ) → reached_in front (strip_last 13 front) ≡ length (filter begins_character front) + counted (not (ends_with_byte 13 front))
feed-reached front = by (ends_with_byte 13 front) refl
  where
    by : (t : Bool) → ends_with_byte 13 front ≡ t → reached_in front (strip_last 13 front) ≡ length (filter begins_character front) + counted (not (ends_with_byte 13 front))
    by false is =
        ap (λ (t : Bool). reached_in front (if t then take (length front - 1) front else front)) is ∙ ends-here front
        ∙ ap (λ (t : Bool). length (filter begins_character front) + counted (not t)) (sym is)
    by true is =
        let less = take (length front - 1) front in
        let whole : front ≡ less ++ 13 ∷ [] = ends-so front is in
        let long : length (less ++ 10 ∷ []) ≤ length front + 1 = omega (arith, ap length whole, length_push less 13, length_push less 10) in
        let behind : length (filter begins_character front) ≡ length (filter begins_character less) + 1 = ap (λ l. length (filter begins_character l)) whole ∙ count-more less 13 in
        ap (λ (t : Bool). reached_in front (if t then take (length front - 1) front else front)) is ∙ ap (λ l. length (filter begins_character l)) (take_all (length front + 1) (less ++ 10 ∷ []) long)
        ∙ count-more less 10 ∙ sym behind ∙ (let same : length (filter begins_character front) ≡ length (filter begins_character front) + 0 = omega arith in same)
        ∙ ap (λ (t : Bool). length (filter begins_character front) + counted (not t)) (sym is)

-- a line that goes on and ends before a line feed
strip-reached : (front : List ℕ) (byte : ℕ) (rest : List ℕ) → reached_in front (strip_last 13 (front ++ byte ∷ rest)) ≡ length (filter begins_character front) + counted (begins_character byte)
strip-reached front byte [] = by (byte == 13) refl
  where
    by : (t : Bool) → (byte == 13) ≡ t → reached_in front (strip_last 13 (front ++ byte ∷ [])) ≡ length (filter begins_character front) + counted (begins_character byte)
    by false is =
        let line : List ℕ = front ++ byte ∷ [] in
        ap (λ (t : Bool). reached_in front (if t then take (length line - 1) line else line)) (return-more front byte ∙ is) ∙ goes-on front byte []
    by true is =
        let line : List ℕ = front ++ byte ∷ [] in
        let back : length line - 1 ≡ length front = omega (arith, length_push front byte) in
        let front_is : take (length line - 1) line ≡ front = ap (λ n. take n line) back ∙ take-append-le (length front) front (byte ∷ []) (omega arith) ∙ take_all (length front) front (omega arith) in
        ap (λ (t : Bool). reached_in front (if t then take (length line - 1) line else line)) (return-more front byte ∙ is) ∙ ap (reached_in front) front_is ∙ ends-here front
        ∙ ap (λ n. length (filter begins_character front) + counted (begins_character n)) (sym (eqb-true byte 13 is))
strip-reached front byte (m ∷ more) = by (ends_with_byte 13 (front ++ byte ∷ m ∷ more)) refl
  where
    by : (t : Bool) → ends_with_byte 13 (front ++ byte ∷ m ∷ more) ≡ t → reached_in front (strip_last 13 (front ++ byte ∷ m ∷ more)) ≡ length (filter begins_character front) + counted (begins_character byte)
    by false is =
        let line : List ℕ = front ++ byte ∷ m ∷ more in
        ap (λ (t : Bool). reached_in front (if t then take (length line - 1) line else line)) is ∙ goes-on front byte (m ∷ more)
    by true is =
        let line : List ℕ = front ++ byte ∷ m ∷ more in
        let back : length line - 1 ≡ length front + 1 + length more = omega (arith, length-append front (byte ∷ m ∷ more)) in
        ap (λ (t : Bool). reached_in front (if t then take (length line - 1) line else line)) is
        ∙ ap (λ n. reached_in front (take n line)) back ∙ ap (reached_in front) (cut-more front byte (length more) (m ∷ more)) ∙ goes-on front byte (take (length more) (m ∷ more))

other-reached : (front : List ℕ) (byte : ℕ) (rest : List ℕ) → list_any is_feed front ≡ false → is_feed byte ≡ false
    → reached_in front (first_line (front ++ byte ∷ rest)) ≡ length (filter begins_character front) + counted (begins_character byte)
other-reached front byte rest none is = by (list_any is_feed rest) refl
  where
    any-line : (t : Bool) → list_any is_feed rest ≡ t → list_any is_feed (front ++ byte ∷ rest) ≡ t
    any-line t there = list_any-append is_feed front (byte ∷ rest) ∙ (λ i. none i || (is i || there i))

    by : (t : Bool) → list_any is_feed rest ≡ t → reached_in front (first_line (front ++ byte ∷ rest)) ≡ length (filter begins_character front) + counted (begins_character byte)
    by false there =
        let line : List ℕ = front ++ byte ∷ rest in
        ap (λ (t : Bool). reached_in front (if t then strip_last 13 (before_first is_feed line) else line)) (any-line false there) ∙ goes-on front byte rest
    by true there =
        let line : List ℕ = front ++ byte ∷ rest in
        ap (λ (t : Bool). reached_in front (if t then strip_last 13 (before_first is_feed line) else line)) (any-line true there)
        ∙ ap (λ l. reached_in front (strip_last 13 l)) (before-past front byte rest none is) ∙ strip-reached front byte (before_first is_feed rest)

-- ---- the column

-- how many characters are reached, by what stands behind the front
rest-reached : (front rest : List ℕ) → list_any is_feed front ≡ false
    → reached_in front (first_line (front ++ rest)) ≡ length (filter begins_character front) + option_map_or (λ own. further_of own (ends_with_byte 13 front)) (slice_get rest 0) 1
rest-reached front [] none = ap (reached_in front) (end-line front none) ∙ ends-here front
rest-reached front (byte ∷ rest) none = by (is_feed byte) refl
  where
    by : (t : Bool) → is_feed byte ≡ t → reached_in front (first_line (front ++ byte ∷ rest)) ≡ length (filter begins_character front) + further_of byte (ends_with_byte 13 front)
    by true is =
        ap (reached_in front) (feed-line front byte rest none is) ∙ feed-reached front
        ∙ ap (λ (t : Bool). length (filter begins_character front) + cond t (counted (not (ends_with_byte 13 front))) (counted (begins_character byte))) (sym is)
    by false is =
        other-reached front byte rest none is
        ∙ ap (λ (t : Bool). length (filter begins_character front) + cond t (counted (not (ends_with_byte 13 front))) (counted (begins_character byte))) (sym is)

-- what stands at a place
from-there : (text : List ℕ) (n : ℕ) → slice_get (drop n text) 0 ≡ slice_get text n
from-there text zero = refl
from-there [] (suc n) = refl
from-there (byte ∷ text) (suc n) = from-there text n

pub line-is : (text : List ℕ) (byte end feeds : ℕ) → end ≡ min byte (length text) → feeds ≡ (mark_at text end).feeds → feeds + 1 ≡ line_number text byte
line-is text byte end feeds is found =
    let front : take end text ≡ take byte text = ap (λ n. take n text) is ∙ take_min byte text in
    ap (λ n. n + 1) (found ∙ (mark-reads text end).lines ∙ ap (count_by is_feed) front)

pub column-is : (text : List ℕ) (byte end characters : ℕ) → end ≡ min byte (length text) → characters ≡ (mark_at text end).characters → max 1 (characters + further text end) ≡ column text byte
column-is text byte end characters is found =
    let reads = mark-reads text end in
    let same : take end text ≡ take byte text = ap (λ n. take n text) is ∙ take_min byte text in
    let rest : drop end text ≡ drop byte text = ap (λ n. drop n text) is ∙ drop_min byte text in
    let front : List ℕ = after_last is_feed (take end text) in
    let front_is : front ≡ line_front text byte = ap (after_last is_feed) same in
    let behind : further text end ≡ option_map_or (λ own. further_of own (ends_with_byte 13 front)) (slice_get (drop end text) 0) 1 =
    ap (λ (b : Bool). option_map_or (λ own. further_of own b) (slice_get text end) 1) reads.returns ∙ ap (λ (o : Option ℕ). option_map_or (λ own. further_of own (ends_with_byte 13 front)) o 1) (sym (from-there text end)) in
    let count : characters + further text end ≡ reached_in front (first_line (front ++ drop end text)) =
    (λ i. (found ∙ reads.begun) i + behind i) ∙ sym (rest-reached front (drop end text) reads.no_feed) in
    ap (max 1) (count ∙ (λ i. reached_in (front_is i) (first_line (front_is i ++ rest i))))
