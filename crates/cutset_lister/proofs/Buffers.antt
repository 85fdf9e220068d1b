-- Texts added to a buffer, one after another.
use Rattle.std.proofs.Common.{◌≡◌, ℕ, suc, ◌+◌, ◌<◌, ◌≤◌, List, ◌++◌, length, length-append, take, drop, slice_index_or, sym, ap, ◌∙◌, append_assoc, arith, subst, Result, Ok, Err, MatchResult}
use Rattle.std.specs.List.{flat_map}
use Rattle.std.proofs.Math.Seq.{drop-cons, take-append_seam}
use Rattle.std.proofs.lemmas.List.{take-append-drop, take-take}
use Rattle.std.proofs.lemmas.List.Concat.{flat_map-append}
use Rattle.cutset_lister.specs.inner.Scanning.{AddsText, LacksRoom}

-- one text more
pub adds_more : (first second before middle after : List ℕ) (r0 r1 r2 : ℕ) → AddsText first before middle r0 r1 → AddsText second middle after r1 r2 → AddsText (first ++ second) before after r0 r2
adds_more first second before middle after r0 r1 r2 one two =
    let a = one.room in let b = two.room in record { items = two.items ∙ ap (λ m. m ++ second) one.items ∙ append_assoc before first second; room = omega arith }

-- a text that had room, and one that had none
pub lacks_more : (first second before middle after : List ℕ) (r0 r1 r2 : ℕ) → AddsText first before middle r0 r1 → LacksRoom second middle after r1 r2 → LacksRoom (first ++ second) before after r0 r2
lacks_more first second before middle after r0 r1 r2 one two =
    let size : length middle ≡ length before + length first = ap length one.items ∙ length-append before first in
    let shorter : length before ≤ length (take (length middle) after) = omega (arith, ap length two.front) in
    let a = one.room in
    let b = two.room in
    let lacks = two.lacks in
    record {
      front = front ∙ ap (take (length before)) (two.front ∙ one.items) ∙ take-append_seam before first;
      room = omega arith;
      lacks = omega (arith, length-append first second);
    }
  where
    front : take (length before) after ≡ take (length before) (take (length middle) after)
    front = sym (take-take (length before) (length middle) after (omega (arith, ap length one.items, length-append before first)))

module _ {A : Type 0} (piece : A → List ℕ) where
  -- the pieces of a list up to a place, the one at the place, and those behind it
  pieces_at : (xs : List A) (i : ℕ) (d : A) → i < length xs → flat_map piece xs ≡ (flat_map piece (take i xs) ++ piece (slice_index_or xs i d)) ++ flat_map piece (drop (suc i) xs)
  pieces_at xs i d h =
      ap (flat_map piece) (sym (take-append-drop i xs)) ∙ flat_map-append piece (take i xs) (drop i xs)
      ∙ ap (λ r. flat_map piece (take i xs) ++ flat_map piece r) (drop-cons xs i d h)
      ∙ sym (append_assoc (flat_map piece (take i xs)) (piece (slice_index_or xs i d)) (flat_map piece (drop (suc i) xs)))

  -- where one piece had no room, all had none
  pub lacks_pieces : (xs : List A) (i : ℕ) (d : A) (before middle after : List ℕ) (r0 r1 r2 : ℕ) → i < length xs → AddsText (flat_map piece (take i xs)) before middle r0 r1 → LacksRoom (piece (slice_index_or xs i d)) middle after r1 r2
      → LacksRoom (flat_map piece xs) before after r0 r2
  lacks_pieces xs i d before middle after r0 r1 r2 h one two =
      let both = lacks_more (flat_map piece (take i xs)) (piece (slice_index_or xs i d)) before middle after r0 r1 r2 one two in
      let lacks = both.lacks in
      record {
        front = both.front;
        room = both.room;
        lacks = omega (arith, ap length (pieces_at xs i d h), length-append (flat_map piece (take i xs) ++ piece (slice_index_or xs i d)) (flat_map piece (drop (suc i) xs)));
      }

-- one text, and then another that had room or had none
pub adds_or_lacks : {E : Type 0} {T : Type 0} (result : Result T E) (first second whole before middle after : List ℕ) (r0 r1 r2 : ℕ) → whole ≡ first ++ second → AddsText first before middle r0 r1
    → MatchResult result (λ _. AddsText second middle after r1 r2) (λ _. LacksRoom second middle after r1 r2) → MatchResult result (λ _. AddsText whole before after r0 r2) (λ _. LacksRoom whole before after r0 r2)
adds_or_lacks (Ok v) first second whole before middle after r0 r1 r2 is one two = subst (λ t. AddsText t before after r0 r2) (sym is) (adds_more first second before middle after r0 r1 r2 one two)
adds_or_lacks (Err e) first second whole before middle after r0 r1 r2 is one two = subst (λ t. LacksRoom t before after r0 r2) (sym is) (lacks_more first second before middle after r0 r1 r2 one two)
