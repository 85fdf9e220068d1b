-- Gates at the heads of parts: twice as far up in each round.
use Rattle.std.proofs.Common.{ℕ, zero, suc, ◌+◌, ◌*◌, ◌^◌, ◌≡◌, ◌<◌, ◌≤◌, ◌⊎◌, inl, inr, ⊎_elim, List, [], ◌∷◌, length, map, get_or, Option, None, Some, ap, ◌∙◌, sym, refl, arith}
use Rattle.std.specs.List.{range_with_len}
use Rattle.std.specs.Option.{option_map_or}
use Rattle.std.proofs.lemmas.List.FromFn.{get_or-map-range_with_len, length-map-range_with_len}
use Rattle.std.proofs.Math.Nat.{pow-suc}
use Rattle.dot_writer.specs.declared.usages.Usage.{Usage}
use Rattle.dot_writer.specs.TreePicture.{above, head, head_at, usage_at}
use Rattle.dot_writer.specs.inner.DotText.{above_at, climbed}

-- one gate up
head-one : (usages : List Usage) (position : ℕ) → head usages 1 position ≡ above_at usages position
unfolding head
head-one usages position = by (above (usage_at usages position))
  where
    by : (user : Option ℕ) → option_map_or (head usages 0) user position ≡ option_map_or (λ n. n) user position
    by None = refl
    by (Some user) = refl

-- what has no gate above it is its own head
head-stays : (usages : List Usage) (steps position : ℕ) → above (usage_at usages position) ≡ None → head usages steps position ≡ position
unfolding head
head-stays usages zero position none = refl
head-stays usages (suc steps) position none = ap (λ user. option_map_or (head usages steps) user position) none

-- so many gates up, and then so many more
head-more : (usages : List Usage) (one more position : ℕ) → head usages (one + more) position ≡ head usages more (head usages one position)
unfolding head
head-more usages zero more position = let none : 0 + more ≡ more = omega arith in ap (λ n. head usages n position) none
head-more usages (suc one) more position =
    let next : suc one + more ≡ suc (one + more) = omega arith in
    ap (λ n. head usages n position) next ∙ by (above (usage_at usages position)) refl (λ user. head-more usages one more user)
  where
    by : (user : Option ℕ) → above (usage_at usages position) ≡ user → ((n : ℕ) → head usages (one + more) n ≡ head usages more (head usages one n))
        → option_map_or (head usages (one + more)) user position ≡ head usages more (option_map_or (head usages one) user position)
    by None is later = sym (head-stays usages more position is)
    by (Some user) is later = later user

-- where there is no gate, nothing is above
outside : (usages : List Usage) (position : ℕ) → length usages ≤ position → above (usage_at usages position) ≡ None
outside [] position over = refl
outside (usage ∷ usages) zero over = absurd (omega (arith, over))
outside (usage ∷ usages) (suc position) over = outside usages position (omega (arith, over))

less-or-not : (a b : ℕ) → (a < b) ⊎ (b ≤ a)
less-or-not a zero = inr (omega arith)
less-or-not zero (suc b) = inl (omega arith)
less-or-not (suc a) (suc b) = ⊎_elim (λ (l : a < b). inl (omega (arith, l))) (λ (m : b ≤ a). inr (omega (arith, m))) (less-or-not a b)

nothing-at : (xs : List ℕ) (n : ℕ) → length xs ≤ n → get_or xs n n ≡ n
nothing-at xs n over = by xs n n over
  where
    by : (ys : List ℕ) (k d : ℕ) → length ys ≤ k → get_or ys k d ≡ d
    by [] k d less = refl
    by (y ∷ ys) zero d less = absurd (omega (arith, less))
    by (y ∷ ys) (suc k) d less = by ys k d (omega (arith, less))

-- what is read of a table of heads
read-head : (usages : List Usage) (steps position : ℕ) → head_at (climbed usages steps) position ≡ head usages steps position
read-head usages steps position = ⊎_elim inside beyond (less-or-not position (length usages))
  where
    inside : position < length usages → head_at (climbed usages steps) position ≡ head usages steps position
    inside less = let same : 0 + position ≡ position = omega arith in get_or-map-range_with_len (head usages steps) 0 (length usages) position position position less same

    beyond : length usages ≤ position → head_at (climbed usages steps) position ≡ head usages steps position
    beyond over =
        let long = length-map-range_with_len (head usages steps) 0 (length usages) in
        nothing-at (climbed usages steps) position (omega (arith, long, over)) ∙ sym (head-stays usages steps position (outside usages position over))

map-after : (f g : ℕ → ℕ) (xs : List ℕ) → map f (map g xs) ≡ map (λ x. f (g x)) xs
map-after f g [] = refl
map-after f g (x ∷ xs) = ap (λ t. f (g x) ∷ t) (map-after f g xs)

map-same : (f g : ℕ → ℕ) → ((n : ℕ) → f n ≡ g n) → (xs : List ℕ) → map f xs ≡ map g xs
map-same f g each [] = refl
map-same f g each (x ∷ xs) = λ i. each x i ∷ map-same f g each xs i

twice : (usages : List Usage) (steps : ℕ) → map (head_at (climbed usages steps)) (climbed usages steps) ≡ climbed usages (steps + steps)
twice usages steps =
    map-after (head_at (climbed usages steps)) (head usages steps) (range_with_len 0 (length usages))
    ∙ map-same (λ n. head_at (climbed usages steps) (head usages steps n)) (head usages (steps + steps))
    (λ n. read-head usages steps (head usages steps n) ∙ sym (head-more usages steps steps n)) (range_with_len 0 (length usages))

-- ---- the rounds

pub one-up : (usages : List Usage) → climbed usages 1 ≡ map (above_at usages) (range_with_len 0 (length usages))
one-up usages = map-same (head usages 1) (above_at usages) (head-one usages) (range_with_len 0 (length usages))

pub next-round : (usages : List Usage) (heads made : List ℕ) (round : ℕ) → heads ≡ climbed usages (2 ^ round) → made ≡ map (head_at heads) heads → made ≡ climbed usages (2 ^ (round + 1))
next-round usages heads made round are step =
    let next : suc round ≡ round + 1 = omega arith in
    let double : 2 ^ round + 2 ^ round ≡ 2 ^ round * 2 = omega arith in
    step ∙ ap (λ all. map (head_at all) all) are ∙ twice usages (2 ^ round)
    ∙ ap (climbed usages) (double ∙ sym (pow-suc 2 round) ∙ ap (λ n. 2 ^ n) next)
