-- Tables with changes, and the rows that tables tell.
use Rattle.std.proofs.Common.{ℕ, zero, suc, ◌+◌, ◌≡◌, ◌≢◌, ◌<◌, ◌≤◌, ◌⊎◌, Bool, true, false, cond, not, ◌&&◌, ◌||◌, ◌==◌, nat_lt, List, [], ◌∷◌, ◌++◌, length, map, filter, set, take, drop, get_or, if◌then◌else◌, inl, inr, ⊎_elim, ap, ◌∙◌, sym, refl, subst, arith, eq-eqb, le-leb, length-set}
use Rattle.std.specs.List.{flat_map}
use Rattle.std.proofs.lemmas.Bool.{false≢true, and_from, and_parts, cases_Bool, cases_eq, ne_eqb}
use Rattle.std.proofs.lemmas.List.{drop_all, drop_more, ext_get_or, flat_map_more, get_or-set_other, get_or-set_same, take_all, take_more}
use Rattle.plain_values.specs.Rising.{RisesWithin}
use Rattle.fault_system.specs.Truth.{NumberSet, Has, member, set_of}
use Rattle.fault_system.specs.Systems.{System}
use Rattle.fault_system.specs.CutSets.{IsSubset, makes_hold}
use Rattle.fault_system.specs.Rounds.{IsRoundOf, no_event, only, time_of}
use Rattle.fault_system.proofs.Elements.{In, In-filter}
use Rattle.fault_system.proofs.HoldsLaws.{holds_of-exact, round-least}
use Rattle.fault_system.proofs.NumberSets.{RisesWithin-at, RisesWithin-filter, same_rising, set_of-filter}
use Rattle.fault_system.proofs.TruthLaws.{same_answer}
use Rattle.fmea_rows.specs.Rows.{event_rows, is_reached, round_of, row_of}
use Rattle.fmea_rows.specs.inner.Tables.{IsKnown, IsRight, changed, changed_rows, facts_of, is_new, row_if, table_rows}
use Rattle.fmea_rows.specs.declared.change.Change.{Change}
use Rattle.fmea_rows.specs.declared.table.Known.{Known}
use Rattle.fmea_rows.proofs.RowLaws.{reached-means, round-is}

-- ---- a table with changes

or_false : (a b : Bool) → a || b ≡ false → (a ≡ false) × (b ≡ false)
or_false true b e = absurd (false≢true (sym e))
or_false false b e = (refl, e)

-- a number that is not the first of a list, nor in its rest
not_first : (f n : ℕ) → (f == n) ≡ false → n ≢ f
not_first f n e same = false≢true (sym e ∙ eq-eqb f n (sym same))

pub length-changed : (times : List ℕ) (changes : List Change) → length (changed times changes) ≡ length times
length-changed times [] = refl
length-changed times (c ∷ cs) = length-changed (set times c.fact c.time) cs ∙ length-set times c.fact c.time

-- a fact that does not change has its time
pub changed-other : (times : List ℕ) (changes : List Change) (n : ℕ) → set_of (facts_of changes) n ≡ false → time_of (changed times changes) n ≡ time_of times n
changed-other times [] n e = refl
changed-other times (c ∷ cs) n e =
    let both = or_false (c.fact == n) (set_of (facts_of cs) n) e in
    changed-other (set times c.fact c.time) cs n both.1 ∙ get_or-set_other times c.fact n c.time 0 (not_first c.fact n both.0)

-- a number below a rising list is not in it
below-rising : (low high n : ℕ) (ns : List ℕ) → RisesWithin low high ns → n < low → set_of ns n ≡ false
below-rising low high n ns r h = ⊎_elim (λ t. absurd (omega (arith, (RisesWithin-at low high ns n r t).0))) (λ f. f) (cases_Bool (set_of ns n))

-- a fact that changes has its new time
pub changed-at : (low : ℕ) (times : List ℕ) (changes : List Change) (change : Change) → RisesWithin low (length times) (facts_of changes) → In change changes → time_of (changed times changes) change.fact ≡ change.time
changed-at low times [] change r i = absurd i
changed-at low times (c ∷ cs) change r i = ⊎_elim
    (λ (same : c ≡ change). subst (λ (d : Change). time_of (changed (set times c.fact c.time) cs) d.fact ≡ d.time) same
    (changed-other (set times c.fact c.time) cs c.fact (below-rising (c.fact + 1) (length times) c.fact (facts_of cs) r.2 (omega arith)) ∙ get_or-set_same times c.fact c.time 0 r.1))
    (λ later. changed-at (c.fact + 1) (set times c.fact c.time) cs change (subst (λ (k : ℕ). RisesWithin (c.fact + 1) k (facts_of cs)) (sym (length-set times c.fact c.time)) r.2) later) i

-- one change more
pub changed-push : (times : List ℕ) (changes : List Change) (c : Change) → changed times (changes ++ c ∷ []) ≡ set (changed times changes) c.fact c.time
changed-push times [] c = refl
changed-push times (d ∷ changes) c = changed-push (set times d.fact d.time) changes c

-- ---- rows that are made where a test says so

one_or_none : {X : Type 0} (b : Bool) (x : X) (xs : List X) → (if b then x ∷ [] else []) ++ xs ≡ cond b (x ∷ xs) xs
one_or_none true x xs = refl
one_or_none false x xs = refl

pub made-where : {X Y : Type 0} (test : X → Bool) (make : X → Y) (xs : List X) → flat_map (λ x. if test x then make x ∷ [] else []) xs ≡ map make (filter test xs)
made-where test make [] = refl
made-where test make (x ∷ xs) = one_or_none (test x) (make x) (flat_map (λ y. if test y then make y ∷ [] else []) xs)
    ∙ ap (λ ys. cond (test x) (make x ∷ ys) ys) (made-where test make xs) ∙ mapped (test x)
  where
    mapped : (b : Bool) → cond b (make x ∷ map make (filter test xs)) (map make (filter test xs)) ≡ map make (cond b (x ∷ filter test xs) (filter test xs))
    mapped true = refl
    mapped false = refl

map-same : {X Y : Type 0} (f g : X → Y) (xs : List X) → ((x : X) → In x xs → f x ≡ g x) → map f xs ≡ map g xs
map-same f g [] h = refl
map-same f g (x ∷ xs) h =
    let head : f x ≡ g x = h x (inl refl) in
    let tail : map f xs ≡ map g xs = map-same f g xs (λ y i. h y (inr i)) in
    λ i. head i ∷ tail i

-- ---- what tables say of a fact

is_zero : (t : ℕ) → (t == 0) ≡ not (nat_lt 0 t)
is_zero zero = refl
is_zero (suc t) = ne_eqb (suc t) 0 (λ e. omega (arith, e)) ∙ ap not (sym (le-leb 1 (suc t) (omega arith)))

turned : (a b : Bool) → not a && b ≡ b && not a
turned true true = refl
turned true false = refl
turned false true = refl
turned false false = refl

-- a fact has a time exactly if it holds
ever-is : (system : System) (events : NumberSet) (n t : ℕ) → IsRoundOf system events n t → nat_lt 0 t ≡ makes_hold system n events
ever-is system events n zero is = same_answer _ _ (λ e. absurd (false≢true e)) (λ e. absurd (is ((holds_of-exact system events n).0 e)))
ever-is system events n (suc t) is = same_answer _ _ (λ e. (holds_of-exact system events n).1 (λ xs closed. round-least system events xs closed (suc t) n is.there)) (λ e. le-leb 1 (suc t) (omega arith))

filter-same : (p q : NumberSet) (ns : List ℕ) → ((n : ℕ) → In n ns → p n ≡ q n) → filter p ns ≡ filter q ns
filter-same p q [] h = refl
filter-same p q (n ∷ ns) h =
    let head : p n ≡ q n = h n (inl refl) in
    let tail : filter p ns ≡ filter q ns = filter-same p q ns (λ m i. h m (inr i)) in
    λ i. cond (head i) (n ∷ tail i) (tail i)

-- two tables that have the rounds of some effects
module _ (system : System) (event : ℕ) (base times effects : List ℕ) (none : (n : ℕ) → In n effects → IsRoundOf system no_event n (time_of base n)) (alone : (n : ℕ) → In n effects → IsRoundOf system (only event) n (time_of times n)) where
  new-is : (n : ℕ) → In n effects → is_new base n (time_of times n) ≡ is_reached system event n
  new-is n among =
      ap (λ b. b && nat_lt 0 (time_of times n)) (is_zero (time_of base n)) ∙ turned (nat_lt 0 (time_of base n)) (nat_lt 0 (time_of times n))
      ∙ ap (λ b. b && not (nat_lt 0 (time_of base n))) (ever-is system (only event) n (time_of times n) (alone n among))
      ∙ ap (λ b. makes_hold system n (only event) && not b) (ever-is system no_event n (time_of base n) (none n among))

  time-is : (n : ℕ) → In n effects → is_reached system event n ≡ true → time_of times n ≡ round_of system (only event) n
  time-is n among e = by (time_of times n) (alone n among) where
    by : (t : ℕ) → IsRoundOf system (only event) n t → t ≡ round_of system (only event) n
    by zero is = absurd (is (reached-means system event n e).0)
    by (suc t) is = sym (round-is system (only event) n (suc t) is)

  -- the rows that the tables tell are those of the event
  pub table-rows : table_rows base times event effects ≡ event_rows system effects event
  table-rows =
      made-where (λ n. is_new base n (time_of times n)) (λ n. record { event = event; effect = n; round = time_of times n }) effects
      ∙ ap (map (λ n. record { event = event; effect = n; round = time_of times n })) (filter-same (λ n. is_new base n (time_of times n)) (is_reached system event) effects new-is)
      ∙ map-same (λ n. record { event = event; effect = n; round = time_of times n }) (row_of system event) (filter (is_reached system event) effects)
      (λ n i. let among = In-filter (is_reached system event) n effects i in
      let same : time_of times n ≡ round_of system (only event) n = time-is n among.0 among.1 in
      λ k. record { event = event; effect = n; round = same k })

and_yes : (b : Bool) → b ≡ b && true
and_yes true = refl
and_yes false = refl

-- a row is made of a fact exactly where it is reached, by its rounds under no event and under the event alone
pub one-row : (system : System) (event n b t : ℕ) → IsRoundOf system no_event n b → (b ≡ 0 → IsRoundOf system (only event) n t)
    → row_if ((b == 0) && nat_lt 0 t) event n t ≡ (if is_reached system event n then row_of system event n ∷ [] else [])
one-row system event n zero t none alone =
    let is : IsRoundOf system (only event) n t = alone refl in
    let new : nat_lt 0 t ≡ is_reached system event n = and_yes (nat_lt 0 t) ∙ ap (λ b. b && true) (ever-is system (only event) n t is)
    ∙ ap (λ b. makes_hold system n (only event) && not b) (ever-is system no_event n 0 none) in
    ap (λ b. row_if b event n t) new ∙ by (is_reached system event n) (λ e. at t is e) where
      at : (t : ℕ) → IsRoundOf system (only event) n t → is_reached system event n ≡ true → t ≡ round_of system (only event) n
      at zero is e = absurd (is (reached-means system event n e).0)
      at (suc t) is e = sym (round-is system (only event) n (suc t) is)

      by : (b : Bool) → (b ≡ true → t ≡ round_of system (only event) n) → row_if b event n t ≡ (if b then row_of system event n ∷ [] else [])
      by true same = let round : t ≡ round_of system (only event) n = same refl in λ k. record { event = event; effect = n; round = round k } ∷ []
      by false same = refl
one-row system event n (suc b) t none alone =
    ap (λ a. row_if (a && nat_lt 0 t) event n t) (is_zero (suc b) ∙ ap not (le-leb 1 (suc b) (omega arith)))
    ∙ sym (ap (λ a. if a then row_of system event n ∷ [] else []) (ap (λ a. makes_hold system n (only event) && not a) (sym (ever-is system no_event n (suc b) none)) ∙ ap (λ a. makes_hold system n (only event) && not a) (le-leb 1 (suc b) (omega arith)) ∙ never (makes_hold system n (only event)))) where
      never : (a : Bool) → a && not true ≡ false
      never true = refl
      never false = refl

-- ---- the rows of what changes

kept-in : (xs ys : List ℕ) (p q : NumberSet) → ((n : ℕ) → Has (set_of xs) n → p n ≡ true → Has (set_of ys) n × (q n ≡ true)) → IsSubset (filter p xs) (filter q ys)
kept-in xs ys p q f n h =
    let both = and_parts (set_of xs n) (p n) (sym (set_of-filter p xs n) ∙ h) in
    let there = f n both.0 both.1 in
    set_of-filter q ys n ∙ and_from (set_of ys n) (q n) there.0 there.1

-- what two tests keep of two rising lists is the same, where each keeps what the other does
filters-same : (high : ℕ) (xs ys : List ℕ) (p q : NumberSet) → RisesWithin 0 high xs → RisesWithin 0 high ys
    → ((n : ℕ) → Has (set_of xs) n → p n ≡ true → Has (set_of ys) n × (q n ≡ true)) → ((n : ℕ) → Has (set_of ys) n → q n ≡ true → Has (set_of xs) n × (p n ≡ true)) → filter p xs ≡ filter q ys
filters-same high xs ys p q r s f g =
    same_rising 0 0 high (filter p xs) (filter q ys) (RisesWithin-filter p 0 high xs r) (RisesWithin-filter q 0 high ys s) (kept-in xs ys p q f) (kept-in ys xs q p g)

never_both : (b : Bool) → not b && b ≡ true → ⊥
never_both true e = false≢true e
never_both false e = false≢true e

-- a fact that has its time is not new
not_new : (base : List ℕ) (n : ℕ) → is_new base n (time_of base n) ≡ true → ⊥
not_new base n e = never_both (nat_lt 0 (time_of base n)) (ap (λ b. b && nat_lt 0 (time_of base n)) (sym (is_zero (time_of base n))) ∙ e)

module _ (system : System) (effects : List ℕ) (known : Known) (event : ℕ) where
  by-facts : (times : List ℕ) (changes : List Change) → ((c : Change) → In c changes → time_of times c.fact ≡ c.time)
      → changed_rows known event changes ≡ flat_map (λ n. row_if (member known.effects n && is_new known.base n (time_of times n)) event n (time_of times n)) (facts_of changes)
  by-facts times [] h = refl
  by-facts times (c ∷ cs) h =
      let head : c.time ≡ time_of times c.fact = sym (h c (inl refl)) in
      let tail = by-facts times cs (λ d i. h d (inr i)) in
      λ i. row_if (member known.effects c.fact && is_new known.base c.fact (head i)) event c.fact (head i) ++ tail i

  -- the rows of what changes are those that the tables tell
  pub changed-rows : (changes : List Change) → IsKnown system effects known → RisesWithin 0 (length system.facts) effects → IsRight system effects event known.base changes
      → changed_rows known event changes ≡ table_rows known.base (changed known.base changes) event effects
  changed-rows changes is rise right =
      by-facts (changed known.base changes) changes (λ c i. changed-at 0 known.base changes c (subst (λ (k : ℕ). RisesWithin 0 k (facts_of changes)) (sym is.base.count) right.rise) i)
      ∙ made-where (λ n. member known.effects n && is_new known.base n (time_of (changed known.base changes) n)) (λ n. record { event = event; effect = n; round = time_of (changed known.base changes) n }) (facts_of changes)
      ∙ ap (map (λ n. record { event = event; effect = n; round = time_of (changed known.base changes) n }))
      (filters-same (length system.facts) (facts_of changes) effects (λ n. member known.effects n && is_new known.base n (time_of (changed known.base changes) n)) (λ n. is_new known.base n (time_of (changed known.base changes) n)) right.rise rise
      (λ n here e. let both = and_parts (member known.effects n) (is_new known.base n (time_of (changed known.base changes) n)) e in (sym (is.effects_are n) ∙ both.0, both.1))
      (λ n here e. (found n e (cases_Bool (set_of (facts_of changes) n)), and_from (member known.effects n) (is_new known.base n (time_of (changed known.base changes) n)) (is.effects_are n ∙ here) e)))
      ∙ sym (made-where (λ n. is_new known.base n (time_of (changed known.base changes) n)) (λ n. record { event = event; effect = n; round = time_of (changed known.base changes) n }) effects)
    where
      found : (n : ℕ) → is_new known.base n (time_of (changed known.base changes) n) ≡ true → (set_of (facts_of changes) n ≡ true) ⊎ (set_of (facts_of changes) n ≡ false) → set_of (facts_of changes) n ≡ true
      found n e there = ⊎_elim (λ t. t) (λ f. absurd (not_new known.base n (ap (is_new known.base n) (sym (changed-other known.base changes n f)) ∙ e))) there

-- ---- changes that are taken back

-- all but the facts that are still to be taken back have their old times
pub record IsBackBut (base : List ℕ) (changes : List Change) (times : List ℕ) : Type 0 where
  pub size : length times ≡ length base
  pub others : (n : ℕ) → set_of (facts_of changes) n ≡ false → time_of times n ≡ time_of base n

pub back-none : (base : List ℕ) (changes : List Change) (times : List ℕ) → times ≡ changed base changes → IsBackBut base changes times
back-none base changes times is = record {
  size = ap length is ∙ length-changed base changes;
  others = λ n e. ap (λ (ts : List ℕ). time_of ts n) is ∙ changed-other base changes n e;
}

pub back-next : (base times : List ℕ) (c : Change) (changes : List Change) → c.fact < length base → IsBackBut base (c ∷ changes) times → IsBackBut base changes (set times c.fact (time_of base c.fact))
back-next base times c changes fits is = record {
  size = length-set times c.fact (time_of base c.fact) ∙ is.size;
  others = λ n e. ⊎_elim
      (λ (same : n ≡ c.fact). subst (λ (k : ℕ). time_of (set times c.fact (time_of base c.fact)) k ≡ time_of base k) (sym same) (get_or-set_same times c.fact (time_of base c.fact) 0 (omega (arith, is.size))))
      (λ differ. get_or-set_other times c.fact n (time_of base c.fact) 0 differ ∙ is.others n (ap (λ b. b || set_of (facts_of changes) n) (ne_eqb c.fact n (λ e'. differ (sym e'))) ∙ e))
      (cases_eq n c.fact);
}

pub back-all : (base times : List ℕ) → IsBackBut base [] times → times ≡ base
back-all base times is = ext_get_or 0 times base is.size (λ i h. is.others i refl)

-- a fact that changes is in range
pub fact-fits : (low high : ℕ) (changes : List Change) (i : ℕ) (d : Change) → RisesWithin low high (facts_of changes) → i < length changes → (get_or changes i d).fact < high
fact-fits low high [] i d r h = absurd (omega arith)
fact-fits low high (c ∷ cs) zero d r h = r.1
fact-fits low high (c ∷ cs) (suc i) d r h = fact-fits (c.fact + 1) high cs i d r.2 (omega arith)

-- ---- steps of loops

-- one item more of a list that is looked through from its front
pub rows-more : {X Y : Type 0} (f : X → List Y) (old rows new : List Y) (xs : List X) (i : ℕ) (d : X) → i < length xs → rows ≡ old ++ flat_map f (take i xs) → new ≡ rows ++ f (get_or xs i d) → new ≡ old ++ flat_map f (take (i + 1) xs)
rows-more f old rows new xs i d fits so_far next =
    next ∙ ap (λ rs. rs ++ f (get_or xs i d)) so_far ∙ flat_map_more f old (take i xs) (get_or xs i d) ∙ ap (λ ys. old ++ flat_map f ys) (sym (take_more xs i d fits))

pub rows-end : {X Y : Type 0} (f : X → List Y) (old rows : List Y) (xs : List X) (i : ℕ) → length xs ≤ i → rows ≡ old ++ flat_map f (take i xs) → rows ≡ old ++ flat_map f xs
rows-end f old rows xs i all so_far = so_far ∙ ap (λ ys. old ++ flat_map f ys) (take_all i xs all)

-- a change more in a list whose facts rise
pub rising-next : (low high : ℕ) (changes : List Change) (i : ℕ) (d : Change) → i < length changes → low ≤ (get_or changes i d).fact → (get_or changes i d).fact < high
    → RisesWithin ((get_or changes i d).fact + 1) high (facts_of (drop (i + 1) changes)) → RisesWithin low high (facts_of (drop i changes))
rising-next low high changes i d fits above below rest =
    subst (λ (cs : List Change). RisesWithin low high (facts_of cs)) (sym (drop_more changes i d fits)) (above, below, rest)

pub rising-end : (low high : ℕ) (changes : List Change) (i : ℕ) → length changes ≤ i → RisesWithin low high (facts_of (drop i changes))
rising-end low high changes i all = subst (λ (cs : List Change). RisesWithin low high (facts_of cs)) (sym (drop_all i changes all)) tt

-- a change more is made
pub made-next : (old times new : List ℕ) (changes : List Change) (i : ℕ) (d : Change) → i < length changes → times ≡ changed old (take i changes) → new ≡ set times (get_or changes i d).fact (get_or changes i d).time → new ≡ changed old (take (i + 1) changes)
made-next old times new changes i d fits so_far next =
    next ∙ ap (λ ts. set ts (get_or changes i d).fact (get_or changes i d).time) so_far ∙ sym (changed-push old (take i changes) (get_or changes i d)) ∙ ap (changed old) (sym (take_more changes i d fits))
